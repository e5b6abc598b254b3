use Rattle.std.proofs.Common.{◌≡◌, ◌≤◌, ◌+◌, length, Ok}
use Rattle.std.specs.List.{fold}
use Rattle.script_text.specs.Words.{lines_of}
use Rattle.script_text.specs.Scripts.{start, read_line}
use Rattle.script_text.proofs.reader.read.Given as goal

-- the lines so far and those of the rest are all
abbrev pub invariant-loop-rest : goal.invariant-loop-rest
invariant-loop-rest l = record {
  all : fold read_line (Ok l.reading) (lines_of l.rest) ≡ fold read_line (Ok start) (lines_of l.bytes);
  numbered : l.reading.line + length l.rest ≤ 1 + length l.bytes;
}

abbrev pub decreases-loop-rest : goal.decreases-loop-rest
decreases-loop-rest l = length l.rest
