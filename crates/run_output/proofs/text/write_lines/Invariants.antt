use Rattle.std.proofs.Common.{◌≡◌, ◌++◌, string_bytes, map, drop}
use Rattle.std.specs.List.{flat_map}
use Rattle.run_output.specs.TextParts.{ended, indented}
use Rattle.run_output.specs.ReplyText.{line_text}
use Rattle.run_output.proofs.text.write_lines.Given as goal

-- what is written, and the text of the lines that are left, is all
abbrev pub invariant-loop-line : goal.invariant-loop-line
invariant-loop-line l = string_bytes l.out ++ flat_map ended (map indented (map line_text (drop l.line-index l.lines))) ≡ string_bytes l.initial.out ++ flat_map ended (map indented (map line_text l.lines))
