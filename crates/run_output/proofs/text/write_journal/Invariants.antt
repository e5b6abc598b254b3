use Rattle.std.proofs.Common.{◌≡◌, ◌++◌, string_bytes, drop}
use Rattle.std.specs.List.{flat_map}
use Rattle.run_output.specs.TextParts.{ended}
use Rattle.run_output.specs.Text.{entry_lines}
use Rattle.run_output.proofs.text.write_journal.Given as goal

-- what is written, and the text of the entries that are left, is all
abbrev pub invariant-loop-index : goal.invariant-loop-index
invariant-loop-index l = string_bytes l.out ++ flat_map ended (entry_lines l.index (drop l.index l.entries)) ≡ string_bytes l.initial.out ++ flat_map ended (entry_lines 0 l.entries)
