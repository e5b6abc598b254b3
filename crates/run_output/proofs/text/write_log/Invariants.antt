use Rattle.std.proofs.Common.{◌≡◌, ◌++◌, string_bytes, drop}
use Rattle.std.specs.List.{flat_map}
use Rattle.run_output.specs.TextParts.{ended}
use Rattle.run_output.specs.Text.{item_lines}
use Rattle.run_output.proofs.text.write_log.Given as goal

-- what is written, and the text of the items that are left, is all
abbrev pub invariant-loop-item : goal.invariant-loop-item
invariant-loop-item l = string_bytes l.out ++ flat_map ended (flat_map item_lines (drop l.item-index l.item-items)) ≡ string_bytes l.initial.out ++ flat_map ended (flat_map item_lines l.item-items)
