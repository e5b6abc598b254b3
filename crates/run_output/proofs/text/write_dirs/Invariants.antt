use Rattle.std.proofs.Common.{◌≡◌, ◌++◌, string_bytes, map, drop}
use Rattle.std.specs.List.{flat_map}
use Rattle.run_output.specs.TextParts.{ended, indented}
use Rattle.run_output.specs.ReplyText.{dir_text}
use Rattle.run_output.proofs.text.write_dirs.Given as goal

-- what is written, and the text of the items that are left, is all
abbrev pub invariant-loop-item : goal.invariant-loop-item
invariant-loop-item l = string_bytes l.out ++ flat_map ended (map indented (map dir_text (drop l.item-index l.list))) ≡ string_bytes l.initial.out ++ flat_map ended (map indented (map dir_text l.list))
