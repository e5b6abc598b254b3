use Rattle.std.proofs.Common.{◌≡◌, ◌++◌, string_bytes, map, drop}
use Rattle.std.specs.List.{flat_map}
use Rattle.run_output.specs.TextParts.{ended, indented}
use Rattle.run_output.specs.ReplyText.{item_text}
use Rattle.run_output.proofs.text.write_page_items.Given as goal

-- what is written, and the text of the items that are left, is all
abbrev pub invariant-loop-item : goal.invariant-loop-item
invariant-loop-item l = string_bytes l.out ++ flat_map ended (map indented (map item_text (drop l.item-index l.items))) ≡ string_bytes l.initial.out ++ flat_map ended (map indented (map item_text l.items))
