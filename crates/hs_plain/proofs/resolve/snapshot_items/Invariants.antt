use Rattle.std.proofs.Common.{◌≡◌, drop, length, ◌-◌}
use Rattle.hs_plain.specs.State.{snapshot_items}
use Rattle.hs_plain.proofs.resolve.snapshot_items.Given as goal

-- the members from the end on are listed
abbrev pub invariant-loop-member : goal.invariant-loop-member
invariant-loop-member g l = l.items.items ≡ snapshot_items (drop (length l.members - length l.yielded) l.members) l.directory
