use Rattle.std.proofs.Common.{◌≡◌, drop, length, ◌-◌}
use Rattle.paged_listing.specs.Items.{snap_items}
use Rattle.paged_listing.proofs.snapshots.named_items.Given as goal

-- the snapshots from the end on are listed
abbrev pub invariant-loop-snapshot : goal.invariant-loop-snapshot
invariant-loop-snapshot l = l.items.items ≡ snap_items l.dir (drop (length l.list - length l.yielded) l.list)
