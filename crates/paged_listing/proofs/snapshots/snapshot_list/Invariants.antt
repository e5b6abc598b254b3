use Rattle.std.proofs.Common.{◌≡◌, ◌++◌, length, filter}
use Rattle.snapshot_manager.specs.Snapshots.{snaps_in, is_after}
use Rattle.paged_listing.proofs.snapshots.snapshot_list.Given as goal

-- the snapshots so far and the later ones are all
abbrev pub invariant-loop-item : goal.invariant-loop-item
invariant-loop-item l = l.list.items ++ filter (is_after l.last) (snaps_in l.snaps l.dir) ≡ snaps_in l.snaps l.dir

abbrev pub decreases-loop-item : goal.decreases-loop-item
decreases-loop-item l = length (filter (is_after l.last) (snaps_in l.snaps l.dir))
