use Rattle.std.proofs.Common.{◌≡◌, ◌+◌, ◌-◌, ◌^◌, ◌≤◌, min}
use Rattle.path_resolver.specs.Above.{left_from}
use Rattle.namenode_write.specs.RowCounts.{snaps_of_all, snaps_from}
use Rattle.namenode_write.proofs.rows.lines.snapshot_count.Given as goal

-- those so far and those of the directories that are left are all
abbrev pub invariant-loop-next : goal.invariant-loop-next
invariant-loop-next l = record {
  within : l.count ≤ 2 ^ 64 - 1;
  sum : min (l.count + snaps_from l.snaps l.next) (2 ^ 64 - 1) ≡ min (snaps_of_all l.snaps l.snaps.dirs) (2 ^ 64 - 1);
}

abbrev pub decreases-loop-next : goal.decreases-loop-next
decreases-loop-next l = left_from l.next l.snaps.dirs
