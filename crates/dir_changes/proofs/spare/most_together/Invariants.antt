use Rattle.std.proofs.Common.{◌≡◌, ◌≤◌, length, drop}
use Rattle.dir_changes.specs.Spare.{PairsFit, created_len, deleted_len}
use Rattle.dir_changes.proofs.LastLaws.{next_len}
use Rattle.dir_changes.proofs.spare.most_together.Given as goal

-- the records from `left` on are measured
abbrev pub invariant-loop-left : goal.invariant-loop-left
invariant-loop-left l = record {
  within : l.left ≤ length l.records;
  created : PairsFit created_len l.most_created (drop l.left l.records);
  deleted : PairsFit deleted_len l.most_deleted (drop l.left l.records);
  next_created : l.next_created ≡ next_len created_len (drop l.left l.records);
  next_deleted : l.next_deleted ≡ next_len deleted_len (drop l.left l.records);
}

abbrev pub decreases-loop-left : goal.decreases-loop-left
decreases-loop-left l = l.left
