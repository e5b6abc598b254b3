use Rattle.std.proofs.Common.{◌≡◌, ℕ, ◌<◌, true}
use Rattle.inode_table.specs.Numbered.{history_of}
use Rattle.inode_table.specs.Records.{before_at, at_or}
use Rattle.inode_table.specs.Whole.{numbers_in}
use Rattle.record_merge.specs.Dropping.{lives}
use Rattle.record_merge.proofs.losing.lost_in.Given as goal

abbrev pub invariant-loop-i : goal.invariant-loop-i
invariant-loop-i l = record {
  low : before_at 0 (numbers_in (history_of l.rows)) l.i ≡ l.low.0;
  live : (j : ℕ) → j < l.i → lives l.snaps (before_at 0 (numbers_in (history_of l.rows)) j) (at_or (numbers_in (history_of l.rows)) j) ≡ true;
}
