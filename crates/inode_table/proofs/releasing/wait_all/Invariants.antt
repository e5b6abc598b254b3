use Rattle.std.proofs.Common.{◌≡◌, ◌+◌, ◌≤◌, ◌++◌, length, vec_len, vec_capacity}
use Rattle.inode_table.specs.RowHistory.{File}
use Rattle.inode_table.specs.Totals.{block_count}
use Rattle.inode_table.specs.Released.{blocks_below}
use Rattle.inode_table.proofs.releasing.wait_all.Given as goal

abbrev pub invariant-loop-left : goal.invariant-loop-left
invariant-loop-left l = record {
  left : l.left ≡ length l.file.history.records;
  blocks : l.waiting.items ++ blocks_below l.left l.file.history ≡ l.initial.waiting.items ++ blocks_below (length l.initial.file.history.records) l.initial.file.history;
  room : vec_len l.waiting + block_count (File l.file.history) ≤ vec_capacity l.waiting;
  capacity : vec_capacity l.waiting ≡ vec_capacity l.initial.waiting;
}

abbrev pub decreases-loop-left : goal.decreases-loop-left
decreases-loop-left l = l.left
