use Rattle.std.proofs.Common.{◌≡◌, ◌+◌, ◌≤◌, ◌++◌, drop, vec_len, vec_capacity}
use Rattle.dir_changes.specs.Counts.{deleted_ids}
use Rattle.inode_table.specs.Slots.{named_rows}
use Rattle.inode_table.specs.Lessened.{lessen_all, ended}
use Rattle.inode_table.proofs.releasing.name_deleted_less.Given as goal

abbrev pub invariant-loop-i : goal.invariant-loop-i
invariant-loop-i l = record {
  rows : lessen_all (deleted_ids (drop l.i l.dir.history.records)) l.rows.items ≡ lessen_all (deleted_ids l.dir.history.records) l.initial.rows.items;
  unnamed : l.unnamed.items ++ ended (deleted_ids (drop l.i l.dir.history.records)) l.rows.items ≡ l.initial.unnamed.items ++ ended (deleted_ids l.dir.history.records) l.initial.rows.items;
  room : vec_len l.unnamed + named_rows l.rows.items ≤ vec_capacity l.unnamed;
  capacity : vec_capacity l.unnamed ≡ vec_capacity l.initial.unnamed;
  slots : vec_capacity l.rows ≡ vec_capacity l.initial.rows;
}
