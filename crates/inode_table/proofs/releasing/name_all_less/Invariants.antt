use Rattle.std.proofs.Common.{◌≡◌, ◌+◌, ◌≤◌, ◌++◌, drop, vec_len, vec_capacity}
use Rattle.inode_table.specs.Slots.{named_rows}
use Rattle.inode_table.specs.Lessened.{lessen_all, ended}
use Rattle.inode_table.proofs.releasing.name_all_less.Given as goal

abbrev pub invariant-loop-id : goal.invariant-loop-id
invariant-loop-id l = record {
  rows : lessen_all (drop l.id-index l.ids) l.rows.items ≡ lessen_all (l.ids) l.initial.rows.items;
  unnamed : l.unnamed.items ++ ended (drop l.id-index l.ids) l.rows.items ≡ l.initial.unnamed.items ++ ended (l.ids) l.initial.rows.items;
  room : vec_len l.unnamed + named_rows l.rows.items ≤ vec_capacity l.unnamed;
  capacity : vec_capacity l.unnamed ≡ vec_capacity l.initial.unnamed;
  slots : vec_capacity l.rows ≡ vec_capacity l.initial.rows;
}
