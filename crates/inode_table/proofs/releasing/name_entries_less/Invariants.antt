use Rattle.std.proofs.Common.{◌≡◌, ◌+◌, ◌≤◌, ◌++◌, drop, vec_len, vec_capacity}
use Rattle.dir_changes.specs.History.{ids_of}
use Rattle.inode_table.specs.Slots.{named_rows}
use Rattle.inode_table.specs.Lessened.{lessen_all, ended}
use Rattle.inode_table.proofs.releasing.name_entries_less.Given as goal

abbrev pub invariant-loop-child : goal.invariant-loop-child
invariant-loop-child l = record {
  rows : lessen_all (ids_of (drop l.child-index l.children)) l.rows.items ≡ lessen_all (ids_of l.children) l.initial.rows.items;
  unnamed : l.unnamed.items ++ ended (ids_of (drop l.child-index l.children)) l.rows.items ≡ l.initial.unnamed.items ++ ended (ids_of l.children) l.initial.rows.items;
  room : vec_len l.unnamed + named_rows l.rows.items ≤ vec_capacity l.unnamed;
  capacity : vec_capacity l.unnamed ≡ vec_capacity l.initial.unnamed;
  slots : vec_capacity l.rows ≡ vec_capacity l.initial.rows;
}
