use Rattle.std.proofs.Common.{◌≡◌, ℕ, ◌<◌, get_or, vec_len, vec_capacity}
use Rattle.hs_types.specs.declared.ids.InodeId.{InodeId}
use Rattle.inode_table.specs.Merged.{KeepsRow}
use Rattle.inode_table.specs.Numbered.{at_place}
use Rattle.inode_table.specs.Prepared.{IsPreparedRow}
use Rattle.inode_table.specs.Slots.{table_in}
use Rattle.inode_table.proofs.preparing.prepare_rows.Given as goal

abbrev pub invariant-loop-id : goal.invariant-loop-id
invariant-loop-id l = record {
  told : table_in l.rows.items ≡ table_in l.initial.rows.items;
  len : vec_len l.rows ≡ vec_len l.initial.rows;
  capacity : vec_capacity l.rows ≡ vec_capacity l.initial.rows;
  kept : (id : InodeId) → KeepsRow (at_place l.initial.rows.items id) (at_place l.rows.items id);
  ready : (k : ℕ) → k < l.id-index → (d : InodeId) → IsPreparedRow l.changes (at_place l.rows.items (get_or l.ids k d));
}
