use Rattle.std.proofs.Common.{◌≡◌, ◌+◌, drop}
use Rattle.inode_table.specs.Kept.{all_ahead}
use Rattle.inode_table.specs.Slots.{table_in}
use Rattle.inode_table.proofs.preparing.with_all_ahead.Given as goal

abbrev pub invariant-loop-id : goal.invariant-loop-id
invariant-loop-id l = l.all + all_ahead (table_in l.rows.items) (drop l.id-index l.ids) ≡ l.blocks + all_ahead (table_in l.rows.items) l.ids
