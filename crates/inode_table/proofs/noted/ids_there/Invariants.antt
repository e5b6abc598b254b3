use Rattle.std.proofs.Common.{◌≡◌, take}
use Rattle.inode_table.specs.Indexed.{ids_there}
use Rattle.inode_table.specs.Slots.{table_in}
use Rattle.inode_table.proofs.noted.ids_there.Given as goal

abbrev pub invariant-loop-entry : goal.invariant-loop-entry
invariant-loop-entry l = l.ids.items ≡ ids_there (table_in l.rows.items) (take l.entry-index l.index)
