-- The rows of a table in memory.
use Rattle.std.proofs.Common.{◌≡◌, Option, sym}
use denote.Bor.{Bor}
use Rattle.std.specs.Option.{option_copied, option_map}
use Rattle.hs_types.specs.declared.ids.InodeId.{InodeId}
use Rattle.inode_table.specs.declared.row.Row.{Row}
use Rattle.inode_table.specs.Kept.{TableValue, told}
use Rattle.inode_table.specs.Numbered.{row_of, history_of}
use Rattle.inode_table.specs.RowHistory.{rows_at}
use Rattle.path_resolver.proofs.ByRows.{rows-told}

-- what a look at a row tells
pub looked-at : (table : TableValue) (id : InodeId) (found : Option (Bor Row)) → option_copied found ≡ row_of table.rows id → option_map (λ row. history_of row.rows) (option_copied found) ≡ rows_at (told table).rows id
looked-at table id found e = sym (rows-told table id (option_copied found) (sym e))
