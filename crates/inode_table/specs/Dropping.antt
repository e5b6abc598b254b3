-- Private: a record of the row at a place is taken away.
use Rattle.std.specs.Prelude.{◌≡◌, ◌≢◌, ℕ, ◌+◌, ◌<◌, ◌≤◌, List, [], length, Option, Some, None}
use Rattle.std.specs.FinMap.Entries.{put}
use Rattle.hs_types.specs.declared.ids.InodeId.{InodeId}
use Rattle.dir_changes.specs.Counts.{times}
use Rattle.inode_table.specs.declared.row.Row.{Row}
use Rattle.inode_table.specs.declared.row.Rows.{Rows}
use Rattle.inode_table.specs.declared.merging.Dropped.{Dropped}
use Rattle.inode_table.specs.Names.{named_in}
use Rattle.inode_table.specs.RowHistory.{id_order}
use Rattle.inode_table.specs.Numbered.{history_of, state_of, at_place}
use Rattle.inode_table.specs.Totals.{block_count, blocks_named, records_in, entries_of, weight}
use Rattle.inode_table.specs.Slots.{Slots, table_in, named_rows, AreCounted, AreListed}
use Rattle.inode_table.specs.Merged.{merged_rows, ids_dropped, blocks_dropped, IsMergeable, LeavesRows}

-- the row is there, with that record, and prepared
abbrev pub HasRecord : ℕ → Option Row → Type 0
HasRecord i None = ⊥
HasRecord i (Some row) = (i < records_in (history_of row.rows)) × IsMergeable row.rows

pub record Drops (i : ℕ) (old new : Rows) (dropped : Dropped) : Type 0 where
  pub rows : history_of new ≡ merged_rows i (history_of old)
  pub room : LeavesRows old new
  pub ids : dropped.ids ≡ ids_dropped i (history_of old)
  pub blocks : dropped.blocks ≡ blocks_dropped i (history_of old)
  pub count : dropped.count + block_count (history_of new) ≡ block_count (history_of old)
  pub named : (x : InodeId) → times x (named_in (history_of new)) + times x dropped.ids ≡ times x (named_in (history_of old))
  pub lighter : records_in (history_of new) + entries_of (history_of new) ≤ records_in (history_of old) + entries_of (history_of old)

-- marks and names stay
pub record DropsRow (i : ℕ) (old new : Row) (dropped : Dropped) : Type 0 where
  pub rows : Drops i old.rows new.rows dropped
  pub kept : new ≡ record old { rows = new.rows }

abbrev pub DropsAt : ℕ → Option Row → Option Row → Dropped → Type 0
DropsAt i None new dropped = ⊥
DropsAt i (Some old) None dropped = ⊥
DropsAt i (Some old) (Some new) dropped = DropsRow i old new dropped

-- what is left as a record of a row is dropped, before its ids are named less
pub record Leaves (rows after : Slots) (id : InodeId) (i : ℕ) (old : Row) (dropped : Dropped) : Type 0 where
  pub counted : AreCounted rows [] → AreCounted after dropped.ids
  pub listed : (unnamed : List InodeId) → AreListed rows unnamed → AreListed after unnamed
  pub named : named_rows after ≡ named_rows rows
  pub blocks : dropped.count + blocks_named (table_in after) ≡ blocks_named (table_in rows)
  pub few : length dropped.blocks ≤ dropped.count
  pub lighter : weight (table_in after) ≤ weight (table_in rows)
  pub len : length after ≡ length rows
  pub told : table_in after ≡ put id_order id (record (state_of old) { rows = merged_rows i (history_of old.rows) }) (table_in rows)
  pub there : (other : InodeId) → other ≢ id → at_place after other ≡ at_place rows other
  pub ids : dropped.ids ≡ ids_dropped i (history_of old.rows)
  pub waits : dropped.blocks ≡ blocks_dropped i (history_of old.rows)
