-- One record of one row is taken away.
use Rattle.std.specs.Prelude.{◌≡◌, ◌≢◌, ℕ, ◌+◌, ◌<◌, ◌≤◌, List, [], ◌++◌, length, remove, Option, Some, None}
use Rattle.std.specs.FinMap.Entries.{put}
use Rattle.hs_types.specs.declared.ids.BlockId.{BlockId}
use Rattle.hs_types.specs.declared.ids.InodeId.{InodeId}
use Rattle.file_changes.specs.History as files
use Rattle.file_changes.specs.History.{only_at}
use Rattle.dir_changes.specs.History as dirs
use Rattle.dir_changes.specs.History.{ids_of, dropped_at}
use Rattle.inode_table.specs.declared.row.Row.{Row}
use Rattle.inode_table.specs.declared.row.Rows.{Rows}
use Rattle.inode_table.specs.declared.row.Rows.TheVariants as kinds
use Rattle.dir_changes.specs.Rows.{UsesMerge}
use Rattle.inode_table.specs.RowHistory.{RowHistory, RowState, File, Dir, Table, row_at, rows_at, marks_of, id_order}
use Rattle.inode_table.specs.Records.{Merges}
use Rattle.inode_table.specs.Whole.{numbers_in}
use Rattle.inode_table.specs.Numbered.{row_of, history_of}
use Rattle.inode_table.specs.Kept.{TableValue, TableRoom, AreSound, IsRowReady}
use Rattle.inode_table.specs.Tabled.{Tabled}
use Rattle.inode_table.specs.Totals.{records_in}
use Rattle.inode_table.specs.Released.{all_named_less}

-- a file's record is dropped; a directory's is taken into the one before it, or dropped as the first
abbrev pub merged_rows : ℕ → RowHistory → RowHistory
merged_rows i (File file) = File (files.without_record i file)
merged_rows i (Dir dir) = Dir (dirs.without_record i dir)

-- the ids of the deleted entries that no list has then
abbrev pub ids_dropped : ℕ → RowHistory → List InodeId
ids_dropped i (File file) = []
ids_dropped i (Dir dir) = ids_of (dropped_at i dir.records)

-- the blocks that only that record named
abbrev pub blocks_dropped : ℕ → RowHistory → List BlockId
blocks_dropped i (File file) = only_at i file
blocks_dropped i (Dir dir) = []

abbrev pub merged_from : InodeId → ℕ → Option RowState → Tabled → Tabled
merged_from id i None t = t
merged_from id i (Some row) t = record t {
  rows = all_named_less (ids_dropped i row.rows) (put id_order id (record row { rows = merged_rows i row.rows }) t.rows);
  waiting = t.waiting ++ blocks_dropped i row.rows;
}

-- record i of a row taken away: the ids that its lists name no more are named once less, and the blocks that only it named wait
abbrev pub merged : InodeId → ℕ → Tabled → Tabled
merged id i t = merged_from id i (row_at t.rows id) t

-- ---- conditions and room

-- a record can be taken away without memory
abbrev pub IsMergeable : Rows → Type 0
IsMergeable (kinds.File file) = Unit {0}
IsMergeable (kinds.Dir dir) = 0 < dir.room.merges

abbrev pub IsRowMergeable : Option Row → Type 0
IsRowMergeable None = Unit {0}
IsRowMergeable (Some row) = IsMergeable row.rows

-- the row is there, is prepared and has that record
pub record CanMerge (value : TableValue) (id : InodeId) (i : ℕ) : Type 0 where
  pub row : Row
  pub there : row_of value.rows id ≡ Some row
  pub has : i < records_in (history_of row.rows)
  pub prepared : IsMergeable row.rows
  pub room : 0 < value.room.blocks

-- what a row was prepared for, it still is
pub record KeepsRow (before after : Option Row) : Type 0 where
  pub changes : (n cover : ℕ) → IsRowReady n cover before → IsRowReady n cover after
  pub merge : IsRowMergeable before → IsRowMergeable after

-- what a merge leaves of the room, where so many ids are dropped
pub record LeavesRoom (ids : ℕ) (before after : TableRoom) : Type 0 where
  pub slots : before.slots ≤ after.slots
  pub index : before.index ≤ after.index
  pub stack : before.stack ≤ after.stack + ids
  pub blocks : before.blocks ≤ after.blocks

-- what was made for rows of which a record is taken away stays, but for what that takes
abbrev pub LeavesRows : Rows → Rows → Type 0
LeavesRows (kinds.File before) (kinds.File after) = after.saves ≡ before.saves
LeavesRows (kinds.File before) (kinds.Dir after) = ⊥
LeavesRows (kinds.Dir before) (kinds.File after) = ⊥
LeavesRows (kinds.Dir before) (kinds.Dir after) = UsesMerge before.room after.room

abbrev pub LeavesRow : Option Rows → Option Rows → Type 0
LeavesRow None after = Unit {0}
LeavesRow (Some before) None = ⊥
LeavesRow (Some before) (Some after) = LeavesRows before after

abbrev pub ids_dropped_at : ℕ → Option Row → List InodeId
ids_dropped_at i None = []
ids_dropped_at i (Some row) = ids_dropped i (history_of row.rows)

-- ---- what is read

-- one record of one row is taken away; the others read as before, and their marks stay
pub record MergesOne (before after : Table) (id : InodeId) (i : ℕ) (old new : RowHistory) : Type 0 where
  pub here : rows_at after id ≡ Some new
  pub there : (other : InodeId) → other ≢ id → rows_at after other ≡ rows_at before other
  pub marks : (other : InodeId) → marks_of after other ≡ marks_of before other
  pub numbers : numbers_in new ≡ remove (numbers_in old) i
  pub reads : Merges i (numbers_in old) old new

abbrev pub MergedLaw : Type 0
MergedLaw = (t : Tabled) (id : InodeId) (i : ℕ) (row : RowState) → row_at t.rows id ≡ Some row → AreSound row.rows → i < length (numbers_in row.rows)
    → MergesOne t.rows (merged id i t).rows id i row.rows (merged_rows i row.rows)
