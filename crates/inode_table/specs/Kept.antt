-- What contracts see of a table in memory: its rows, and what room was made.
use Rattle.std.specs.Prelude.{◌≡◌, ℕ, ◌+◌, ◌-◌, ◌<◌, ◌≤◌, List, [], ◌∷◌, length, Option, Some, None}
use Rattle.hs_types.specs.declared.ids.InodeId.{InodeId}
use Rattle.hs_types.specs.declared.ids.BlockId.{BlockId}
use Rattle.file_changes.specs.History as files
use Rattle.dir_changes.specs.Entries.{id_at}
use Rattle.dir_changes.specs.History as dirs
use Rattle.dir_changes.specs.History.{DirHistory}
use Rattle.dir_changes.specs.Sound.{IsSound}
use Rattle.inode_table.specs.declared.row.Row.{Row}
use Rattle.inode_table.specs.declared.row.Rows.{Rows}
use Rattle.inode_table.specs.declared.row.Rows.TheVariants as kinds
use Rattle.inode_table.specs.declared.change.Change.{Change}
use Rattle.inode_table.specs.declared.change.Change.TheVariants as changes
use Rattle.inode_table.specs.RowHistory.{RowHistory, RowState, File, Dir, Table, row_at, rows_at, shown}
use Rattle.inode_table.specs.Numbered.{table_of}
use Rattle.inode_table.specs.Indexed.{Index}
use Rattle.inode_table.specs.Totals.{block_count}
use Rattle.inode_table.specs.Tabled.{Tabled, changed_rows}
use Rattle.inode_table.specs.Once.{IsIn}

-- what can't want memory: so many next ids, entries of the index, rows on the stack of rows that no list names. `blocks` is 0
-- where the next release may want memory, else one more than how many further blocks states may name before it
pub record TableRoom : Type 0 where
  pub slots : ℕ
  pub index : ℕ
  pub stack : ℕ
  pub blocks : ℕ

-- the rows by rising ids
pub record TableValue : Type 0 where
  pub rows : List (InodeId × Row)
  pub index : Index
  pub greatest : ℕ
  pub waiting : List BlockId
  pub room : TableRoom

-- a table that is read, and how many rows were asked for
pub record CountedValue : Type 0 where
  pub table : TableValue
  pub ticks : ℕ

-- the plain table, without the room
abbrev pub told : TableValue → Tabled
told value = record { rows = table_of value.rows; index = value.index; greatest = value.greatest; waiting = value.waiting }

-- ---- conditions

-- new rows: no records, no children
abbrev pub IsBare : RowHistory → Type 0
IsBare (File file) = file.records ≡ []
IsBare (Dir dir) = (dir.records ≡ []) × (dir.children ≡ [])

-- a row that no current list names
pub record IsLoose (table : Table) (id : InodeId) : Type 0 where
  pub row : RowState
  pub there : row_at table id ≡ Some row
  pub loose : (dir : InodeId) (name : List ℕ) → IsIn (shown table 0).entries dir name id → ⊥

-- the change fits a file
abbrev pub FitsFile : Change → Type 0
FitsFile (changes.Mode mode) = Unit {0}
FitsFile (changes.Body size blocks) = Unit {0}
FitsFile (changes.Add name id) = ⊥
FitsFile (changes.Remove name) = ⊥
FitsFile (changes.Move spot) = Unit {0}

-- the change fits a directory: the name of a new entry is free, that of an old one is there
abbrev pub FitsDir : Change → DirHistory → Type 0
FitsDir (changes.Mode mode) dir = Unit {0}
FitsDir (changes.Body size blocks) dir = ⊥
FitsDir (changes.Add name id) dir = id_at name dir.children ≡ None
FitsDir (changes.Remove name) dir = (id : InodeId) × (id_at name dir.children ≡ Some id)
FitsDir (changes.Move spot) dir = Unit {0}

abbrev pub FitsRows : Change → RowHistory → Type 0
FitsRows what (File file) = FitsFile what
FitsRows what (Dir dir) = FitsDir what dir

-- what a new entry names is loose
abbrev pub FitsTable : Change → Table → Type 0
FitsTable (changes.Mode mode) table = Unit {0}
FitsTable (changes.Body size blocks) table = Unit {0}
FitsTable (changes.Add name id) table = IsLoose table id
FitsTable (changes.Remove name) table = Unit {0}
FitsTable (changes.Move spot) table = Unit {0}

-- the row is there, and the change fits it
pub record CanChange (table : Table) (id : InodeId) (what : Change) : Type 0 where
  pub row : RowState
  pub there : row_at table id ≡ Some row
  pub fits : FitsRows what row.rows
  pub entry : FitsTable what table

-- a directory's history is as `DirRows` keeps it
abbrev pub AreSound : RowHistory → Type 0
AreSound (File file) = Unit {0}
AreSound (Dir dir) = IsSound dir

-- ---- room

-- so many changes with one cover of these rows can't want memory
abbrev pub IsReady : ℕ → ℕ → Rows → Type 0
IsReady n cover (kinds.File file) = files.last_number file.history < cover → 0 < file.saves
IsReady n cover (kinds.Dir dir) = (dirs.last_number dir.history < cover → 0 < dir.room.starts) × (n ≤ dir.room.edits)

abbrev pub IsRowReady : ℕ → ℕ → Option Row → Type 0
IsRowReady n cover None = Unit {0}
IsRowReady n cover (Some row) = IsReady n cover row.rows

-- the rows of a row, without its marks and its names
abbrev pub rows_in : Option Row → Option Rows
rows_in None = None
rows_in (Some row) = Some row.rows

-- how many blocks more the states of a row name
abbrev pub blocks_more : RowHistory → RowHistory → ℕ
blocks_more before after = block_count after - block_count before

abbrev pub blocks_grown : ℕ → ℕ → Change → Option RowState → ℕ
blocks_grown cover tick what None = 0
blocks_grown cover tick what (Some row) = blocks_more row.rows (changed_rows cover tick what row.rows)

-- what an insertion takes
pub record HasInsertRoom (id : InodeId) (rows : RowHistory) (greatest : ℕ) (room : TableRoom) : Type 0 where
  pub slots : id.0 ≤ greatest + room.slots
  pub index : 0 < room.index
  pub stack : id.0 + 1 ≤ greatest + room.stack
  pub blocks : block_count rows < room.blocks

-- and what it leaves
pub record UsesInsert (id : InodeId) (rows : RowHistory) (greatest : ℕ) (before after : TableRoom) : Type 0 where
  pub slots : before.slots + greatest ≤ after.slots + id.0
  pub index : before.index ≤ after.index + 1
  pub stack : before.stack + greatest ≤ after.stack + (id.0 + 1)
  pub blocks : before.blocks ≤ after.blocks + block_count rows

-- what a change takes, beside the row's own room, where states name so many blocks more
pub record HasChangeRoom (grown : ℕ) (room : TableRoom) : Type 0 where
  pub index : 0 < room.index
  pub stack : 0 < room.stack
  pub blocks : grown < room.blocks

-- and what it leaves
pub record UsesChange (grown : ℕ) (before after : TableRoom) : Type 0 where
  pub slots : before.slots ≤ after.slots
  pub index : before.index ≤ after.index + 1
  pub stack : before.stack ≤ after.stack + 1
  pub blocks : before.blocks ≤ after.blocks + grown

-- no room is used up
pub record KeepsRoom (before after : TableRoom) : Type 0 where
  pub slots : before.slots ≤ after.slots
  pub index : before.index ≤ after.index
  pub stack : before.stack ≤ after.stack
  pub blocks : before.blocks ≤ after.blocks

-- how many blocks more three changes with one cover may name, each of them with one block more than before
abbrev pub blocks_ahead : Option RowHistory → ℕ
blocks_ahead None = 0
blocks_ahead (Some (File file)) = length file.current.blocks + 3
blocks_ahead (Some (Dir dir)) = 0

abbrev pub all_ahead : Table → List InodeId → ℕ
all_ahead table [] = 0
all_ahead table (id ∷ ids) = blocks_ahead (rows_at table id) + all_ahead table ids

-- what is made for an insertion of the next id and so many changes, which may name so many blocks more
pub record IsPrepared (changes ahead : ℕ) (room : TableRoom) : Type 0 where
  pub slots : 1 ≤ room.slots
  pub index : changes + 1 ≤ room.index
  pub stack : changes + 2 ≤ room.stack
  pub blocks : ahead < room.blocks
