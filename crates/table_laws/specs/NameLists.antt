-- Rows and current lists before and after each step of a table, whatever else holds of it: so that a tree may be read from them before names are known to be true.
use Rattle.std.specs.Prelude.{◌≡◌, ◌≢◌, ℕ, List, is_some, Some, None}
use Rattle.hs_types.specs.declared.ids.InodeId.{InodeId}
use Rattle.dir_changes.specs.Entries.{id_at, with_entry, without_name}
use Rattle.dir_changes.specs.History.{DirHistory}
use Rattle.inode_table.specs.declared.change.Change.{Change}
use Rattle.inode_table.specs.declared.change.Change.TheVariants as changes
use Rattle.inode_table.specs.RowHistory.{RowHistory, Dir, Table, row_at, rows_at}
use Rattle.inode_table.specs.Once.{IsIn, NewList}
use Rattle.inode_table.specs.Tabled.{Tabled, changed, inserted, marked_row}
use Rattle.inode_table.specs.Kept.{IsBare, CanChange}
use Rattle.inode_table.specs.Merged.{merged}
use Rattle.inode_table.specs.Released.{ReleasedBy}
use Rattle.table_laws.specs.Naming.{lists_of, AllSound, IsQuiet}

-- a directory has no entry of that name
pub record HasPlace (table : Table) (id : InodeId) (name : List ℕ) : Type 0 where
  pub dir : DirHistory
  pub there : rows_at table id ≡ Some (Dir dir)
  pub free : id_at name dir.children ≡ None

-- a change takes no row away and makes none, and no other row's states are others
abbrev pub ChangedRowsLaw : Type 0
ChangedRowsLaw = (t : Tabled) (id : InodeId) (cover tick : ℕ) (what : Change)
    → ((x : InodeId) → is_some (row_at (changed id cover tick what t).rows x) ≡ is_some (row_at t.rows x)) × ((x : InodeId) → x ≢ id → rows_at (changed id cover tick what t).rows x ≡ rows_at t.rows x)

-- another mode, body or spot
abbrev pub QuietListsLaw : Type 0
QuietListsLaw = (t : Tabled) (id : InodeId) (cover tick : ℕ) (what : Change) → IsQuiet what → (dir : InodeId) → lists_of (changed id cover tick what t).rows dir ≡ lists_of t.rows dir

-- an entry less
abbrev pub RemoveListsLaw : Type 0
RemoveListsLaw = (t : Tabled) (id x : InodeId) (cover tick : ℕ) (name : List ℕ) → IsIn (lists_of t.rows) id name x
    → NewList (lists_of t.rows) (lists_of (changed id cover tick (changes.Remove name) t).rows) id (without_name name (lists_of t.rows id))

-- an entry more
abbrev pub AddListsLaw : Type 0
AddListsLaw = (t : Tabled) (id x : InodeId) (cover tick : ℕ) (name : List ℕ) → HasPlace t.rows id name
    → NewList (lists_of t.rows) (lists_of (changed id cover tick (changes.Add name x) t).rows) id (with_entry name x (lists_of t.rows id))

-- other marks
abbrev pub MarkListsLaw : Type 0
MarkListsLaw = (t : Tabled) (id : InodeId) (since carry : ℕ) (dir : InodeId) → lists_of (marked_row id since carry t).rows dir ≡ lists_of t.rows dir

-- ---- directories stay as their rows keep them

abbrev pub ChangedSoundLaw : Type 0
ChangedSoundLaw = (t : Tabled) (id : InodeId) (cover tick : ℕ) (what : Change) → CanChange t.rows id what → AllSound t.rows → AllSound (changed id cover tick what t).rows

abbrev pub InsertedSoundLaw : Type 0
InsertedSoundLaw = (t : Tabled) (id : InodeId) (rows : RowHistory) (since : ℕ) → IsBare rows → AllSound t.rows → AllSound (inserted id rows since t).rows

abbrev pub MarkedSoundLaw : Type 0
MarkedSoundLaw = (t : Tabled) (id : InodeId) (since carry : ℕ) → AllSound t.rows → AllSound (marked_row id since carry t).rows

abbrev pub MergedSoundLaw : Type 0
MergedSoundLaw = (t : Tabled) (id : InodeId) (i : ℕ) → AllSound t.rows → AllSound (merged id i t).rows

abbrev pub ReleasedSoundLaw : Type 0
ReleasedSoundLaw = (before after : Tabled) (gone : List InodeId) → ReleasedBy before gone after → AllSound before.rows → AllSound after.rows
