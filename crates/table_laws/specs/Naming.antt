-- How often rows are named, and by which current lists, before and after each step of a table.
use Rattle.std.specs.Prelude.{◌≡◌, ◌≢◌, ◌⊎◌, ℕ, ◌<◌, List, [], ◌∷◌, ◌++◌, length, is_some, Some, None}
use Rattle.std.specs.List.{Contains}
use Rattle.hs_types.specs.declared.ids.InodeId.{InodeId}
use Rattle.hs_types.specs.declared.name.Spot.{Spot}
use Rattle.hs_plain.specs.declared.state.FileBlocks.{FileBlocks}
use Rattle.dir_changes.specs.Entries.{with_entry, without_name}
use Rattle.dir_changes.specs.History.{DirHistory}
use Rattle.dir_changes.specs.Sound.{IsSound}
use Rattle.inode_table.specs.declared.change.Change.{Change}
use Rattle.inode_table.specs.declared.change.Change.TheVariants as changes
use Rattle.inode_table.specs.declared.freed.Freed.{Freed}
use Rattle.inode_table.specs.Reads.{Shown, Nodes, ReadsAs, IsNodes, Has}
use Rattle.inode_table.specs.RowHistory.{RowHistory, RowState, Dir, Table, row_at, rows_at, shown}
use Rattle.inode_table.specs.Stands.{root_id}
use Rattle.inode_table.specs.Names.{times_named}
use Rattle.inode_table.specs.Once.{Lists, IsIn, NewList}
use Rattle.inode_table.specs.Tabled.{Tabled, changed, inserted, marked_row}
use Rattle.inode_table.specs.Kept.{IsBare, IsLoose, CanChange}
use Rattle.inode_table.specs.Merged.{merged, ids_dropped}
use Rattle.inode_table.specs.Released.{Releasing}
use Rattle.inode_table.specs.Start.{first_table}
use Rattle.inode_table.specs.Whole.{AreNamed, AllNamed, numbers_in}

-- the current lists, by directory
abbrev pub lists_of : Table → Lists
lists_of table = (shown table 0).entries

-- each directory's history is as its row keeps it
abbrev pub AllSound : Table → Type 0
AllSound table = (id : InodeId) (dir : DirHistory) → rows_at table id ≡ Some (Dir dir) → IsSound dir

-- each row but the root and these is named
abbrev pub NamedBut : List InodeId → Table → Type 0
NamedBut unnamed table = (id : InodeId) (rows : RowHistory) → rows_at table id ≡ Some rows → id ≢ root_id → Contains unnamed id ⊎ (0 < times_named id table)

-- a directory of a tree that is read from the root, with these current lists
pub record IsLive (lists : Lists) (dir : InodeId) : Type 0 where
  pub shown : Shown FileBlocks
  pub nodes : Nodes FileBlocks
  pub alike : (id : InodeId) → shown.entries id ≡ lists id
  pub is : IsNodes nodes
  pub reads : ReadsAs shown root_id nodes
  pub has : Has nodes dir

-- ---- what a step leaves

-- the same rows, the same lists, and each row named as often
pub record SameNames (before after : Table) : Type 0 where
  pub rows : (x : InodeId) → is_some (row_at after x) ≡ is_some (row_at before x)
  pub lists : (dir : InodeId) → lists_of after dir ≡ lists_of before dir
  pub named : (x : InodeId) → times_named x after ≡ times_named x before

-- nothing is named otherwise
pub record KeepsNames (before after : Table) : Type 0 where
  pub same : SameNames before after
  pub named : AreNamed after
  pub but : (unnamed : List InodeId) → NamedBut unnamed before → NamedBut unnamed after

-- an entry less: what it named is in no current list, and may be unnamed
pub record RemovesName (before after : Table) (dir : InodeId) (name : List ℕ) (x : InodeId) : Type 0 where
  pub rows : (y : InodeId) → is_some (row_at after y) ≡ is_some (row_at before y)
  pub lists : NewList (lists_of before) (lists_of after) dir (without_name name (lists_of before dir))
  pub named : AreNamed after
  pub loose : IsLoose after x
  pub but : (unnamed : List InodeId) → NamedBut unnamed before → NamedBut (x ∷ unnamed) after

-- an entry more: what it names is named
pub record AddsName (before after : Table) (dir : InodeId) (name : List ℕ) (x : InodeId) : Type 0 where
  pub rows : (y : InodeId) → is_some (row_at after y) ≡ is_some (row_at before y)
  pub lists : NewList (lists_of before) (lists_of after) dir (with_entry name x (lists_of before dir))
  pub named : AreNamed after
  pub but : (unnamed : List InodeId) → NamedBut (x ∷ unnamed) before → NamedBut unnamed after

-- a row more, which no list names yet
pub record InsertsName (before after : Table) (id : InodeId) : Type 0 where
  pub lists : (dir : InodeId) → lists_of after dir ≡ lists_of before dir
  pub named : AreNamed after
  pub loose : IsLoose after id
  pub but : (unnamed : List InodeId) → NamedBut unnamed before → NamedBut (id ∷ unnamed) after

-- a record less: the dropped ids may be unnamed
pub record MergesNames (before after : Table) (ids : List InodeId) : Type 0 where
  pub rows : (x : InodeId) → is_some (row_at after x) ≡ is_some (row_at before x)
  pub lists : (dir : InodeId) → lists_of after dir ≡ lists_of before dir
  pub named : AreNamed after
  pub but : (unnamed : List InodeId) → NamedBut unnamed before → NamedBut (ids ++ unnamed) after

-- rows go: what is left of the current lists was there, and all that is left is named
pub record ReleasesNames (before after : Table) : Type 0 where
  pub lists : (dir : InodeId) (name : List ℕ) (x : InodeId) → IsIn (lists_of after) dir name x → IsIn (lists_of before) dir name x
  pub named : AreNamed after
  pub all : AllNamed after

-- ---- steps

-- neither an entry more nor one less
abbrev pub IsQuiet : Change → Type 0
IsQuiet (changes.Mode mode) = Unit {0}
IsQuiet (changes.Body size blocks) = Unit {0}
IsQuiet (changes.Add name id) = ⊥
IsQuiet (changes.Remove name) = ⊥
IsQuiet (changes.Move spot) = Unit {0}

-- another mode, body or spot
abbrev pub QuietNamesLaw : Type 0
QuietNamesLaw = (t : Tabled) (id : InodeId) (cover tick : ℕ) (what : Change) → IsQuiet what → CanChange t.rows id what → AllSound t.rows → AreNamed t.rows → KeepsNames t.rows (changed id cover tick what t).rows

-- an entry is taken out
abbrev pub RemoveNamesLaw : Type 0
RemoveNamesLaw = (t : Tabled) (id x : InodeId) (cover tick : ℕ) (name : List ℕ) → IsIn (lists_of t.rows) id name x → AllSound t.rows → AreNamed t.rows
    → RemovesName t.rows (changed id cover tick (changes.Remove name) t).rows id name x

-- an entry is put in, in a directory of the live tree as it is read once the call is done: a new row's entry, or a renamed one's
abbrev pub AddNamesLaw : Type 0
AddNamesLaw = (t : Tabled) (id x : InodeId) (cover tick : ℕ) (name : List ℕ) → CanChange t.rows id (changes.Add name x) → x ≢ root_id
    → IsLive (lists_of (changed id cover tick (changes.Add name x) t).rows) id → AllSound t.rows → AreNamed t.rows → AddsName t.rows (changed id cover tick (changes.Add name x) t).rows id name x

-- a new row
abbrev pub InsertNamesLaw : Type 0
InsertNamesLaw = (t : Tabled) (id : InodeId) (rows : RowHistory) (since : ℕ) → row_at t.rows id ≡ None → IsBare rows → AreNamed t.rows → InsertsName t.rows (inserted id rows since t).rows id

-- other marks
abbrev pub MarkNamesLaw : Type 0
MarkNamesLaw = (t : Tabled) (id : InodeId) (since carry : ℕ) → AreNamed t.rows → KeepsNames t.rows (marked_row id since carry t).rows

-- one record of one row is taken away
abbrev pub MergeNamesLaw : Type 0
MergeNamesLaw = (t : Tabled) (id : InodeId) (i : ℕ) (row : RowState) → row_at t.rows id ≡ Some row → i < length (numbers_in row.rows) → AllSound t.rows → AreNamed t.rows
    → MergesNames t.rows (merged id i t).rows (ids_dropped i row.rows)

-- rows that no list names go
abbrev pub ReleaseNamesLaw : Type 0
ReleaseNamesLaw = (before after : Tabled) (freed : Freed) → Releasing before freed after → AreNamed before.rows → ReleasesNames before.rows after.rows

-- where no row but the root may be unnamed, all are named; and so at first
abbrev pub AllNamesLaw : Type 0
AllNamesLaw = (table : Table) → (NamedBut [] table → AllNamed table) × (AllNamed table → NamedBut [] table)

-- the first table
abbrev pub StartNamesLaw : Type 0
StartNamesLaw = (spot : Spot) → AreNamed (first_table spot).rows × AllNamed (first_table spot).rows
