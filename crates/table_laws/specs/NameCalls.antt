-- Names before and after the steps of one call.
use Rattle.std.specs.Prelude.{◌≡◌, ◌≢◌, ℕ, ◌<◌, List, [], ◌∷◌, length, Some, None}
use Rattle.hs_types.specs.declared.ids.InodeId.{InodeId}
use Rattle.hs_types.specs.declared.name.Spot.{Spot}
use Rattle.inode_table.specs.declared.change.Change.{Change}
use Rattle.inode_table.specs.declared.change.Change.TheVariants as changes
use Rattle.inode_table.specs.declared.freed.Freed.{Freed}
use Rattle.inode_table.specs.RowHistory.{RowHistory, RowState, row_at}
use Rattle.inode_table.specs.Stands.{root_id}
use Rattle.inode_table.specs.Once.{IsIn}
use Rattle.inode_table.specs.Tabled.{Tabled, changed, inserted, marked_row}
use Rattle.inode_table.specs.Kept.{IsBare, CanChange}
use Rattle.inode_table.specs.Merged.{merged}
use Rattle.inode_table.specs.Released.{Releasing}
use Rattle.inode_table.specs.Whole.{AllNamed, numbers_in, AreNamed}
use Rattle.table_laws.specs.Naming.{lists_of, AllSound, IsLive, IsQuiet}
use Rattle.table_laws.specs.NameLists.{HasPlace}

-- ---- the steps

-- a new row, and its entry
abbrev pub row_made : InodeId → RowHistory → ℕ → InodeId → ℕ → ℕ → List ℕ → Tabled → Tabled
row_made id rows since dir cover tick name t = changed dir cover tick (changes.Add name id) (inserted id rows since t)

-- a row's entry taken out of one directory and put into another, or into the same one; its new spot; and its marks
pub record Moving : Type 0 where
  pub row : InodeId
  pub from : InodeId
  pub to : InodeId
  pub old_name : List ℕ
  pub new_name : List ℕ
  pub spot : Spot
  pub tick : ℕ
  pub from_cover : ℕ
  pub to_cover : ℕ
  pub row_cover : ℕ
  pub since : ℕ
  pub carry : ℕ

abbrev pub entry_moved : Moving → Tabled → Tabled
entry_moved m t = marked_row m.row m.since m.carry
    (changed m.row m.row_cover m.tick (changes.Move m.spot) (changed m.to m.to_cover m.tick (changes.Add m.new_name m.row) (changed m.from m.from_cover m.tick (changes.Remove m.old_name) t)))

-- records of rows are taken away in turn, each of them there
abbrev pub MergedBy : Tabled → List (InodeId × ℕ) → Tabled → Type 0
MergedBy before [] after = after ≡ before
MergedBy before (one ∷ more) after = (row : RowState) × (row_at before.rows one.0 ≡ Some row) × (one.1 < length (numbers_in row.rows)) × MergedBy (merged one.0 one.1 before) more after

-- ---- what they leave

-- directories are sound, and names are true
pub record HasNames (t : Tabled) : Type 0 where
  pub sound : AllSound t.rows
  pub named : AreNamed t.rows

-- and each row but the root is named
pub record HasAllNames (t : Tabled) : Type 0 where
  pub sound : AllSound t.rows
  pub named : AreNamed t.rows
  pub all : AllNamed t.rows

-- another mode or body
abbrev pub TouchNamesLaw : Type 0
TouchNamesLaw = (t : Tabled) (id : InodeId) (cover tick : ℕ) (what : Change) → IsQuiet what → CanChange t.rows id what → HasAllNames t → HasAllNames (changed id cover tick what t)

-- a new directory or file
abbrev pub MakeNamesLaw : Type 0
MakeNamesLaw = (t : Tabled) (id : InodeId) (rows : RowHistory) (since : ℕ) (dir : InodeId) (cover tick : ℕ) (name : List ℕ) → row_at t.rows id ≡ None → IsBare rows → id ≢ root_id → HasPlace t.rows dir name
    → IsLive (lists_of (row_made id rows since dir cover tick name t).rows) dir → HasAllNames t → HasAllNames (row_made id rows since dir cover tick name t)

-- a rename
abbrev pub RenameNamesLaw : Type 0
RenameNamesLaw = (t : Tabled) (m : Moving) → IsIn (lists_of t.rows) m.from m.old_name m.row → HasPlace t.rows m.to m.new_name → m.row ≢ root_id
    → IsLive (lists_of (entry_moved m t).rows) m.to → HasAllNames t → HasAllNames (entry_moved m t)

-- a deletion
abbrev pub DeleteNamesLaw : Type 0
DeleteNamesLaw = (t after : Tabled) (freed : Freed) (dir x : InodeId) (cover tick : ℕ) (name : List ℕ) → IsIn (lists_of t.rows) dir name x → Releasing (changed dir cover tick (changes.Remove name) t) freed after
    → HasNames t → HasAllNames after

-- a new file in place of one, whose row goes last
abbrev pub ReplaceNamesLaw : Type 0
ReplaceNamesLaw = (t after : Tabled) (freed : Freed) (id : InodeId) (rows : RowHistory) (since : ℕ) (dir x : InodeId) (remove_cover add_cover tick : ℕ) (name : List ℕ)
    → IsIn (lists_of t.rows) dir name x → row_at t.rows id ≡ None → IsBare rows → id ≢ root_id
    → IsLive (lists_of (row_made id rows since dir add_cover tick name (changed dir remove_cover tick (changes.Remove name) t)).rows) dir
    → Releasing (row_made id rows since dir add_cover tick name (changed dir remove_cover tick (changes.Remove name) t)) freed after → HasNames t → HasAllNames after

-- a deleted snapshot: records are merged away, and what is named no more goes
abbrev pub DropNamesLaw : Type 0
DropNamesLaw = (t middle after : Tabled) (records : List (InodeId × ℕ)) (freed : Freed) → MergedBy t records middle → Releasing middle freed after → HasNames t → HasAllNames after
