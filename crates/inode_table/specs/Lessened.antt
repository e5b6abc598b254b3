-- Private: rows at their places, as they are named less and go.
use Rattle.std.specs.Prelude.{◌≡◌, ◌≢◌, ◌⊎◌, ℕ, ◌+◌, ◌-◌, ◌≤◌, Bool, false, ◌==◌, if◌then◌else◌, List, [], ◌∷◌, ◌++◌, length, Option, Some, None, slice_set}
use Rattle.std.specs.Option.{option_map}
use Rattle.hs_types.specs.declared.ids.BlockId.{BlockId}
use Rattle.hs_types.specs.declared.ids.InodeId.{InodeId}
use Rattle.dir_changes.specs.Entries.{Entries}
use Rattle.dir_changes.specs.History.{Past}
use Rattle.inode_table.specs.declared.row.Row.{Row}
use Rattle.inode_table.specs.Stands.{root_id}
use Rattle.inode_table.specs.Numbered.{at_place}
use Rattle.inode_table.specs.Kept.{rows_in}
use Rattle.inode_table.specs.Indexed.{Index}
use Rattle.inode_table.specs.Tabled.{Tabled}
use Rattle.inode_table.specs.Released.{ReleasedBy}
use Rattle.inode_table.specs.Totals.{blocks_named}
use Rattle.inode_table.specs.Slots.{Slots, table_in, named_rows, AreCounted}

abbrev pub lessened : Row → Row
lessened row = record row { names = row.names - 1 }

-- the row at an inode's place is named once less
abbrev pub lessen_at : InodeId → Slots → Slots
lessen_at id rows = slice_set rows id.0 (option_map lessened (at_place rows id))

-- each of these is
abbrev pub lessen_all : List InodeId → Slots → Slots
lessen_all [] rows = rows
lessen_all (id ∷ ids) rows = lessen_all ids (lessen_at id rows)

abbrev pub is_last : Option Row → Bool
is_last None = false
is_last (Some row) = row.names == 1

abbrev pub is_unnamed : Option Row → Bool
is_unnamed None = false
is_unnamed (Some row) = row.names == 0

-- the id, where its row is named once
abbrev pub ended_at : InodeId → Slots → List InodeId
ended_at id rows = if is_last (at_place rows id) then id ∷ [] else []

-- those of the ids whose rows come to be named no more
abbrev pub ended : List InodeId → Slots → List InodeId
ended [] rows = []
ended (id ∷ ids) rows = ended_at id rows ++ ended ids (lessen_at id rows)

-- the deleted entries of a record that may be there
abbrev pub deleted_of : Option Past → Entries
deleted_of None = []
deleted_of (Some past) = past.diff.deleted

-- a row that is taken out, or stays since it is the root or some list names it
abbrev pub TakenAt : InodeId → Slots → Option Row → Slots → Type 0
TakenAt id before None after = (after ≡ before) × ((row : Row) → at_place before id ≡ Some row → id ≢ root_id → row.names ≡ 0 → ⊥)
TakenAt id before (Some row) after = (after ≡ slice_set before id.0 None) × (at_place before id ≡ Some row) × (id ≢ root_id) × (row.names ≡ 0)

-- each row goes, or has its rows as before, with what was made for them
abbrev pub StaysOrGoes : Slots → Slots → Type 0
StaysOrGoes before after = (id : InodeId) → (rows_in (at_place after id) ≡ None) ⊎ (rows_in (at_place after id) ≡ rows_in (at_place before id))

-- what holds between the rows that go: names are counted, there is room on the stack for each row that is named, and in `waiting` for
-- each block that a state names
pub record Steady (rows : Slots) (unnamed places waiting capacity total : ℕ) : Type 0 where
  pub counted : AreCounted rows []
  pub stack : unnamed + named_rows rows ≤ places
  pub blocks : total ≡ blocks_named (table_in rows)
  pub room : waiting + total ≤ capacity

-- the table that these places stand for, with blocks that wait
abbrev pub told_in : Slots → Index → ℕ → List BlockId → Tabled
told_in rows index greatest waiting = record { rows = table_in rows; index = index; greatest = greatest; waiting = waiting }

-- so many rows have gone in turn
pub record HaveGone (n : ℕ) (old new : Slots) (waited waiting : List BlockId) : Type 0 where
  pub gone : List InodeId
  pub count : n ≡ length gone
  pub steps : (index : Index) (greatest : ℕ) → ReleasedBy (told_in old index greatest waited) gone (told_in new index greatest waiting)
