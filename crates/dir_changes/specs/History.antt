-- A directory through its snapshots: what it is now, and what each record says of the time before.
use Rattle.std.specs.Prelude.{ℕ, zero, suc, Bool, true, ◌&&◌, ◌==◌, if◌then◌else◌, List, [], ◌∷◌, ◌++◌, map, Option, Some, None}
use Rattle.hs_types.specs.declared.ids.InodeId.{InodeId}
use Rattle.hs_types.specs.declared.ids.SnapId.{SnapId}
use Rattle.hs_types.specs.declared.name.Spot.{Spot}
use Rattle.change_history.specs.History as history
use Rattle.dir_changes.specs.Entries.{Entries, id_at, holds, with_entry, without_name, among}
use Rattle.dir_changes.specs.Undo.{ListDiff, undo, can_undo, combined}

-- where the directory stands, its mode and its stamp
pub record Marks : Type 0 where
  pub spot : Spot
  pub mode : ℕ
  pub stamp : ℕ

-- a record: the marks that it saved, and what has happened to the child list since
pub record Past : Type 0 where
  pub number : SnapId
  pub marks : Marks
  pub diff : ListDiff

pub record DirHistory : Type 0 where
  pub marks : Marks
  pub children : Entries
  pub records : List Past

-- the number of a record
abbrev pub number_of : Past → ℕ
number_of past = past.number.0

-- the marks that a record saved
abbrev pub marks_saved : Past → Marks
marks_saved past = past.marks

-- ---- numbers

-- the number of the last record, or the one handed in
abbrev pub last_from : ℕ → List Past → ℕ
last_from number records = history.last_from number_of number records

-- the number of the last record, or 0
abbrev pub last_number : DirHistory → ℕ
last_number dir = last_from 0 dir.records

-- whether the numbers rise, all above the one handed in
abbrev pub rising : ℕ → List Past → Bool
rising number records = history.rising number_of number records

-- the number of record i, or 0
abbrev pub number_at : List Past → ℕ → ℕ
number_at records i = history.number_at number_of records i

-- the number of the record before record i, or 0
abbrev pub number_before : List Past → ℕ → ℕ
number_before records i = history.number_before number_of records i

-- ---- reading

-- the records from the first one numbered at least s on
abbrev pub records_from : ℕ → List Past → List Past
records_from s records = history.records_from number_of s records

-- the records that tell snapshot s; 0 is no snapshot, and none tells it
abbrev pub records_at : ℕ → List Past → List Past
records_at s records = history.records_at number_of s records

-- the list with these records undone, from the last one down to the first
abbrev pub undo_all : List Past → Entries → Entries
undo_all [] entries = entries
undo_all (past ∷ records) entries = undo past.diff (undo_all records entries)

-- undo is defined at each of these records
abbrev pub can_undo_all : List Past → Entries → Bool
can_undo_all [] entries = true
can_undo_all (past ∷ records) entries = can_undo_all records entries && can_undo past.diff (undo_all records entries)

-- the child list at a snapshot; 0 is no snapshot, and stands for the current state
abbrev pub children_at : ℕ → DirHistory → Entries
children_at s dir = if s == 0 then dir.children else undo_all (records_from s dir.records) dir.children

-- the marks that the first record numbered at least s saved; without one, the current marks
abbrev pub marks_from : ℕ → List Past → Marks → Marks
marks_from s records current = history.saved_from number_of marks_saved s records current

-- the marks at a snapshot
abbrev pub marks_at : ℕ → DirHistory → Marks
marks_at s dir = history.saved_at number_of marks_saved s dir.records dir.marks

-- ---- changes

-- a new record that saves the present marks, with empty lists
abbrev pub started : SnapId → DirHistory → DirHistory
started number dir = record dir { records = dir.records ++ record { number = number; marks = dir.marks; diff = record { created = []; deleted = [] } } ∷ [] }

-- the last record changed, where there is one
abbrev pub change_last : (ListDiff → ListDiff) → List Past → List Past
change_last change [] = []
change_last change (past ∷ []) = record past { diff = change past.diff } ∷ []
change_last change (past ∷ next ∷ records) = past ∷ change_last change (next ∷ records)

-- an added entry goes to the created list
abbrev pub note_added : List ℕ → InodeId → ListDiff → ListDiff
note_added name id diff = record diff { created = with_entry name id diff.created }

-- a removed entry that stands in the created list is taken out of it; any other goes to the deleted list
abbrev pub note_removed : List ℕ → InodeId → ListDiff → ListDiff
note_removed name id diff =
    if holds diff.created (name, id) then record diff { created = without_name name diff.created } else record diff { deleted = with_entry name id diff.deleted }

-- the directory with one entry more
abbrev pub added : List ℕ → InodeId → DirHistory → DirHistory
added name id dir = record dir { children = with_entry name id dir.children; records = change_last (note_added name id) dir.records }

abbrev pub removed_as : List ℕ → Option InodeId → DirHistory → DirHistory
removed_as name None dir = dir
removed_as name (Some id) dir = record dir { children = without_name name dir.children; records = change_last (note_removed name id) dir.records }

-- the directory without that name; where it isn't there nothing changes
abbrev pub removed : List ℕ → DirHistory → DirHistory
removed name dir = removed_as name (id_at name dir.children) dir

-- the earlier record with the later one taken into it: it keeps its number and its marks
abbrev pub with_later : Past → Past → Past
with_later earlier later = record earlier { diff = combined earlier.diff later.diff }

-- record i of those behind one is taken into the one before it
abbrev pub taken : Past → List Past → ℕ → List Past
taken past [] i = past ∷ []
taken past (later ∷ records) zero = with_later past later ∷ records
taken past (later ∷ records) (suc i) = past ∷ taken later records i

-- record i is taken into the one before it, or dropped as the first
abbrev pub combined_at : ℕ → List Past → List Past
combined_at i [] = []
combined_at zero (past ∷ records) = records
combined_at (suc i) (past ∷ records) = taken past records i

-- the directory with record i combined
abbrev pub without_record : ℕ → DirHistory → DirHistory
without_record i dir = record dir { records = combined_at i dir.records }

-- the later one's deleted entries that the earlier one had created: they were there only in between, so neither combined list has them
abbrev pub cancelled : ListDiff → ListDiff → Entries
cancelled earlier later = among earlier.created later.deleted

-- the deleted entries that are dropped as record i of those behind one is taken into the one before it
abbrev pub dropped_behind : Past → List Past → ℕ → Entries
dropped_behind past [] i = []
dropped_behind past (later ∷ records) zero = cancelled past.diff later.diff
dropped_behind past (later ∷ records) (suc i) = dropped_behind later records i

-- the deleted entries that are dropped as record i is combined: as the first one it drops them all
abbrev pub dropped_at : ℕ → List Past → Entries
dropped_at i [] = []
dropped_at zero (past ∷ records) = past.diff.deleted
dropped_at (suc i) (past ∷ records) = dropped_behind past records i

-- the ids of entries
abbrev pub ids_of : Entries → List InodeId
ids_of entries = map (λ entry. entry.1) entries
