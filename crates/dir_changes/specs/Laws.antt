-- Laws of a directory of which `IsSound` holds.
use Rattle.std.specs.Prelude.{◌≡◌, ℕ, ◌<◌, List, length, IsTrue, Some, None}
use Rattle.hs_types.specs.declared.ids.InodeId.{InodeId}
use Rattle.dir_changes.specs.Entries.{in_order, id_at}
use Rattle.dir_changes.specs.History.{DirHistory, children_at, marks_at, last_number, added, removed_as, without_record, dropped_at, ids_of}
use Rattle.dir_changes.specs.Sound.{IsSound}
use Rattle.dir_changes.specs.Edits.{CountsAdded, CountsRemoved, CountsCombined}

-- the child list is in order at each id
abbrev pub OrderLaw : Type 0
OrderLaw = (dir : DirHistory) → IsSound dir → (s : ℕ) → IsTrue (in_order (children_at s dir))

-- above the last number an id reads the current state
abbrev pub CurrentLaw : Type 0
CurrentLaw = (dir : DirHistory) → IsSound dir → (s : ℕ) → last_number dir < s → (children_at s dir ≡ dir.children) × (marks_at s dir ≡ dir.marks)

abbrev pub AddedLaw : Type 0
AddedLaw = (dir : DirHistory) → IsSound dir → (name : List ℕ) (id : InodeId) → id_at name dir.children ≡ None → CountsAdded id dir (added name id dir)

abbrev pub RemovedLaw : Type 0
RemovedLaw = (dir : DirHistory) → IsSound dir → (name : List ℕ) (id : InodeId) → id_at name dir.children ≡ Some id → CountsRemoved name id dir (removed_as name (Some id) dir)

abbrev pub CombinedLaw : Type 0
CombinedLaw = (dir : DirHistory) → IsSound dir → (i : ℕ) → i < length dir.records → CountsCombined i (ids_of (dropped_at i dir.records)) dir (without_record i dir)
