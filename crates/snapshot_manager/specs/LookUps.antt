-- What is found by name, and which id is last, after each call.
use Rattle.std.specs.Prelude.{◌≡◌, ℕ, ◌<◌, false, ◌&&◌, ◌==◌, bytes_eq, List, Option, None, Some, IsSome, if◌then◌else◌}
use Rattle.std.specs.Option.{option_map}
use Rattle.std.specs.List.{find, Contains}
use Rattle.hs_types.specs.declared.ids.InodeId.{InodeId}
use Rattle.hs_types.specs.declared.ids.SnapId.{SnapId}
use Rattle.hs_types.specs.declared.name.SnapItem.{SnapItem}
use Rattle.snapshot_manager.specs.Snapshots.{Snapshots, NamesDiffer, IsProper, snaps_of, snaps_in, has_name, is_named, last_id, changed, added, without, renamed}

-- a directory's snapshot of this name
abbrev pub named : Snapshots → InodeId → List ℕ → Option SnapItem
named s dir name = find (has_name name) (snaps_in s dir)

-- the id of a directory's snapshot of this name
abbrev pub id_named : Snapshots → InodeId → List ℕ → Option SnapId
id_named s dir name = option_map (λ item. item.id) (named s dir name)

-- the new snapshot is found by its name, and each other as before
abbrev pub NamedAfterAdd : Type 0
NamedAfterAdd = (s : Snapshots) (dir other : InodeId) (item : SnapItem) (name : List ℕ) → IsSome (snaps_of s dir) → is_named item.name (snaps_in s dir) ≡ false
    → named (added dir item s) other name ≡ (if dir.0 == other.0 && bytes_eq item.name name then Some item else named s other name)

-- the removed one is found no more, and each other as before
abbrev pub NamedAfterRemove : Type 0
NamedAfterRemove = (s : Snapshots) (dir other : InodeId) (gone name : List ℕ) → named (changed dir (without gone) s) other name ≡ (if dir.0 == other.0 && bytes_eq gone name then None else named s other name)

-- the renamed one is found by its new name alone
abbrev pub NamedAfterRename : Type 0
NamedAfterRename = (s : Snapshots) (dir other : InodeId) (old new name : List ℕ) (id : SnapId) → NamesDiffer (snaps_in s dir) → id_named s dir old ≡ Some id → is_named new (snaps_in s dir) ≡ false
    → id_named (changed dir (renamed old new) s) other name ≡ (if dir.0 == other.0 && bytes_eq old name then None else if dir.0 == other.0 && bytes_eq new name then Some id else id_named s other name)

-- the new one is the last
abbrev pub LastAfterAdd : Type 0
LastAfterAdd = (s : Snapshots) (dir other : InodeId) (item : SnapItem) → IsSome (snaps_of s dir) → IsProper s → s.issued.0 < item.id.0 → last_id (snaps_in (added dir item s) other) ≡ (if dir.0 == other.0 then Some item.id else last_id (snaps_in s other))

-- the last one of a directory is that of what is left; another directory keeps its own
abbrev pub LastAfterRemove : Type 0
LastAfterRemove = (s : Snapshots) (dir other : InodeId) (name : List ℕ) → last_id (snaps_in (changed dir (without name) s) other) ≡ (if dir.0 == other.0 then last_id (without name (snaps_in s other)) else last_id (snaps_in s other))

-- and it stays where another one is removed
abbrev pub LastStaysAfterRemove : Type 0
LastStaysAfterRemove = (s : Snapshots) (dir : InodeId) (name : List ℕ) (item : SnapItem) → Contains (snaps_in s dir) item → last_id (snaps_in s dir) ≡ Some item.id → has_name name item ≡ false
    → last_id (snaps_in (changed dir (without name) s) dir) ≡ Some item.id

-- another name leaves the last one
abbrev pub LastAfterRename : Type 0
LastAfterRename = (s : Snapshots) (dir other : InodeId) (old new : List ℕ) → last_id (snaps_in (changed dir (renamed old new) s) other) ≡ last_id (snaps_in s other)
