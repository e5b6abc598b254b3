-- Which directory a live snapshot is of.
use Rattle.std.specs.Prelude.{◌≡◌, Bool, false, ◌==◌, List, Option, if◌then◌else◌}
use Rattle.std.specs.Option.{option_map_or}
use Rattle.std.specs.List.{list_any}
use Rattle.std.specs.Map.{lookup}
use Rattle.hs_types.specs.declared.ids.InodeId.{InodeId}
use Rattle.hs_types.specs.declared.ids.SnapId.{SnapId}
use Rattle.snapshot_manager.specs.Snapshots.{Snapshots, snaps_in, has_id, is_between}

-- the directory of the snapshot with this id
abbrev pub owner_of : List (SnapId × InodeId) → SnapId → Option InodeId
owner_of owners id = lookup (λ k. id.0 == k.0) owners

-- the id is this directory's
abbrev pub is_owner : InodeId → Option InodeId → Bool
is_owner dir owner = option_map_or (λ d. dir.0 == d.0) owner false

-- an id above low and at most high has an owner
abbrev pub any_between : SnapId → SnapId → List (SnapId × InodeId) → Bool
any_between low high owners = list_any (λ e. is_between low high e.0) owners

-- new has this owner for the id, and the old one for each other id
abbrev pub SetsOwner : List (SnapId × InodeId) → List (SnapId × InodeId) → SnapId → Option InodeId → Type 0
SetsOwner old new id owner = (q : SnapId) → owner_of new q ≡ (if id.0 == q.0 then owner else owner_of old q)

-- each directory owns the ids of its live snapshots, and no others
abbrev pub IsIndexed : List (SnapId × InodeId) → Snapshots → Type 0
IsIndexed owners s = (id : SnapId) (dir : InodeId) → is_owner dir (owner_of owners id) ≡ list_any (has_id id) (snaps_in s dir)
