-- Going up from an inode at a snapshot, and what a place is by the rows alone. For proofs: contracts speak of the plain state's places.
use Rattle.std.specs.Prelude.{ℕ, ◌+◌, ◌==◌, not, if◌then◌else◌, Option, Some, None, is_some, Err}
use Rattle.hs_types.specs.Names.{Names}
use Rattle.hs_types.specs.declared.ids.InodeId.{InodeId}
use Rattle.hs_types.specs.declared.ids.SnapId.{SnapId}
use Rattle.hs_types.specs.declared.name.SnapItem.{SnapItem}
use Rattle.hs_types.specs.declared.name.Spot.{Spot}
use Rattle.hs_types.specs.declared.call.Place.{Place}
use Rattle.hs_types.specs.declared.call.Place.TheVariants as places
use Rattle.hs_types.specs.declared.refusal.Refusal.TheVariants.{NotFound, Gone}
use Rattle.hs_plain.specs.Asked.{Asked, refuse_if}
use Rattle.dir_changes.specs.Entries.{id_at, is_that}
use Rattle.snapshot_manager.specs.Snapshots.{Snapshots, snaps_of, live_at}
use Rattle.inode_table.specs.declared.row.Row.{Row}
use Rattle.inode_table.specs.Climb.{path_up}
use Rattle.inode_table.specs.Numbered.{history_of}
use Rattle.inode_table.specs.Reads.{Shown}
use Rattle.inode_table.specs.RowHistory.{shown, entries_in}
use Rattle.inode_table.specs.Stands.{root_id}
use Rattle.inode_table.specs.Tabled.{Tabled}
use Rattle.inode_table.specs.Walk.{and_then}

-- the spot of an inode, where the list that it leads to names the inode
abbrev pub spot_above : {B : Type 0} → Shown B → InodeId → Option Spot
spot_above shown id = and_then (shown.spot id) (λ spot. if is_that id (id_at spot.name (shown.entries spot.parent)) then Some spot else None)

-- the row that a spot leads to, where its list names the inode
abbrev pub row_naming : ℕ → Spot → InodeId → Option Row → Option Row
row_naming s spot id row = and_then row (λ above. if is_that id (id_at spot.name (entries_in s (history_of above.rows))) then Some above else None)

-- the path from one inode down to another at a snapshot, found by going up
abbrev pub way_down : Tabled → ℕ → InodeId → InodeId → Option Names
way_down table s top id = path_up (shown table.rows s) top (table.greatest + 1) id

abbrev pub is_below : Tabled → ℕ → InodeId → InodeId → Asked (Unit {0})
is_below table s top id = refuse_if (not (is_some (way_down table s top id))) NotFound

-- an inode of the copied tree of a live snapshot; 0 is no snapshot, and none that is gone
abbrev pub copy_placed : Tabled → InodeId → SnapId → Option (InodeId × SnapItem) → Asked (Unit {0})
copy_placed table id snapshot None = Err (if snapshot.0 == 0 then NotFound else Gone)
copy_placed table id snapshot (Some live) = is_below table snapshot.0 live.0 id

-- whether the place is there
abbrev pub placed : Tabled → Snapshots → Place → Asked (Unit {0})
placed table snaps (places.Live id) = is_below table 0 root_id id
placed table snaps (places.Frozen id snapshot) = copy_placed table id snapshot (live_at snaps snapshot)
placed table snaps (places.SnapshotsOf dir) = refuse_if (not (is_some (snaps_of snaps dir))) NotFound
