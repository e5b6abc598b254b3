-- Going up from an inode by spots that lists confirm, and going over the snapshottable directories. For proofs: contracts speak of
-- the plain state's paths.
use Rattle.std.specs.Prelude.{ℕ, zero, suc, ◌+◌, Bool, false, not, ◌&&◌, ◌||◌, nat_lt, if◌then◌else◌, List, [], ◌∷◌, Option, Some, None, is_some}
use Rattle.std.specs.List.{list_any}
use Rattle.hs_types.specs.declared.ids.InodeId.{InodeId}
use Rattle.hs_plain.specs.Tree.{same_inode}
use Rattle.dir_changes.specs.Entries.{id_at, is_that}
use Rattle.snapshot_manager.specs.Snapshots.{Directory, Snapshots, snaps_in, last_id}
use Rattle.inode_table.specs.Reads.{Shown}
use Rattle.inode_table.specs.Stands.{root_id}
use Rattle.inode_table.specs.Walk.{and_then}
use Rattle.path_resolver.specs.declared.above.Sought.{Sought}
use Rattle.path_resolver.specs.declared.above.Sought.TheVariants as sought

-- the directory that an inode's spot leads to, where its list names the inode; none is above the root
abbrev pub up_from : {B : Type 0} → Shown B → InodeId → Option InodeId
up_from shown id = if same_inode id root_id then None else and_then (shown.spot id) (λ spot. if is_that id (id_at spot.name (shown.entries spot.parent)) then Some spot.parent else None)

abbrev pub go_on : (InodeId → Bool) → Option InodeId → Bool
go_on next None = false
go_on next (Some id) = next id

-- whether going up from an inode comes to another in less than so many steps
abbrev pub comes_up : {B : Type 0} → Shown B → InodeId → ℕ → InodeId → Bool
comes_up shown above zero id = false
comes_up shown above (suc n) id = same_inode id above || go_on (comes_up shown above n) (up_from shown id)

-- whether a snapshottable directory is what is sought, where it is known whether it stands at or below the inode
abbrev pub is_sought : Sought → Snapshots → InodeId → InodeId → Bool → Bool
is_sought sought.Snapshottable snaps above dir under = under
is_sought sought.WithSnapshots snaps above dir under = is_some (last_id (snaps_in snaps dir)) && under
is_sought sought.Below snaps above dir under = not (same_inode dir above) && under

-- whether one of the directories with greater ids passes a test
abbrev pub any_after : (InodeId → Bool) → InodeId → List Directory → Bool
any_after test id dirs = list_any (λ d. nat_lt id.0 d.0.0 && test d.0) dirs

-- whether a directory or one with a greater id does
abbrev pub any_from : (InodeId → Bool) → Option InodeId → List Directory → Bool
any_from test None dirs = false
any_from test (Some id) dirs = test id || any_after test id dirs

-- how many directories have greater ids
abbrev pub count_after : InodeId → List Directory → ℕ
count_after id [] = 0
count_after id (d ∷ dirs) = (if nat_lt id.0 d.0.0 then 1 else 0) + count_after id dirs

-- how many are left from one on
abbrev pub left_from : Option InodeId → List Directory → ℕ
left_from None dirs = 0
left_from (Some id) dirs = 1 + count_after id dirs
