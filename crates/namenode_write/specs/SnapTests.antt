-- What calls on snapshots test behind the directory that they name. For proofs: contracts of calls speak of the plain state.
use Rattle.std.specs.Prelude.{ℕ, not, nat_le, List, Ok}
use Rattle.hs_types.specs.Limits.{snapshot_limit}
use Rattle.hs_types.specs.Names.{Names}
use Rattle.hs_types.specs.declared.ids.InodeId.{InodeId}
use Rattle.hs_types.specs.declared.ids.SnapId.{SnapId}
use Rattle.hs_types.specs.declared.refusal.Refusal.TheVariants.{NotSnapshottable, SnapshotExists, SnapshotLimit}
use Rattle.hs_plain.specs.declared.state.Node.{Node}
use Rattle.hs_plain.specs.declared.state.State.{State}
use Rattle.hs_plain.specs.Asked.{Asked, ◌>>=◌, refuse_if}
use Rattle.hs_plain.specs.State.{is_snapshottable, snapshots_of, has_snapshot_named, snapshot_named}

-- the directory alone, without its path
abbrev pub dir_of : {B : Type 0} → Asked (Names × Node B) → Asked InodeId
dir_of asked = asked >>= λ at. Ok at.1.id

-- whether a directory may have a snapshot of this name: it is snapshottable, and the name is free
abbrev pub takes_name : {B : Type 0} → State B → InodeId → List ℕ → Asked (Unit {0})
takes_name state dir name = do
  there ← refuse_if (not (is_snapshottable state dir)) NotSnapshottable
  refuse_if (has_snapshot_named state dir name) SnapshotExists

-- and has fewer snapshots than it may have
abbrev pub takes_snapshot : {B : Type 0} → State B → InodeId → List ℕ → Asked (Unit {0})
takes_snapshot state dir name = do
  free ← takes_name state dir name
  refuse_if (nat_le snapshot_limit (snapshots_of state.members dir)) SnapshotLimit

-- a directory's snapshot of one name, where another may take its place
abbrev pub renamed_id : {B : Type 0} → State B → InodeId → List ℕ → List ℕ → Asked SnapId
renamed_id state dir old new = do
  free ← takes_name state dir new
  snapshot_named state.members dir old
