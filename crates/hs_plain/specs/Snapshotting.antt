-- Modifying calls on snapshots: what is asked for, or the first refusal that holds, in the order of their numbers.
use Rattle.std.specs.Prelude.{ℕ, not, nat_le, List, Ok}
use Rattle.hs_types.specs.Limits.{snapshot_limit}
use Rattle.hs_types.specs.Names.{Names, is_name}
use Rattle.hs_types.specs.declared.ids.InodeId.{InodeId}
use Rattle.hs_types.specs.declared.ids.SnapId.{SnapId}
use Rattle.hs_types.specs.declared.refusal.Refusal.TheVariants.{NotDir, NotSnapshotName, HasSnapshots, NotSnapshottable, Nested, SnapshotExists, SnapshotLimit}
use Rattle.hs_plain.specs.declared.state.Node.{Node}
use Rattle.hs_plain.specs.declared.state.State.{State}
use Rattle.hs_plain.specs.Asked.{Asked, ◌>>=◌, refuse_if}
use Rattle.hs_plain.specs.Tree.{walk, is_dir}
use Rattle.hs_plain.specs.State.{is_snapshottable, snapshots_of, has_snapshots, has_snapshot_named, snapshot_named, meets_snapshottable}
use Rattle.hs_plain.specs.Modifying.{live_path}

-- the directory that a call on snapshots names, with its path
abbrev pub directory_at : {B : Type 0} → State B → List ℕ → Asked (Names × Node B)
directory_at state text = do
  path ← live_path text
  node ← walk state.tree path
  dir ← refuse_if (not (is_dir node)) NotDir
  Ok (path, node)

-- a directory that is to become snapshottable: no other one is above or below it (HDFS Snapshots guide, "Snapshottable
-- Directories": nested ones are not allowed)
abbrev pub allow_at : {B : Type 0} → State B → List ℕ → Asked InodeId
allow_at state text = do
  at ← directory_at state text
  apart ← refuse_if (meets_snapshottable state at.0) Nested
  Ok at.1.id

-- a snapshottable directory that is to be none: it has no snapshots
abbrev pub disallow_at : {B : Type 0} → State B → List ℕ → Asked InodeId
disallow_at state text = do
  at ← directory_at state text
  free ← refuse_if (has_snapshots state at.1.id) HasSnapshots
  there ← refuse_if (not (is_snapshottable state at.1.id)) NotSnapshottable
  Ok at.1.id

-- a directory to be frozen: it is snapshottable, the name is one and is free, and it has fewer snapshots than it may have
abbrev pub snap_at : {B : Type 0} → State B → List ℕ → List ℕ → Asked (Names × Node B)
snap_at state text name = do
  at ← directory_at state text
  named ← refuse_if (not (is_name name)) NotSnapshotName
  there ← refuse_if (not (is_snapshottable state at.1.id)) NotSnapshottable
  free ← refuse_if (has_snapshot_named state at.1.id name) SnapshotExists
  room ← refuse_if (nat_le snapshot_limit (snapshots_of state.members at.1.id)) SnapshotLimit
  Ok at

-- a snapshot to be deleted: the directory is snapshottable and has it
abbrev pub snap_del_at : {B : Type 0} → State B → List ℕ → List ℕ → Asked SnapId
snap_del_at state text name = do
  at ← directory_at state text
  there ← refuse_if (not (is_snapshottable state at.1.id)) NotSnapshottable
  snapshot_named state.members at.1.id name

-- a snapshot to be renamed: the new name is one and is free, also of the snapshot itself, and the directory has the old one
abbrev pub snap_ren_at : {B : Type 0} → State B → List ℕ → List ℕ → List ℕ → Asked SnapId
snap_ren_at state text old new = do
  at ← directory_at state text
  named ← refuse_if (not (is_name new)) NotSnapshotName
  there ← refuse_if (not (is_snapshottable state at.1.id)) NotSnapshottable
  free ← refuse_if (has_snapshot_named state at.1.id new) SnapshotExists
  snapshot_named state.members at.1.id old
