-- What accepted calls change.
use Rattle.std.specs.Prelude.{ℕ, ◌+◌, Bool, true, false, not, ◌&&◌, ◌==◌, if◌then◌else◌, List, [], ◌∷◌, ◌++◌, map, length, drop, Option, Some, None, Ok, Err, is_some}
use Rattle.std.specs.List.{filter}
use Rattle.std.specs.FinMap.Entries.{put}
use Rattle.hs_types.specs.Names.{Names}
use Rattle.hs_types.specs.declared.ids.InodeId.{InodeId}
use Rattle.hs_types.specs.declared.ids.SnapId.{SnapId}
use Rattle.hs_types.specs.declared.call.Call.{Call}
use Rattle.hs_types.specs.declared.call.Call.TheVariants as calls
use Rattle.hs_types.specs.declared.journal.EntryKind.{EntryKind}
use Rattle.hs_types.specs.declared.journal.EntryKind.TheVariants.{Accepted, Faulted}
use Rattle.hs_types.specs.declared.journal.Entry.{Entry}
use Rattle.hs_plain.specs.declared.state.Node.{Node}
use Rattle.hs_plain.specs.declared.state.Body.TheVariants.{File}
use Rattle.hs_plain.specs.declared.state.Member.{Member}
use Rattle.hs_plain.specs.declared.state.State.{State}
use Rattle.hs_plain.specs.Asked.{Asked}
use Rattle.hs_plain.specs.Files.{Files}
use Rattle.hs_plain.specs.Tree.{Tree, path_cmp, parent_of, same_path, is_under, subtree, same_inode, place_of}
use Rattle.hs_plain.specs.State.{new_dir, is_snapshottable}
use Rattle.hs_plain.specs.Modifying.{mkdir_at, create_at, delete_at, rename_at, set_mode_at, append_at}
use Rattle.hs_plain.specs.Snapshotting.{allow_at, disallow_at, snap_at, snap_del_at, snap_ren_at}
use Rattle.hs_plain.specs.Answer.{is_modifying}

-- ---- trees

-- the node at a path gets a stamp
abbrev pub restamp : {B : Type 0} → Names → ℕ → Names × Node B → Names × Node B
restamp path tick place = if same_path path place.0 then (place.0, record place.1 { stamp = tick }) else place

abbrev pub stamped : {B : Type 0} → Tree B → Names → ℕ → Tree B
stamped tree path tick = map (restamp path tick) tree

-- the node at a path gets a mode and a stamp
abbrev pub remode : {B : Type 0} → Names → ℕ → ℕ → Names × Node B → Names × Node B
remode path mode tick place = if same_path path place.0 then (place.0, record place.1 { mode = mode; stamp = tick }) else place

abbrev pub moded : {B : Type 0} → Tree B → Names → ℕ → ℕ → Tree B
moded tree path mode tick = map (remode path mode tick) tree

-- the tree without what is at a path or below it
abbrev pub without : {B : Type 0} → Tree B → Names → Tree B
without tree path = filter (λ place. not (is_under path place)) tree

-- the new path of what is at a path or below it, when that path becomes another
abbrev pub new_path : {B : Type 0} → Names → Names → Names × Node B → Option Names
new_path old new place = if is_under old place then Some (new ++ drop (length old) place.0) else None

-- a place with another path, if it gets one
abbrev pub at_new : {B : Type 0} → Names × Node B → Option Names → Names × Node B
at_new place None = place
at_new place (Some path) = (path, place.1)

abbrev pub repath : {B : Type 0} → Names → Names → Names × Node B → Names × Node B
repath old new place = at_new place (new_path old new place)

-- these places put into a tree, one after the other
abbrev pub put_all : {B : Type 0} → Tree B → Tree B → Tree B
put_all tree [] = tree
put_all tree (place ∷ places) = put_all (put path_cmp place.0 place.1 tree) places

-- the tree with a subtree at a new path, in the order of paths again
abbrev pub moved : {B : Type 0} → Tree B → Names → Names → Tree B
moved tree old new = put_all [] (map (repath old new) tree)

-- ---- states

-- a new file has mode 644 octal, no bytes, and the tick of its making
abbrev pub new_file : {B : Type 0} → Files B → ℕ → ℕ → Node B
new_file files id tick = record { id = record { 0 = id }; mode = 420; stamp = tick; body = File files.empty }

-- a new node, in the place of one that may be there; the child list of its parent has changed
abbrev pub with_node : {B : Type 0} → State B → Names → Node B → State B
with_node state path node = record state {
  tree = put path_cmp path node (stamped state.tree (parent_of path) (state.tick + 1));
  next_inode = state.next_inode + 1;
}

-- one empty directory more
abbrev pub made_dir : {B : Type 0} → State B → Names → State B
made_dir state path = with_node state path (new_dir state.next_inode (state.tick + 1))

-- an empty file, a new inode also where a file makes way for it
abbrev pub made_file : {B : Type 0} → Files B → State B → Names → State B
made_file files state path = with_node state path (new_file files state.next_inode (state.tick + 1))

-- a file with this in place of what stood for its bytes
abbrev pub refilled : {B : Type 0} → Node B → B → ℕ → Node B
refilled node file tick = record node { stamp = tick; body = File file }

-- the node at a path becomes one with another file
abbrev pub with_file : {B : Type 0} → State B → Names → Node B → B → State B
with_file state path node file = record state { tree = put path_cmp path (refilled node file (state.tick + 1)) state.tree }

-- bytes more at the end of a file, also where there are none
abbrev pub appended : {B : Type 0} → Files B → State B → List ℕ → Names × Node B × B → State B
appended files state bytes at = with_file state at.0 at.1 (files.append at.2 bytes)

-- the ids of nodes that are in a tree
abbrev pub still_in : {B : Type 0} → Tree B → List InodeId → List InodeId
still_in tree ids = filter (λ id. is_some (place_of tree id)) ids

-- a node less, with all below it; what isn't there any more ceases to be snapshottable
abbrev pub removed : {B : Type 0} → State B → Names → State B
removed state path = record state {
  tree = stamped (without state.tree path) (parent_of path) (state.tick + 1);
  snapshottable = still_in (without state.tree path) state.snapshottable;
}

-- a node at a new path, with all below it; the child lists of both parents have changed
abbrev pub renamed : {B : Type 0} → State B → Names × Names → State B
renamed state paths = record state {
  tree = stamped (stamped (moved state.tree paths.0 paths.1) (parent_of paths.0) (state.tick + 1)) (parent_of paths.1) (state.tick + 1);
}

-- a node with this mode, also where it had it
abbrev pub with_mode : {B : Type 0} → State B → ℕ → Names → State B
with_mode state mode path = record state { tree = moded state.tree path mode (state.tick + 1) }

-- a directory in which snapshots may be made; where it is one already nothing is added
abbrev pub allowed : {B : Type 0} → State B → InodeId → State B
allowed state id = if is_snapshottable state id then state else record state { snapshottable = state.snapshottable ++ id ∷ [] }

-- a directory less in which snapshots may be made
abbrev pub disallowed : {B : Type 0} → State B → InodeId → State B
disallowed state id = record state { snapshottable = filter (λ other. not (same_inode other id)) state.snapshottable }

-- a snapshot of a directory at a path: a read-only point-in-time copy of its subtree (HDFS Snapshots guide, "Overview"), which the plain machine copies whole
abbrev pub new_member : {B : Type 0} → State B → List ℕ → Names × Node B → Member B
new_member state name at = record { snapshot = record { 0 = state.next_snapshot }; directory = at.1.id; name = name; tick = state.tick + 1; tree = subtree state.tree at.0 }

-- one snapshot more
abbrev pub snapped : {B : Type 0} → State B → List ℕ → Names × Node B → State B
snapped state name at = record state { members = state.members ++ new_member state name at ∷ []; next_snapshot = state.next_snapshot + 1 }

abbrev pub is_snapshot : {B : Type 0} → SnapId → Member B → Bool
is_snapshot id member = member.snapshot.0 == id.0

-- one snapshot less
abbrev pub unsnapped : {B : Type 0} → State B → SnapId → State B
unsnapped state id = record state { members = filter (λ member. not (is_snapshot id member)) state.members }

abbrev pub rename_member : {B : Type 0} → SnapId → List ℕ → Member B → Member B
rename_member id name member = if is_snapshot id member then record member { name = name } else member

-- a snapshot with another name
abbrev pub resnapped : {B : Type 0} → State B → List ℕ → SnapId → State B
resnapped state name id = record state { members = map (rename_member id name) state.members }

-- a change is made where it isn't refused
abbrev pub if_asked : {X : Type 0} {B : Type 0} → (X → State B) → State B → Asked X → State B
if_asked change state (Ok x) = change x
if_asked change state (Err why) = state

-- what a call changes, where it isn't refused
abbrev pub change : {B : Type 0} → Files B → State B → Call → State B
change files state (calls.Mkdir path) = if_asked (made_dir state) state (mkdir_at state path)
change files state (calls.Create path over) = if_asked (made_file files state) state (create_at state path over)
change files state (calls.Append path bytes) = if_asked (appended files state bytes) state (append_at state path)
change files state (calls.Delete path recursive) = if_asked (removed state) state (delete_at state path recursive)
change files state (calls.Rename old new) = if_asked (renamed state) state (rename_at state old new)
change files state (calls.SetMode path mode) = if_asked (with_mode state mode) state (set_mode_at state path)
change files state (calls.Allow path) = if_asked (allowed state) state (allow_at state path)
change files state (calls.Disallow path) = if_asked (disallowed state) state (disallow_at state path)
change files state (calls.Snap path name) = if_asked (snapped state name) state (snap_at state path name)
change files state (calls.SnapDel path name) = if_asked (unsnapped state) state (snap_del_at state path name)
change files state (calls.SnapRen path old new) = if_asked (resnapped state new) state (snap_ren_at state path old new)
change files state (calls.Read path offset len) = state
change files state (calls.ReadNext cursor len) = state
change files state (calls.Stat path) = state
change files state (calls.List path size) = state
change files state (calls.ListNext cursor size) = state
change files state (calls.Snaps path) = state
change files state calls.Dirs = state
change files state (calls.Report path from to size) = state
change files state (calls.ReportNext cursor size) = state

-- ---- entries

abbrev pub is_accepted : EntryKind → Bool
is_accepted Accepted = true
is_accepted Faulted = false

-- whether an entry may change more than the tick
abbrev pub takes_effect : Entry → Bool
takes_effect entry = is_accepted entry.kind && is_modifying entry.call

abbrev pub changed_if : {B : Type 0} → Bool → Files B → State B → Call → State B
changed_if effective files state call = if effective then change files state call else state

abbrev pub changed : {B : Type 0} → Files B → State B → Entry → State B
changed files state entry = changed_if (takes_effect entry) files state entry.call

abbrev pub ticked : {B : Type 0} → State B → State B
ticked state = record state { tick = state.tick + 1 }

-- the state after an entry: each entry raises the tick by 1
abbrev pub after : {B : Type 0} → Files B → State B → Entry → State B
after files state entry = ticked (changed files state entry)
