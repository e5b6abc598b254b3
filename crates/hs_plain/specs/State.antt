-- The plain state, and where a path leads in it.
use Rattle.std.specs.Prelude.{ℕ, Bool, true, ◌&&◌, ◌||◌, ◌==◌, bytes_eq, if◌then◌else◌, List, [], ◌∷◌, count_by, Option, Some, None, Ok, Err}
use Rattle.std.specs.List.{list_any}
use Rattle.std.specs.Ordering.{nat_cmp, is_gt}
use Rattle.std.specs.Cmp.Lexicographic.{slice_cmp}
use Rattle.hs_types.specs.Names.{Names}
use Rattle.hs_types.specs.declared.ids.InodeId.{InodeId}
use Rattle.hs_types.specs.declared.ids.SnapId.{SnapId}
use Rattle.hs_types.specs.declared.path.Path.{Path}
use Rattle.hs_types.specs.declared.path.PathTail.{PathTail}
use Rattle.hs_types.specs.declared.path.PathTail.TheVariants.{Plain, SnapshotList, Frozen}
use Rattle.hs_types.specs.declared.refusal.Refusal.TheVariants.{NotFound, NotDir, Reserved, ReadOnly, NoSnapshot}
use Rattle.hs_types.specs.declared.reply.Item.{Item}
use Rattle.hs_types.specs.declared.call.Place.{Place}
use Rattle.hs_types.specs.declared.call.Place.TheVariants as places
use Rattle.hs_plain.specs.declared.state.Node.{Node}
use Rattle.hs_plain.specs.declared.state.Body.TheVariants.{Dir}
use Rattle.hs_plain.specs.declared.state.Member.{Member}
use Rattle.hs_plain.specs.declared.state.State.{State}
use Rattle.hs_plain.specs.Asked.{Asked, ◌>>=◌}
use Rattle.hs_plain.specs.Tree.{Tree, node_at, walk, listing, is_dir, is_under, is_above, same_inode, place_of}

-- a new directory has mode 755 octal and the tick of its making
abbrev pub new_dir : {B : Type 0} → ℕ → ℕ → Node B
new_dir id tick = record { id = record { 0 = id }; mode = 493; stamp = tick; body = Dir }

-- the root alone
abbrev pub start : {B : Type 0} → State B
start = record { tree = ([], new_dir 1 0) ∷ []; snapshottable = []; members = []; next_inode = 2; next_snapshot = 1; tick = 0 }

abbrev pub is_snapshottable : {B : Type 0} → State B → InodeId → Bool
is_snapshottable state id = list_any (same_inode id) state.snapshottable

-- a directory in which snapshots may be made, and else nothing is there
abbrev pub if_snapshottable : {B : Type 0} → State B → Option (Node B) → Asked InodeId
if_snapshottable state None = Err NotFound
if_snapshottable state (Some node) = if is_snapshottable state node.id then Ok node.id else Err NotFound

-- `/d/.snapshot` (HDFS Snapshots guide, "Snapshot Paths") is found only where d is snapshottable
abbrev pub snapshot_root : {B : Type 0} → State B → Names → Asked InodeId
snapshot_root state base = if_snapshottable state (node_at state.tree base)

-- whether a snapshot is of this directory and has this name
abbrev pub is_named : {B : Type 0} → InodeId → List ℕ → Member B → Bool
is_named dir name member = same_inode member.directory dir && bytes_eq member.name name

-- the snapshot of a directory that has this name
abbrev pub member_named : {B : Type 0} → List (Member B) → InodeId → List ℕ → Asked (Member B)
member_named [] dir name = Err NotFound
member_named (m ∷ ms) dir name = if is_named dir name m then Ok m else member_named ms dir name

-- the snapshot that has this id
abbrev pub member_with : {B : Type 0} → List (Member B) → SnapId → Asked (Member B)
member_with [] snapshot = Err NotFound
member_with (m ∷ ms) snapshot = if m.snapshot.0 == snapshot.0 then Ok m else member_with ms snapshot

-- where a base leads, with what follows it
abbrev pub resolve_tail : {B : Type 0} → State B → Names → PathTail → Asked Place
resolve_tail state base Plain = do
  node ← walk state.tree base
  Ok (places.Live node.id)
resolve_tail state base SnapshotList = do
  dir ← snapshot_root state base
  Ok (places.SnapshotsOf dir)
resolve_tail state base (Frozen snapshot rest) = do
  dir ← snapshot_root state base
  member ← member_named state.members dir snapshot
  node ← walk member.tree rest
  Ok (places.Frozen node.id member.snapshot)

-- a path of the live tree, a list of snapshots, or a path into a copied tree
abbrev pub resolve : {B : Type 0} → State B → Path → Asked Place
resolve state path = resolve_tail state path.base path.tail

abbrev pub items_of : {B : Type 0} → Tree B → Option (Names × Node B) → Asked (List Item)
items_of tree None = Err NotFound
items_of tree (Some place) = if is_dir place.1 then Ok (listing tree place.0) else Err NotDir

abbrev pub is_lesser : List ℕ → Item → Bool
is_lesser name other = is_gt (slice_cmp nat_cmp name other.name)

-- an item in its place by name
abbrev pub with_item : Item → List Item → List Item
with_item item [] = item ∷ []
with_item item (other ∷ items) = if is_lesser item.name other then other ∷ with_item item items else item ∷ other ∷ items

-- whether a directory has a snapshot of this name
abbrev pub has_snapshot_named : {B : Type 0} → State B → InodeId → List ℕ → Bool
has_snapshot_named state dir name = list_any (is_named dir name) state.members

-- the id of a directory's snapshot of this name
abbrev pub snapshot_named : {B : Type 0} → List (Member B) → InodeId → List ℕ → Asked SnapId
snapshot_named [] dir name = Err NoSnapshot
snapshot_named (m ∷ ms) dir name = if is_named dir name m then Ok m.snapshot else snapshot_named ms dir name

-- whether a directory has snapshots
abbrev pub has_snapshots : {B : Type 0} → State B → InodeId → Bool
has_snapshots state dir = list_any (λ member. same_inode member.directory dir) state.members

-- whether a directory with snapshots stands at a path or below it
abbrev pub holds_snapshots : {B : Type 0} → State B → Names → Bool
holds_snapshots state path = list_any (λ place. has_snapshots state place.1.id && is_under path place) state.tree

-- whether a snapshottable directory stands at a path or below it
abbrev pub holds_snapshottable : {B : Type 0} → State B → Names → Bool
holds_snapshottable state path = list_any (λ place. is_snapshottable state place.1.id && is_under path place) state.tree

-- whether a path lies below a snapshottable directory
abbrev pub is_in_snapshottable : {B : Type 0} → State B → Names → Bool
is_in_snapshottable state path = list_any (λ place. is_snapshottable state place.1.id && is_above place.0 path) state.tree

-- whether a snapshottable directory stands above a path or below it
abbrev pub meets_snapshottable : {B : Type 0} → State B → Names → Bool
meets_snapshottable state path = list_any (λ place. is_snapshottable state place.1.id && (is_above place.0 path || is_above path place.0)) state.tree

-- how many snapshots a directory has
abbrev pub snapshots_of : {B : Type 0} → List (Member B) → InodeId → ℕ
snapshots_of members dir = count_by (λ member. same_inode member.directory dir) members

-- the snapshots of a directory as items, in name order
abbrev pub snapshot_items : {B : Type 0} → List (Member B) → InodeId → List Item
snapshot_items [] dir = []
snapshot_items (m ∷ ms) dir = if same_inode m.directory dir then with_item (record { name = m.name; id = dir; is_dir = true }) (snapshot_items ms dir) else snapshot_items ms dir

-- the items at a place, in name order: NotDir where a file is there
abbrev pub items_at : {B : Type 0} → State B → Place → Asked (List Item)
items_at state (places.Live id) = items_of state.tree (place_of state.tree id)
items_at state (places.Frozen id snapshot) = do
  member ← member_with state.members snapshot
  items_of member.tree (place_of member.tree id)
items_at state (places.SnapshotsOf dir) = if is_snapshottable state dir then Ok (snapshot_items state.members dir) else Err NotFound

-- the live path that a modifying call names: the list of snapshots is reserved, and a snapshot is read-only (HDFS Snapshots guide)
abbrev pub plain_base : Names → PathTail → Asked Names
plain_base base Plain = Ok base
plain_base base SnapshotList = Err Reserved
plain_base base (Frozen snapshot rest) = Err ReadOnly

abbrev pub plain_of : Path → Asked Names
plain_of path = plain_base path.base path.tail
