-- What is true of each plain state that a journal stands for.
use Rattle.std.specs.Prelude.{◌≡◌, ℕ, ◌<◌, Bool, true, false, not, ◌&&◌, ◌||◌, ◌==◌, nat_lt, nat_le, bytes_eq, List, [], ◌∷◌, ◌++◌, map, Option, Some, None}
use Rattle.std.specs.List.{Contains, list_any, list_all, filter_map, flat_map}
use Rattle.std.specs.FinMap.Entries.{is_sorted}
use Rattle.hs_types.specs.Names.{Names, is_name}
use Rattle.hs_types.specs.Limits.{snapshot_limit}
use Rattle.hs_types.specs.declared.ids.InodeId.{InodeId}
use Rattle.hs_plain.specs.declared.state.Node.{Node}
use Rattle.hs_plain.specs.declared.state.Member.{Member}
use Rattle.hs_plain.specs.declared.state.State.{State}
use Rattle.hs_plain.specs.Tree.{Tree, path_cmp, node_at, is_dir, parent_of, is_root_path, is_above, same_inode, place_of, path_at}
use Rattle.hs_plain.specs.State.{is_snapshottable, snapshots_of}

-- ---- trees

abbrev pub is_dir_node : {B : Type 0} → Option (Node B) → Bool
is_dir_node None = false
is_dir_node (Some node) = is_dir node

abbrev pub is_dir_with : {B : Type 0} → InodeId → Option (Node B) → Bool
is_dir_with id None = false
is_dir_with id (Some node) = same_inode node.id id && is_dir node

-- the root, or a path whose parent is a directory
abbrev pub has_parent : {B : Type 0} → Tree B → Names → Bool
has_parent tree [] = true
has_parent tree (name ∷ names) = is_dir_node (node_at tree (parent_of (name ∷ names)))

-- each place but the root has its parent, and that is a directory
abbrev pub has_parents : {B : Type 0} → Tree B → Bool
has_parents tree = list_all (λ place. has_parent tree place.0) tree

abbrev pub all_differ : List ℕ → Bool
all_differ [] = true
all_differ (number ∷ numbers) = not (list_any (λ other. number == other) numbers) && all_differ numbers

-- no id stands twice
abbrev pub has_each_once : {B : Type 0} → Tree B → Bool
has_each_once tree = all_differ (map (λ place. place.1.id.0) tree)

-- each component of a path is a name
abbrev pub are_names : Names → Bool
are_names path = list_all is_name path

-- each path has names alone
abbrev pub has_names : {B : Type 0} → Tree B → Bool
has_names tree = list_all (λ place. are_names place.0) tree

-- the id 1 stands at the root alone
abbrev pub has_root_on_top : {B : Type 0} → Tree B → Bool
has_root_on_top tree = list_all (λ place. is_root_path place.0 || not (place.1.id.0 == 1)) tree

-- ---- all trees of a state

-- the nodes of the live tree and of all copied trees
abbrev pub all_nodes : {B : Type 0} → State B → List (Node B)
all_nodes state = map (λ place. place.1) (state.tree ++ flat_map (λ member. member.tree) state.members)

-- two nodes with one id, a directory and a file
abbrev pub clash : {B : Type 0} → Node B → Node B → Bool
clash a b = same_inode a.id b.id && is_dir a && not (is_dir b)

abbrev pub has_clash : {B : Type 0} → List (Node B) → Bool
has_clash nodes = list_any (λ a. list_any (clash a) nodes) nodes

-- ---- snapshottable directories

abbrev pub is_dir_place : {B : Type 0} → Option (Names × Node B) → Bool
is_dir_place None = false
is_dir_place (Some place) = is_dir place.1

abbrev pub snapshottable_paths : {B : Type 0} → State B → List Names
snapshottable_paths state = filter_map (λ id. path_at (place_of state.tree id)) state.snapshottable

abbrev pub has_nested : List Names → Bool
has_nested paths = list_any (λ above. list_any (is_above above) paths) paths

-- ---- snapshots

-- each number is above the one before it, and the first above a bound
abbrev pub rises_above : ℕ → List ℕ → Bool
rises_above bound [] = true
rises_above bound (number ∷ numbers) = nat_lt bound number && rises_above number numbers

abbrev pub rises : List ℕ → Bool
rises [] = true
rises (number ∷ numbers) = rises_above number numbers

-- two snapshots of one directory with one name
abbrev pub same_snapshot : {B : Type 0} → Member B → Member B → Bool
same_snapshot a b = same_inode a.directory b.directory && bytes_eq a.name b.name

abbrev pub names_differ : {B : Type 0} → List (Member B) → Bool
names_differ [] = true
names_differ (member ∷ members) = not (list_any (same_snapshot member) members) && names_differ members

-- ---- orders

-- the paths of the live tree and of each copied tree strictly rise
pub record IsSorted {B : Type 0} (state : State B) : Type 0 where
  pub live : is_sorted path_cmp state.tree ≡ true
  pub copies : list_all (λ member. is_sorted path_cmp member.tree) state.members ≡ true

-- ---- the whole

pub record IsValid {B : Type 0} (state : State B) : Type 0 where
  -- the live tree's paths strictly rise
  pub sorted : is_sorted path_cmp state.tree ≡ true
  -- its root is a directory with the id 1
  pub root : is_dir_with (record { 0 = 1 }) (node_at state.tree []) ≡ true
  -- each place but the root has its parent, and that is a directory
  pub parents : has_parents state.tree ≡ true
  -- each component of each path is a name
  pub names : has_names state.tree ≡ true
  -- no id stands twice in it
  pub each_once : has_each_once state.tree ≡ true
  -- no id is a directory's in one tree and a file's in another
  pub one_kind : has_clash (all_nodes state) ≡ false
  -- all ids are below the next inode id
  pub ids_below : list_all (λ node. nat_lt node.id.0 state.next_inode) (all_nodes state) ≡ true
  -- the snapshottable ids are directories of the live tree
  pub snapshottable_dirs : list_all (λ id. is_dir_place (place_of state.tree id)) state.snapshottable ≡ true
  -- each once
  pub snapshottable_once : all_differ (map (λ id. id.0) state.snapshottable) ≡ true
  -- and none below another (HDFS Snapshots guide: no nested snapshottable directories)
  pub not_nested : has_nested (snapshottable_paths state) ≡ false
  -- each snapshot's directory is snapshottable
  pub member_dirs : list_all (λ member. is_snapshottable state member.directory) state.members ≡ true
  -- and is, as a directory, the root of its copied tree
  pub member_roots : list_all (λ member. is_dir_with member.directory (node_at member.tree [])) state.members ≡ true
  -- the paths of each copied tree strictly rise
  pub copies_sorted : list_all (λ member. is_sorted path_cmp member.tree) state.members ≡ true
  -- each of its places but its root has its parent, and that is a directory
  pub copies_parents : list_all (λ member. has_parents member.tree) state.members ≡ true
  -- each component of each of its paths is a name
  pub copies_names : list_all (λ member. has_names member.tree) state.members ≡ true
  -- no id stands twice in it
  pub copies_each_once : list_all (λ member. has_each_once member.tree) state.members ≡ true
  -- the id 1 stands in it as its root alone
  pub copies_root_on_top : list_all (λ member. has_root_on_top member.tree) state.members ≡ true
  -- the snapshots' ids are above 0 and rise
  pub snapshots_rise : rises_above 0 (map (λ member. member.snapshot.0) state.members) ≡ true
  -- and are below the next snapshot id
  pub snapshots_below : list_all (λ member. nat_lt member.snapshot.0 state.next_snapshot) state.members ≡ true
  -- which is above 0 too: 0 is no snapshot's
  pub next_snapshot_above : 0 < state.next_snapshot
  -- the ticks of the snapshots rise
  pub ticks_rise : rises (map (λ member. member.tick) state.members) ≡ true
  -- and are at most the tick
  pub ticks_within : list_all (λ member. nat_le member.tick state.tick) state.members ≡ true
  -- each snapshot's name is a name
  pub member_names : list_all (λ member. is_name member.name) state.members ≡ true
  -- the snapshots of one directory have different names
  pub different_names : names_differ state.members ≡ true
  -- and are at most 65,536 (HDFS Snapshots guide)
  pub at_most : list_all (λ member. nat_le (snapshots_of state.members member.directory) snapshot_limit) state.members ≡ true

-- ---- stamps

-- what a stamp tells, in a valid state: nodes with one id and one stamp are the same, mode and bytes too, in whichever trees they stand
pub record HasSteadyStamps {B : Type 0} (state : State B) : Type 0 where
  pub same_node : (a b : Node B) → Contains (all_nodes state) a → Contains (all_nodes state) b → a.id ≡ b.id → a.stamp ≡ b.stamp → a ≡ b
  -- and no stamp is above the tick
  pub stamps_within : list_all (λ node. nat_le node.stamp state.tick) (all_nodes state) ≡ true
