-- Modifying calls on nodes: what is asked for, or the first refusal that holds, in the order of their numbers.
use Rattle.std.specs.Prelude.{ℕ, Bool, true, false, not, ◌&&◌, nat_lt, List, Option, Some, None, Ok, Err, is_some}
use Rattle.hs_types.specs.Names.{Names}
use Rattle.hs_types.specs.Paths.{path_of}
use Rattle.hs_types.specs.declared.refusal.Refusal.TheVariants.{NotFile, Exists, IsRoot, NotEmpty, HasSnapshots, IntoItself, Nested}
use Rattle.hs_plain.specs.declared.state.Node.{Node}
use Rattle.hs_plain.specs.declared.state.Body.{Body}
use Rattle.hs_plain.specs.declared.state.Body.TheVariants.{File, Dir}
use Rattle.hs_plain.specs.declared.state.State.{State}
use Rattle.hs_plain.specs.Asked.{Asked, ◌>>=◌, refuse_if, both}
use Rattle.hs_plain.specs.Tree.{Tree, node_at, walks_above, walk, is_dir, child_count, is_root_path, is_above}
use Rattle.hs_plain.specs.State.{plain_of, holds_snapshots, holds_snapshottable, is_in_snapshottable}

-- the live path that a modifying call names, or why it is none
abbrev pub live_path : List ℕ → Asked Names
live_path text = do
  path ← path_of text
  plain_of path

-- a new directory: its parent is there, and its path meets no node
abbrev pub mkdir_at : {B : Type 0} → State B → List ℕ → Asked Names
mkdir_at state text = do
  path ← live_path text
  above ← walks_above state.tree path
  free ← refuse_if (is_some (node_at state.tree path)) Exists
  Ok path

-- a new file's path meets no node, or with `over` a file
abbrev pub takes_place_of : {B : Type 0} → Bool → Option (Node B) → Asked (Unit {0})
takes_place_of over None = Ok tt
takes_place_of false (Some node) = Err Exists
takes_place_of true (Some node) = refuse_if (is_dir node) NotFile

-- a new file: its parent is there, and its path is free, or with `over` a file's
abbrev pub create_at : {B : Type 0} → State B → List ℕ → Bool → Asked Names
create_at state text over = do
  path ← live_path text
  above ← walks_above state.tree path
  free ← takes_place_of over (node_at state.tree path)
  Ok path

-- what stands for a file's bytes; a directory is no file
abbrev pub file_in : {B : Type 0} → Body B → Asked B
file_in (File file) = Ok file
file_in Dir = Err NotFile

-- a file that gets bytes: its path, its node, and what stands for its bytes
abbrev pub append_at : {B : Type 0} → State B → List ℕ → Asked (Names × Node B × B)
append_at state text = do
  path ← live_path text
  node ← walk state.tree path
  file ← file_in node.body
  Ok (path, node, file)

-- whether a directory with children is to be deleted without them
abbrev pub spares_children : {B : Type 0} → Tree B → Names → Bool → Bool
spares_children tree path recursive = not recursive && nat_lt 0 (child_count tree path)

-- a node to be deleted: it is there, it isn't the root, it has children only where they go too, and it isn't a directory with
-- snapshots (HDFS Snapshots guide, "Snapshottable Directories") nor has one below it
abbrev pub delete_at : {B : Type 0} → State B → List ℕ → Bool → Asked Names
delete_at state text recursive = do
  path ← live_path text
  node ← walk state.tree path
  below ← refuse_if (is_root_path path) IsRoot
  alone ← refuse_if (spares_children state.tree path recursive) NotEmpty
  free ← refuse_if (holds_snapshots state path) HasSnapshots
  Ok path

-- whether a move that isn't into the node itself would put a snapshottable directory below another
abbrev pub would_nest : {B : Type 0} → State B → Names → Names → Bool
would_nest state old new = holds_snapshottable state old && is_in_snapshottable state new

-- a move: the node is there, the new parent too, the new path meets no node, the node isn't the root, no directory that moves
-- has snapshots, and the node moves neither below itself nor, with a snapshottable directory, below another
abbrev pub may_move : {B : Type 0} → State B → Names → Names → Asked (Unit {0})
may_move state old new = do
  walked ← both (walk state.tree old) (walks_above state.tree new)
  free ← refuse_if (is_some (node_at state.tree new)) Exists
  below ← refuse_if (is_root_path old) IsRoot
  held ← refuse_if (holds_snapshots state old) HasSnapshots
  apart ← refuse_if (is_above old new) IntoItself
  refuse_if (would_nest state old new) Nested

-- a node and its new place, number by number of the tests
abbrev pub rename_at : {B : Type 0} → State B → List ℕ → List ℕ → Asked (Names × Names)
rename_at state old new = do
  paths ← both (live_path old) (live_path new)
  apart ← may_move state paths.0 paths.1
  Ok paths

-- a node that gets a mode: it is there
abbrev pub set_mode_at : {B : Type 0} → State B → List ℕ → Asked Names
set_mode_at state text = do
  path ← live_path text
  node ← walk state.tree path
  Ok path
