-- The printed tree, and how much a state holds.
use Rattle.std.specs.Prelude.{ℕ, ◌-◌, List, map, length, slice_get}
use Rattle.hs_types.specs.Names.{Names}
use Rattle.hs_types.specs.declared.shown.TreeLine.{TreeLine}
use Rattle.hs_types.specs.declared.shown.Counts.{Counts}
use Rattle.hs_plain.specs.declared.state.Node.{Node}
use Rattle.hs_plain.specs.declared.state.State.{State}
use Rattle.hs_plain.specs.Tree.{Tree, is_dir, size_of}

-- the name is the last of the path; the root has none
abbrev pub tree_line : {B : Type 0} → (B → ℕ) → Tree B → Names × Node B → TreeLine
tree_line bytes tree place = record {
  depth = length place.0;
  id = place.1.id;
  is_dir = is_dir place.1;
  mode = place.1.mode;
  stamp = place.1.stamp;
  size = size_of bytes tree place.0 place.1.body;
  name = slice_get place.0 (length place.0 - 1);
}

-- a line for each node: a directory before its children, and children in name order
abbrev pub lines_of : {B : Type 0} → (B → ℕ) → Tree B → List TreeLine
lines_of bytes tree = map (tree_line bytes tree) tree

abbrev pub tree_lines : State (List ℕ) → List TreeLine
tree_lines state = lines_of length state.tree

-- the counts of a namenode as it is today, which keeps no records: rows are the live nodes, and list entries all but the root; the blocks are those of a store
abbrev pub live_counts : {B : Type 0} → State B → ℕ → Counts
live_counts state blocks = record { rows = length state.tree; records = 0; list_entries = length state.tree - 1; snapshots = length state.members; blocks = blocks }
