-- The way up from an inode, by spots that lists confirm.
use Rattle.std.specs.Prelude.{◌≡◌, ℕ, zero, suc, ◌<◌, if◌then◌else◌, [], length, Option, Some, None}
use Rattle.std.specs.Option.{option_map}
use Rattle.hs_types.specs.Names.{Names}
use Rattle.hs_types.specs.declared.ids.InodeId.{InodeId}
use Rattle.hs_types.specs.declared.name.Spot.{Spot}
use Rattle.hs_plain.specs.declared.state.Node.{Node}
use Rattle.hs_plain.specs.declared.state.FileBlocks.{FileBlocks}
use Rattle.hs_plain.specs.Tree.{same_inode}
use Rattle.dir_changes.specs.Entries.{id_at, is_that}
use Rattle.inode_table.specs.Reads.{Shown, Nodes, ReadsAs, IsNodes, child, id_of}
use Rattle.inode_table.specs.Walk.{and_then}

abbrev pub below_spot : Spot → Names → Names
below_spot spot path = child path spot.name

-- the path from the top, in at most so many steps, where spots lead up to it and each list names the row before
abbrev pub path_up : {B : Type 0} → Shown B → InodeId → ℕ → InodeId → Option Names
path_up shown top zero id = None
path_up shown top (suc n) id = if same_inode id top then Some [] else and_then (shown.spot id) (λ spot. if is_that id (id_at spot.name (shown.entries spot.parent)) then option_map (below_spot spot) (path_up shown top n spot.parent) else None)

pub record Ups {B : Type 0} (shown : Shown B) (top : InodeId) (f : Nodes B) : Type 0 where
  pub leads : (n : ℕ) (id : InodeId) (path : Names) → path_up shown top n id ≡ Some path → id_of (f path) ≡ Some id
  pub finds : (path : Names) (node : Node B) (n : ℕ) → f path ≡ Some node → length path < n → path_up shown top n node.id ≡ Some path

abbrev pub UpLaw : Type 0
UpLaw = (shown : Shown FileBlocks) (top : InodeId) (f : Nodes FileBlocks) → IsNodes f → ReadsAs shown top f → Ups shown top f
