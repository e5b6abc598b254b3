-- What each line of a report says of an inode in the two trees. For proofs: contracts speak of the plain machine's lines.
use Rattle.std.specs.Prelude.{◌≡◌, ◌≢◌, ◌⊎◌, ℕ, List, Some, None}
use Rattle.hs_types.specs.Names.{Names}
use Rattle.hs_types.specs.declared.reply.Line.{Line}
use Rattle.hs_types.specs.declared.reply.LineKind.TheVariants.{Deleted, Renamed, Modified, Created}
use Rattle.hs_plain.specs.declared.state.Node.{Node}
use Rattle.hs_plain.specs.Report.{line_of}
use Rattle.inode_table.specs.Reads.{Nodes, Has, child}

-- an inode stands right below a directory
pub record Below {B : Type 0} (nodes : Nodes B) (at : Names) (name : List ℕ) (dir node : Node B) : Type 0 where
  pub above : nodes at ≡ Some dir
  pub here : nodes (child at name) ≡ Some node

-- an inode of the first tree isn't in the second, and the directory that it stood in is
pub record Gone {B : Type 0} (from to : Nodes B) (line : Line) : Type 0 where
  pub at : Names
  pub name : List ℕ
  pub dir : Node B
  pub node : Node B
  pub stood : Below from at name dir node
  pub absent : Has to node.id → ⊥
  pub stays : Has to dir.id
  pub so : line ≡ line_of Deleted (child at name) None node

-- an inode of both has another parent or another name
pub record Moved {B : Type 0} (from to : Nodes B) (line : Line) : Type 0 where
  pub old_at : Names
  pub new_at : Names
  pub old_name : List ℕ
  pub new_name : List ℕ
  pub old_dir : Node B
  pub new_dir : Node B
  pub old : Node B
  pub new : Node B
  pub stood : Below from old_at old_name old_dir old
  pub stands : Below to new_at new_name new_dir new
  pub same : old.id ≡ new.id
  pub other : old_dir.id ≡ new_dir.id → old_name ≡ new_name → ⊥
  pub so : line ≡ line_of Renamed (child old_at old_name) (Some (child new_at new_name)) old

-- an inode of both has another stamp
pub record Stamped {B : Type 0} (from to : Nodes B) (line : Line) : Type 0 where
  pub old_at : Names
  pub new_at : Names
  pub old : Node B
  pub new : Node B
  pub stood : from old_at ≡ Some old
  pub stands : to new_at ≡ Some new
  pub same : old.id ≡ new.id
  pub other : old.stamp ≢ new.stamp
  pub so : line ≡ line_of Modified old_at None old

-- an inode of the second tree isn't in the first, and the directory that it stands in was there
pub record New {B : Type 0} (from to : Nodes B) (line : Line) : Type 0 where
  pub at : Names
  pub name : List ℕ
  pub dir : Node B
  pub node : Node B
  pub stands : Below to at name dir node
  pub absent : Has from node.id → ⊥
  pub dir_at : Names
  pub old_dir : Node B
  pub was : from dir_at ≡ Some old_dir
  pub same : old_dir.id ≡ dir.id
  pub so : line ≡ line_of Created (child dir_at name) None node

-- a line that is so
abbrev pub IsLine : {B : Type 0} → Nodes B → Nodes B → Line → Type 0
IsLine from to line = Gone from to line ⊎ (Moved from to line ⊎ (Stamped from to line ⊎ New from to line))
