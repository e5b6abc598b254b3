-- Two trees of one root.
use Rattle.std.specs.Prelude.{◌≡◌, true, false, ◌||◌, if◌then◌else◌, [], Option, Some, None, is_some}
use Rattle.std.specs.FinMap.Entries.{is_sorted}
use Rattle.hs_types.specs.Names.{Names}
use Rattle.hs_plain.specs.declared.state.Node.{Node}
use Rattle.hs_plain.specs.Tree.{Tree, path_cmp, node_at, is_dir, place_of}
use Rattle.hs_plain.specs.Valid.{has_parents, has_each_once}
use Rattle.hs_plain.specs.Plan.{is_copied}

pub record IsTree {B : Type 0} (tree : Tree B) : Type 0 where
  pub sorted : is_sorted path_cmp tree ≡ true
  pub parents : has_parents tree ≡ true
  pub each_once : has_each_once tree ≡ true

-- a directory is the root of both, no id stands twice in one, and an id is of one kind in both
pub record IsPair {B : Type 0} (from to : Tree B) : Type 0 where
  pub from_tree : IsTree from
  pub to_tree : IsTree to
  pub from_root : Node B
  pub to_root : Node B
  pub from_at : node_at from [] ≡ Some from_root
  pub to_at : node_at to [] ≡ Some to_root
  pub root_dir : is_dir from_root ≡ true
  pub same_root : from_root.id.0 ≡ to_root.id.0
  pub one_kind : (p q : Names) (a b : Node B) → node_at from p ≡ Some a → node_at to q ≡ Some b → a.id.0 ≡ b.id.0 → is_dir a ≡ is_dir b

-- a file whose stamp stayed has its bytes still
abbrev pub HasSameBytes : {B : Type 0} → Tree B → Tree B → Type 0
HasSameBytes from to = (p q : Names) (a b : Node _) → node_at from p ≡ Some a → node_at to q ≡ Some b → a.id.0 ≡ b.id.0 → a.stamp ≡ b.stamp → a.body ≡ b.body

-- all nodes but new files
abbrev pub if_old : {B : Type 0} → Tree B → Option (Node B) → Option (Node B)
if_old from None = None
if_old from (Some node) = if is_dir node || is_some (place_of from node.id) then Some node else None

abbrev pub old_sight : {B : Type 0} → Tree B → Tree B → Names → Option (Node B)
old_sight from to path = if_old from (node_at to path)

-- one id and kind, and one content where no copy is made
pub record Alike {B : Type 0} (from : Tree B) (a b : Node B) : Type 0 where
  pub same_id : a.id.0 ≡ b.id.0
  pub same_kind : is_dir a ≡ is_dir b
  pub same_body : is_copied from ([], b) ≡ false → a.body ≡ b.body
