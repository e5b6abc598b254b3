-- What rows show at one moment, and when that is a tree.
use Rattle.std.specs.Prelude.{◌≡◌, ℕ, List, [], ◌∷◌, ◌++◌, Option, Some}
use Rattle.std.specs.Option.{option_map}
use Rattle.hs_types.specs.Names.{Names}
use Rattle.hs_types.specs.declared.ids.InodeId.{InodeId}
use Rattle.hs_types.specs.declared.name.Spot.{Spot}
use Rattle.hs_plain.specs.declared.state.Node.{Node}
use Rattle.dir_changes.specs.Entries.{Entries, id_at}

-- what the rows show at one moment, by inode: the node, the entries (a file has none), and the spot
pub record Shown (B : Type 0) : Type 0 where
  pub node : InodeId → Option (Node B)
  pub entries : InodeId → Entries
  pub spot : InodeId → Option Spot

-- nodes by their paths, as `node_at tree`
abbrev pub Nodes : Type 0 → Type 0
Nodes B = Names → Option (Node B)

abbrev pub id_of : {B : Type 0} → Option (Node B) → Option InodeId
id_of node = option_map (λ n. n.id) node

-- a child's path
abbrev pub child : Names → List ℕ → Names
child above name = above ++ name ∷ []

-- the nodes that are read from a directory on: place by place
pub record ReadsAs {B : Type 0} (shown : Shown B) (top : InodeId) (nodes : Nodes B) : Type 0 where
  pub root : id_of (nodes []) ≡ Some top
  pub node : (p : Names) (n : Node B) → nodes p ≡ Some n → shown.node n.id ≡ Some n
  pub entries : (p : Names) (n : Node B) (name : List ℕ) → nodes p ≡ Some n → id_at name (shown.entries n.id) ≡ id_of (nodes (child p name))
  pub spot : (p : Names) (n x : Node B) (name : List ℕ) → nodes p ≡ Some n → nodes (child p name) ≡ Some x → shown.spot x.id ≡ Some (record { parent = n.id; name = name })

-- nothing without a node above it, and each id once
pub record IsNodes {B : Type 0} (nodes : Nodes B) : Type 0 where
  pub above : (p : Names) (x : Node B) (name : List ℕ) → nodes (child p name) ≡ Some x → (n : Node B) × (nodes p ≡ Some n)
  pub once : (p q : Names) (a b : Node B) → nodes p ≡ Some a → nodes q ≡ Some b → a.id ≡ b.id → p ≡ q

-- an inode stands somewhere
pub record Has {B : Type 0} (nodes : Nodes B) (id : InodeId) : Type 0 where
  pub at : Names
  pub node : Node B
  pub is : nodes at ≡ Some node
  pub named : node.id ≡ id

-- one inode stands right below another
pub record Child {B : Type 0} (nodes : Nodes B) (parent id : InodeId) : Type 0 where
  pub at : Names
  pub name : List ℕ
  pub above : Node B
  pub node : Node B
  pub is_above : nodes at ≡ Some above
  pub is : nodes (child at name) ≡ Some node
  pub parent_named : above.id ≡ parent
  pub named : node.id ≡ id
