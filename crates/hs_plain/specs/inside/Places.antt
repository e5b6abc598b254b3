-- Words for laws on trees: paths outside of others, and places that a change takes away.
use Rattle.std.specs.Prelude.{◌≡◌, ◌≢◌, ℕ, Bool, if◌then◌else◌, ◌++◌, Option, Some, None}
use Rattle.hs_types.specs.Names.{Names}
use Rattle.hs_plain.specs.declared.state.Node.{Node}
use Rattle.hs_plain.specs.Tree.{Tree, node_at}

-- a path is neither another path nor below it
abbrev pub IsOutside : Names → Names → Type 0
IsOutside path other = (rest : Names) → other ≢ path ++ rest

-- nothing stands at a path or below it
abbrev pub IsFree : {B : Type 0} → Tree B → Names → Type 0
IsFree tree path = (rest : Names) → node_at tree (path ++ rest) ≡ None

-- an id stands at this path or nowhere
abbrev pub IsOnlyAt : {B : Type 0} → Tree B → Names → Node B → Type 0
IsOnlyAt tree path node = (other : Names) (found : Node _) → node_at tree other ≡ Some found → found.id ≡ node.id → other ≡ path

-- a place, unless a test takes it away
abbrev pub unless_place : {B : Type 0} → (Names × Node B → Bool) → Option (Names × Node B) → Option (Names × Node B)
unless_place goes None = None
unless_place goes (Some place) = if goes place then None else Some place

-- a node with another stamp
abbrev pub stamped_node : {B : Type 0} → ℕ → Node B → Node B
stamped_node tick node = record node { stamp = tick }

-- a node with another mode and stamp
abbrev pub moded_node : {B : Type 0} → ℕ → ℕ → Node B → Node B
moded_node mode tick node = record node { mode = mode; stamp = tick }
