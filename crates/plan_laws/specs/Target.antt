-- What a plan is carried out with, and the target on which it is.
use Rattle.std.specs.Prelude.{◌≡◌, ℕ, true, List, [], ◌∷◌, Some, None, Ok}
use Rattle.hs_types.specs.Names.{Names}
use Rattle.hs_plain.specs.declared.state.Node.{Node}
use Rattle.hs_plain.specs.declared.state.State.{State}
use Rattle.hs_plain.specs.Tree.{Tree, node_at, subtree}
use Rattle.hs_plain.specs.State.{is_snapshottable}
use Rattle.hs_plain.specs.Valid.{IsValid}
use Rattle.hs_plain.specs.Modifying.{live_path}
use Rattle.hs_plain.specs.Plan.{AreEqual}
use Rattle.plan_laws.specs.Pair.{IsPair, HasSameBytes}

-- two trees of one root in which a stamp tells a file's bytes, a name for the temporary directory that neither root has as a child, and names for what is moved out
-- that all differ
pub record IsBegun {B : Type 0} (from to : Tree B) (tmp : List ℕ) (number : ℕ → List ℕ) : Type 0 where
  pub pair : IsPair from to
  pub same_bytes : HasSameBytes from to
  pub from_free : node_at from (tmp ∷ []) ≡ None
  pub to_free : node_at to (tmp ∷ []) ≡ None
  pub numbers_differ : (i j : ℕ) → number i ≡ number j → i ≡ j

-- a valid state with a snapshottable directory at a path, whose tree is equal to another
pub record IsTarget (state : State (List ℕ)) (root_text : List ℕ) (root : Names) (from : Tree (List ℕ)) : Type 0 where
  pub valid : IsValid state
  pub leads : live_path root_text ≡ Ok root
  pub node : Node (List ℕ)
  pub there : node_at state.tree root ≡ Some node
  pub snapshottable : is_snapshottable state node.id ≡ true
  pub equal : AreEqual from (subtree state.tree root)
