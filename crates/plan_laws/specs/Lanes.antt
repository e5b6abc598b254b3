-- Calls of which some may be refused: any two mergings of a plan's copies lead to equal trees.
use Rattle.std.specs.Prelude.{◌≡◌, ℕ, true, if◌then◌else◌, List, [], ◌∷◌, Ok, Some}
use Rattle.hs_types.specs.Names.{Names}
use Rattle.hs_types.specs.declared.call.Call.{Call}
use Rattle.hs_types.specs.declared.journal.Entry.{Entry}
use Rattle.hs_types.specs.declared.journal.EntryKind.TheVariants.{Accepted}
use Rattle.hs_plain.specs.declared.state.Node.{Node}
use Rattle.hs_plain.specs.declared.state.State.{State}
use Rattle.hs_plain.specs.Files.{plain_files}
use Rattle.hs_plain.specs.Tree.{Tree, node_at, subtree}
use Rattle.hs_plain.specs.State.{is_snapshottable}
use Rattle.hs_plain.specs.Modifying.{live_path}
use Rattle.hs_plain.specs.Answer.{answer, is_ok_reply}
use Rattle.hs_plain.specs.Change.{after}
use Rattle.hs_plain.specs.Valid.{has_names, IsValid}
use Rattle.hs_plain.specs.Plan.{plan_of, ArePlanCalls, AreEqual}
use Rattle.plan_laws.specs.Pair.{IsPair}

-- an entry of an accepted call; whose it is makes no difference to the state behind it
abbrev pub accepted_entry : Call → Entry
accepted_entry call = record { caller = record { 0 = 0 }; seq = 0; kind = Accepted; call = call }

-- a call that is answered Ok changes the state, and one that is refused leaves it as it is
abbrev pub call_tried : State (List ℕ) → Call → State (List ℕ)
call_tried state call = if is_ok_reply (answer state call) then after plain_files state (accepted_entry call) else state

abbrev pub calls_tried : State (List ℕ) → List Call → State (List ℕ)
calls_tried state [] = state
calls_tried state (call ∷ calls) = calls_tried (call_tried state call) calls

-- a valid state with a snapshottable directory at a path
pub record HasRoot (state : State (List ℕ)) (root_text : List ℕ) (root : Names) : Type 0 where
  pub valid : IsValid state
  pub leads : live_path root_text ≡ Ok root
  pub node : Node (List ℕ)
  pub there : node_at state.tree root ≡ Some node
  pub snapshottable : is_snapshottable state node.id ≡ true

-- from equal trees of two states' roots any two mergings of a plan's calls lead to equal trees, whatever these trees are, and whichever of the calls are refused
abbrev pub MergingsLeadToOne : Type 0
MergingsLeadToOne = (from to : Tree (List ℕ)) → IsPair from to → has_names from ≡ true → has_names to ≡ true → (names : Names) (root_text : List ℕ) (root : Names) →
    (one two : List Call) → ArePlanCalls root_text (plan_of from to names) to one → ArePlanCalls root_text (plan_of from to names) to two →
    (a b : State (List ℕ)) → HasRoot a root_text root → HasRoot b root_text root → AreEqual (subtree a.tree root) (subtree b.tree root) →
    AreEqual (subtree (calls_tried a one).tree root) (subtree (calls_tried b two).tree root)
