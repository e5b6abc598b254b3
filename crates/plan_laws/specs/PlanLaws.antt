-- Laws of a plan: what its moves and copies lead to, and between which trees.
use Rattle.std.specs.Prelude.{◌≡◌, ◌∷◌, [], List, ℕ, true, Some, None}
use Rattle.std.specs.List.{Contains}
use Rattle.hs_types.specs.Names.{Names}
use Rattle.hs_plain.specs.declared.state.Node.{Node}
use Rattle.hs_plain.specs.declared.state.Member.{Member}
use Rattle.hs_plain.specs.declared.state.State.{State}
use Rattle.hs_plain.specs.Tree.{Tree, node_at, is_dir, subtree}
use Rattle.hs_plain.specs.Plan.{outs, rest_below}
use Rattle.hs_plain.specs.Valid.{IsValid, HasSteadyStamps}
use Rattle.plan_laws.specs.Placings.{placings}
use Rattle.plan_laws.specs.Pair.{IsPair, HasSameBytes, Alike, old_sight}
use Rattle.plan_laws.specs.Sight.{made_sight, outs_done, OutsGo, Both, puts_done, PutsGo}
use Rattle.plan_laws.specs.Copies.{Contents, content_of, CopyCall, IsMerging, SyncGoes, after_sync}

-- from the first of two trees each out of the plan is accepted
abbrev pub PlanOutsGo : Type 0
PlanOutsGo = (from to : Tree (List ℕ)) → IsPair from to → HasSameBytes from to → (tmp : List ℕ) (number : ℕ → List ℕ) → ((i j : ℕ) → number i ≡ number j → i ≡ j) → (top : Node (List ℕ)) → is_dir top ≡ true →
    node_at from (tmp ∷ []) ≡ None → node_at to (tmp ∷ []) ≡ None → OutsGo is_dir tmp number (made_sight (node_at from) (tmp ∷ []) top) 0 (outs from to)

-- and behind them each put
abbrev pub PlanPutsGo : Type 0
PlanPutsGo = (from to : Tree (List ℕ)) → IsPair from to → HasSameBytes from to → (tmp : List ℕ) (number : ℕ → List ℕ) → ((i j : ℕ) → number i ≡ number j → i ≡ j) → (top : Node (List ℕ)) → is_dir top ≡ true →
    node_at from (tmp ∷ []) ≡ None → node_at to (tmp ∷ []) ≡ None → PutsGo is_dir tmp number (outs_done tmp number (made_sight (node_at from) (tmp ∷ []) top) 0 (outs from to)) (placings from to)

-- then stands outside of tmp the second tree, but for new files and changed bytes
abbrev pub PlanMovesLead : Type 0
PlanMovesLead = (from to : Tree (List ℕ)) → IsPair from to → HasSameBytes from to → (tmp : List ℕ) (number : ℕ → List ℕ) → ((i j : ℕ) → number i ≡ number j → i ≡ j) → (top : Node (List ℕ)) → is_dir top ≡ true →
    node_at from (tmp ∷ []) ≡ None → node_at to (tmp ∷ []) ≡ None →
    (q : Names) → rest_below (tmp ∷ []) q ≡ None → Both (Alike from) (puts_done tmp number (outs_done tmp number (made_sight (node_at from) (tmp ∷ []) top) 0 (outs from to)) (placings from to) q) (old_sight from to q)

-- on what the first tree holds all calls of the plan are accepted, the copies' calls merged in any way that keeps each copy's order
abbrev pub PlanGoes : Type 0
PlanGoes = (from to : Tree (List ℕ)) → IsPair from to → HasSameBytes from to → (tmp : List ℕ) (number : ℕ → List ℕ) → ((i j : ℕ) → number i ≡ number j → i ≡ j) →
    node_at from (tmp ∷ []) ≡ None → node_at to (tmp ∷ []) ≡ None → (target : Contents) → ((q : Names) → target q ≡ content_of (node_at from q)) →
    (pages : Names → List (List ℕ)) (calls : List CopyCall) → IsMerging from to pages calls → SyncGoes tmp number from to calls target

-- and they lead to what the second tree holds
abbrev pub PlanLeads : Type 0
PlanLeads = (from to : Tree (List ℕ)) → IsPair from to → HasSameBytes from to → (tmp : List ℕ) (number : ℕ → List ℕ) → ((i j : ℕ) → number i ≡ number j → i ≡ j) →
    node_at from (tmp ∷ []) ≡ None → node_at to (tmp ∷ []) ≡ None → (target : Contents) → ((q : Names) → target q ≡ content_of (node_at from q)) →
    (pages : Names → List (List ℕ)) (calls : List CopyCall) → IsMerging from to pages calls → (q : Names) → after_sync tmp number from to calls target q ≡ content_of (node_at to q)

-- two snapshots of one directory, in a valid state in which stamps tell what nodes are, are two trees of one root
abbrev pub SnapshotsArePairs : Type 0
SnapshotsArePairs = (state : State (List ℕ)) → IsValid state → HasSteadyStamps state → (m n : Member (List ℕ)) → Contains state.members m → Contains state.members n → m.directory ≡ n.directory → IsPair m.tree n.tree × HasSameBytes m.tree n.tree

-- and so are a snapshot and the current state of its directory
abbrev pub LiveIsPair : Type 0
LiveIsPair = (state : State (List ℕ)) → IsValid state → HasSteadyStamps state → (m : Member (List ℕ)) → Contains state.members m → (path : Names) (node : Node (List ℕ)) → node_at state.tree path ≡ Some node → m.directory ≡ node.id →
    IsPair m.tree (subtree state.tree path) × HasSameBytes m.tree (subtree state.tree path)
