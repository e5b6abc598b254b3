-- The tests of a deletion by rows are the plain machine's.
use Rattle.std.proofs.Common.{◌≡◌, Bool, List, ℕ, Ok, Err, refl, ap, ◌∙◌}
use Rattle.std.specs.Prelude.{IsErrAnd}
use Rattle.hs_types.specs.Names.{Names}
use Rattle.hs_types.specs.declared.ids.InodeId.{InodeId}
use Rattle.hs_types.specs.declared.refusal.Refusal.{Refusal}
use Rattle.hs_types.specs.declared.refusal.Refusal.TheVariants.{IsRoot, NotEmpty, HasSnapshots}
use Rattle.hs_plain.specs.declared.state.Node.{Node}
use Rattle.hs_plain.specs.declared.state.State.{State}
use Rattle.hs_plain.specs.declared.state.FileBlocks.{FileBlocks}
use Rattle.hs_plain.specs.Asked.{Asked, ◌>>=◌, refuse_if}
use Rattle.hs_plain.specs.Modifying.{live_path, spares_children, delete_at}
use Rattle.hs_plain.specs.State.{holds_snapshots}
use Rattle.hs_plain.specs.Tree.{is_root_path, walk}
use Rattle.path_resolver.specs.Live.{id_walked}
use Rattle.namenode_write.specs.GoneDirs.{may_go}

abbrev pub okay : {X : Type 0} → X → Asked X
okay x = Ok x

-- an error that is known
pub err_is : {X : Type 0} (a : Asked X) (why : Refusal) → IsErrAnd a (λ other. other ≡ why) → a ≡ Err why
err_is (Ok x) why is = absurd is
err_is (Err other) why is = ap (λ (w : Refusal). Err w) is

walk_refused : (a : Asked (Node FileBlocks)) (why : Refusal) → id_walked a ≡ Err why → a ≡ Err why
walk_refused (Ok n) why e = absurd (cc)
walk_refused (Err w) why e = cc

walk_led : (a : Asked (Node FileBlocks)) (id : InodeId) → id_walked a ≡ Ok id → (n : Node FileBlocks) × (a ≡ Ok n)
walk_led (Ok n) id e = (n, refl)
walk_led (Err w) id e = absurd (cc)

module _ (state : State FileBlocks) (path : Names) (recursive : Bool) where
  pub go-unwalked : (why : Refusal) → id_walked (walk state.tree path) ≡ Err why → may_go state path recursive ≡ Err why
  go-unwalked why led = rw (walk_refused (walk state.tree path) why led) refl

  module _ (id : InodeId) (led : id_walked (walk state.tree path) ≡ Ok id) where
    go_on : may_go state path recursive ≡ (refuse_if (is_root_path path) IsRoot >>= λ _. refuse_if (spares_children state.tree path recursive) NotEmpty >>= λ _. refuse_if (holds_snapshots state path) HasSnapshots)
    go_on = rw (walk_led (walk state.tree path) id led).1 refl

    pub go-root : (why : Refusal) → refuse_if (is_root_path path) IsRoot ≡ Err why → may_go state path recursive ≡ Err why
    go-root why root = go_on ∙ ap (λ (a : Asked (Unit {0})). a >>= λ _. refuse_if (spares_children state.tree path recursive) NotEmpty >>= λ _. refuse_if (holds_snapshots state path) HasSnapshots) root

    module _ (u : Unit {0}) (below : refuse_if (is_root_path path) IsRoot ≡ Ok u) where
      go_below : may_go state path recursive ≡ (refuse_if (spares_children state.tree path recursive) NotEmpty >>= λ _. refuse_if (holds_snapshots state path) HasSnapshots)
      go_below = go_on ∙ ap (λ (a : Asked (Unit {0})). a >>= λ _. refuse_if (spares_children state.tree path recursive) NotEmpty >>= λ _. refuse_if (holds_snapshots state path) HasSnapshots) below

      pub go-spared : (why : Refusal) → refuse_if (spares_children state.tree path recursive) NotEmpty ≡ Err why → may_go state path recursive ≡ Err why
      go-spared why spared = go_below ∙ ap (λ (a : Asked (Unit {0})). a >>= λ _. refuse_if (holds_snapshots state path) HasSnapshots) spared

      pub go-held : (v : Unit {0}) → refuse_if (spares_children state.tree path recursive) NotEmpty ≡ Ok v → may_go state path recursive ≡ refuse_if (holds_snapshots state path) HasSnapshots
      go-held v alone = go_below ∙ ap (λ (a : Asked (Unit {0})). a >>= λ _. refuse_if (holds_snapshots state path) HasSnapshots) alone

-- one test after the other, and then the path
in_turn : {N : Type 0} (w : Asked N) (a b c : Asked (Unit {0})) (path : Names) → (w >>= λ n. a >>= λ _. b >>= λ _. c >>= λ _. okay path) ≡ ((w >>= λ n. a >>= λ _. b >>= λ _. c) >>= λ _. okay path)
in_turn (Err why) a b c path = refl
in_turn (Ok n) (Err why) b c path = refl
in_turn (Ok n) (Ok u) (Err why) c path = refl
in_turn (Ok n) (Ok u) (Ok v) c path = refl

pub delete-tested : (state : State FileBlocks) (text : List ℕ) (recursive : Bool) (path : Names) → live_path text ≡ Ok path → delete_at state text recursive ≡ (may_go state path recursive >>= λ _. okay path)
delete-tested state text recursive path read =
    rw read (in_turn (walk state.tree path) (refuse_if (is_root_path path) IsRoot) (refuse_if (spares_children state.tree path recursive) NotEmpty) (refuse_if (holds_snapshots state path) HasSnapshots) path)
