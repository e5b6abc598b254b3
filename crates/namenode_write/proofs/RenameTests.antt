-- The tests of a rename by rows are the plain machine's.
use Rattle.std.proofs.Common.{◌≡◌, ℕ, Bool, List, Option, Ok, Err, refl, sym, ap, ◌∙◌}
use Rattle.std.specs.Prelude.{is_some, IsErrAnd}
use Rattle.hs_types.specs.Names.{Names}
use Rattle.hs_types.specs.declared.ids.InodeId.{InodeId}
use Rattle.hs_types.specs.declared.refusal.Refusal.{Refusal}
use Rattle.hs_types.specs.declared.refusal.Refusal.TheVariants.{Exists, IsRoot, HasSnapshots, IntoItself, Nested}
use Rattle.hs_plain.specs.declared.state.Node.{Node}
use Rattle.hs_plain.specs.declared.state.State.{State}
use Rattle.hs_plain.specs.declared.state.FileBlocks.{FileBlocks}
use Rattle.hs_plain.specs.Asked.{Asked, ◌>>=◌, refuse_if, both}
use Rattle.hs_plain.specs.Modifying.{live_path, may_move, would_nest, rename_at}
use Rattle.hs_plain.specs.State.{holds_snapshots}
use Rattle.hs_plain.specs.Tree.{node_at, walk, walks_above, is_root_path, is_above}
use Rattle.inode_table.specs.Reads.{id_of}
use Rattle.path_resolver.specs.Live.{id_walked}
use Rattle.namenode_write.specs.Moving.{first_id}
use Rattle.namenode_write.proofs.RowTests.{some_id}

abbrev Walked : Type 0
Walked = Node FileBlocks × Unit {0}

-- both walks, the first one by the id of its node
abbrev pub both_ids : Asked InodeId → Asked (Unit {0}) → Asked InodeId
both_ids x y = both x y >>= λ at. Ok at.0

first_both : (a : Asked (Node FileBlocks)) (b : Asked (Unit {0})) → both_ids (id_walked a) b ≡ first_id (both a b)
first_both (Ok n) (Ok u) = refl
first_both (Ok n) (Err why) = refl
first_both (Err why) (Ok u) = refl
first_both (Err v) (Err w) = refl

walked_both : (a : Asked (Node FileBlocks)) (b : Asked (Unit {0})) (x : Asked InodeId) (y : Asked (Unit {0})) → x ≡ id_walked a → y ≡ b → both_ids x y ≡ first_id (both a b)
walked_both a b x y is_x is_y = (λ i. both_ids (is_x i) (is_y i)) ∙ first_both a b

pub walked-so : (a : Asked (Node FileBlocks)) (b : Asked (Unit {0})) (x v : Asked InodeId) (y w : Asked (Unit {0})) → x ≡ id_walked a → y ≡ b → x ≡ v → y ≡ w → both_ids v w ≡ first_id (both a b)
walked-so a b x v y w is_x is_y same_x same_y = (λ i. both_ids (sym same_x i) (sym same_y i)) ∙ walked_both a b x y is_x is_y

abbrev pub failed : Refusal → Asked InodeId
failed why = Err why

-- an error that is known
pub err-is : {T : Type 0} (r : Asked T) (why : Refusal) → IsErrAnd r (λ w. w ≡ why) → r ≡ Err why
err-is (Ok t) why is = absurd is
err-is (Err w) why is = ap (λ (x : Refusal). Err x) is

-- what a test by another value of the same answers
pub test-so : (b t : Bool) (why : Refusal) (r x : Asked (Unit {0})) → t ≡ b → r ≡ refuse_if t why → r ≡ x → refuse_if b why ≡ x
test-so b t why r x same is was = ap (λ c. refuse_if c why) (sym same) ∙ sym is ∙ was

pub taken-so : (o : Option (Node FileBlocks)) (there : Option InodeId) (taken : Bool) → there ≡ id_of o → taken ≡ is_some there → taken ≡ is_some o
taken-so o there taken is so = so ∙ ap is_some is ∙ some_id o

first_ok : (a : Asked Walked) (id : InodeId) → first_id a ≡ Ok id → (at : Walked) × (a ≡ Ok at)
first_ok (Ok at) id h = (at, refl)
first_ok (Err why) id h = absurd (cc)

first_err : (a : Asked Walked) (why : Refusal) → first_id a ≡ Err why → a ≡ Err why
first_err (Ok at) why h = absurd (cc)
first_err (Err w) why h = cc

module _ (state : State FileBlocks) (old new : Names) where
  abbrev walks : Asked Walked
  walks = both (walk state.tree old) (walks_above state.tree new)

  pub walk-refused : (why : Refusal) → first_id walks ≡ Err why → may_move state old new ≡ Err why
  walk-refused why h = rw (first_err walks why h) refl

  module _ (id : InodeId) (walked : first_id walks ≡ Ok id) where
    is_walked : (at : Walked) × (walks ≡ Ok at)
    is_walked = first_ok walks id walked

    pub taken-refused : (why : Refusal) → refuse_if (is_some (node_at state.tree new)) Exists ≡ Err why → may_move state old new ≡ Err why
    taken-refused why a = rw (is_walked.1, a) refl

    module _ (u : Unit {0}) (free : refuse_if (is_some (node_at state.tree new)) Exists ≡ Ok u) where
      pub root-refused : (why : Refusal) → refuse_if (is_root_path old) IsRoot ≡ Err why → may_move state old new ≡ Err why
      root-refused why a = rw (is_walked.1, free, a) refl

      module _ (v : Unit {0}) (below : refuse_if (is_root_path old) IsRoot ≡ Ok v) where
        pub held-refused : (why : Refusal) → refuse_if (holds_snapshots state old) HasSnapshots ≡ Err why → may_move state old new ≡ Err why
        held-refused why a = rw (is_walked.1, free, below, a) refl

        module _ (w : Unit {0}) (bare : refuse_if (holds_snapshots state old) HasSnapshots ≡ Ok w) where
          pub into-refused : (why : Refusal) → refuse_if (is_above old new) IntoItself ≡ Err why → may_move state old new ≡ Err why
          into-refused why a = rw (is_walked.1, free, below, bare, a) refl

          pub nested-last : (x : Unit {0}) → refuse_if (is_above old new) IntoItself ≡ Ok x → refuse_if (would_nest state old new) Nested ≡ may_move state old new
          nested-last x a = rw (is_walked.1, free, below, bare, a) refl

module _ (state : State FileBlocks) (old_text new_text : List ℕ) (paths : Names × Names) (read : both (live_path old_text) (live_path new_text) ≡ Ok paths) where
  pub move-refused : (why : Refusal) → may_move state paths.0 paths.1 ≡ Err why → rename_at state old_text new_text ≡ Err why
  move-refused why a = rw (read, a) refl

  pub move-asked : (u : Unit {0}) → may_move state paths.0 paths.1 ≡ Ok u → rename_at state old_text new_text ≡ Ok paths
  move-asked u a = rw (read, a) refl
