-- Tests by rows are the plain machine's tests.
use Rattle.std.proofs.Common.{◌≡◌, ℕ, Bool, true, List, Option, Some, None, Result, Ok, Err, refl, sym, ap, subst, ◌∙◌}
use Rattle.std.specs.Prelude.{is_some, MatchResult, IsErrAnd}
use Rattle.hs_types.specs.Names.{Names}
use Rattle.hs_types.specs.declared.ids.InodeId.{InodeId}
use Rattle.hs_types.specs.declared.refusal.Refusal.{Refusal}
use Rattle.hs_types.specs.declared.refusal.Refusal.TheVariants.{Exists, NotFile}
use Rattle.hs_plain.specs.declared.state.Node.{Node}
use Rattle.hs_plain.specs.declared.state.State.{State}
use Rattle.hs_plain.specs.declared.state.FileBlocks.{FileBlocks}
use Rattle.hs_plain.specs.declared.resolve.AskFault.{AskFault}
use Rattle.hs_plain.specs.Asked.{Asked, refuse_if}
use Rattle.hs_plain.specs.Tree.{node_at, walks_above, walk, is_dir}
use Rattle.hs_plain.specs.Modifying.{live_path, mkdir_at, takes_place_of, create_at, set_mode_at}
use Rattle.hs_plain.specs.inside.Faults.{IsFaultOf}
use Rattle.inode_table.specs.Reads.{id_of}
use Rattle.path_resolver.specs.Live.{id_walked}

-- an error that is known
pub match_err : {X T : Type 0} (r : Result T AskFault) (x : AskFault) (P : T → Type 0) (a : Asked X) → IsErrAnd r (λ y. y ≡ x) → IsFaultOf a x → MatchResult r P (IsFaultOf a)
match_err (Ok t) x P a is f = absurd is
match_err (Err e) x P a is f = subst (IsFaultOf a) (sym is) f

walk_refused : (a : Asked (Node FileBlocks)) (why : Refusal) → id_walked a ≡ Err why → a ≡ Err why
walk_refused (Ok n) why e = absurd (cc)
walk_refused (Err w) why e = cc

pub some_id : (o : Option (Node FileBlocks)) → is_some (id_of o) ≡ is_some o
some_id None = refl
some_id (Some n) = refl

module _ (state : State FileBlocks) (text : List ℕ) (path : Names) (read : live_path text ≡ Ok path) where
  pub set_mode_refused : (why : Refusal) → id_walked (walk state.tree path) ≡ Err why → set_mode_at state text ≡ Err why
  set_mode_refused why walked = rw (read, walk_refused (walk state.tree path) why walked) refl

  pub mkdir_refused : (why : Refusal) → walks_above state.tree path ≡ Err why → mkdir_at state text ≡ Err why
  mkdir_refused why above = rw (read, above) refl

  pub mkdir_asked : (u v : Unit {0}) → walks_above state.tree path ≡ Ok u → refuse_if (is_some (id_of (node_at state.tree path))) Exists ≡ Ok v → mkdir_at state text ≡ Ok path
  mkdir_asked u v above free = rw (read, above, ap (λ b. refuse_if b Exists) (sym (some_id (node_at state.tree path))) ∙ free) refl

  pub create_refused : (over : Bool) (why : Refusal) → walks_above state.tree path ≡ Err why → create_at state text over ≡ Err why
  create_refused over why above = rw (read, above) refl

  pub create_taken : (over : Bool) (u : Unit {0}) (why : Refusal) → walks_above state.tree path ≡ Ok u → takes_place_of over (node_at state.tree path) ≡ Err why → create_at state text over ≡ Err why
  create_taken over u why above taken = rw (read, above, taken) refl

-- over a node, only over a file
pub over_node : (o : Option (Node FileBlocks)) (id : InodeId) (over dir : Bool) → over ≡ true → id_of o ≡ Some id → ((node : Node FileBlocks) → o ≡ Some node → node.id ≡ id → dir ≡ is_dir node) → refuse_if dir NotFile ≡ takes_place_of over o
over_node None id over dir is there test = absurd (cc)
over_node (Some n) id over dir is there test = rw is (ap (λ b. refuse_if b NotFile) (test n refl (cc)))
