-- The tests of an append by rows are the plain machine's.
use Rattle.std.proofs.Common.{◌≡◌, ℕ, Bool, List, Some, Ok, Err, refl, sym, ap, ◌∙◌}
use Rattle.hs_types.specs.Names.{Names}
use Rattle.hs_types.specs.declared.ids.InodeId.{InodeId}
use Rattle.hs_types.specs.declared.refusal.Refusal.{Refusal}
use Rattle.hs_types.specs.declared.refusal.Refusal.TheVariants.{NotFile}
use Rattle.hs_plain.specs.declared.state.Node.{Node}
use Rattle.hs_plain.specs.declared.state.Body.{Body}
use Rattle.hs_plain.specs.declared.state.Body.TheVariants.{File, Dir}
use Rattle.hs_plain.specs.declared.state.State.{State}
use Rattle.hs_plain.specs.declared.state.FileBlocks.{FileBlocks}
use Rattle.hs_plain.specs.Asked.{Asked, refuse_if}
use Rattle.hs_plain.specs.Tree.{node_at, walk, is_dir, is_dir_body}
use Rattle.hs_plain.specs.Modifying.{live_path, file_in, append_at}
use Rattle.path_resolver.specs.Live.{id_walked}
use Rattle.namenode_write.specs.Appending.{append_path}
use Rattle.namenode_write.proofs.RowFiles.{walk-at}

abbrev given : {X : Type 0} → X → Asked X
given x = Ok x

abbrev refused : {X : Type 0} → Refusal → Asked X
refused why = Err why

same_why : {X : Type 0} {a b : Refusal} → refused {X = X} a ≡ Err b → a ≡ b
same_why e = cc

ok_err : {X : Type 0} {P : Type 0} {x : X} {why : Refusal} → given x ≡ Err why → P
ok_err e = absurd (cc)

walk_refused : (a : Asked (Node FileBlocks)) (why : Refusal) → id_walked a ≡ Err why → a ≡ Err why
walk_refused (Ok n) why e = ok_err e
walk_refused (Err w) why e = ap (λ (x : Refusal). refused x) (same_why e)

record Walked (a : Asked (Node FileBlocks)) (id : InodeId) : Type 0 where
  node : Node FileBlocks
  is : a ≡ Ok node
  named : node.id ≡ id

walked : (a : Asked (Node FileBlocks)) (id : InodeId) → id_walked a ≡ Ok id → Walked a id
walked (Ok n) id e = record { node = n; is = refl; named = cc }
walked (Err why) id e = absurd (cc)

-- a directory is refused as no file
dir_refused : (body : Body FileBlocks) (dir : Bool) (why : Refusal) → dir ≡ is_dir_body body → refuse_if dir NotFile ≡ Err why → file_in body ≡ Err why
dir_refused (File file) dir why same e = ok_err (sym (ap (λ b. refuse_if b NotFile) same) ∙ e)
dir_refused Dir dir why same e = ap (λ (x : Refusal). refused x) (same_why (sym (ap (λ b. refuse_if b NotFile) same) ∙ e))

-- and a file isn't
file_given : (body : Body FileBlocks) (dir : Bool) (u : Unit {0}) → dir ≡ is_dir_body body → refuse_if dir NotFile ≡ Ok u → (file : FileBlocks) × (file_in body ≡ Ok file)
file_given (File file) dir u same e = (file, refl)
file_given Dir dir u same e = absurd (let no = sym (ap (λ b. refuse_if b NotFile) same) ∙ e in cc)

module _ (state : State FileBlocks) (text : List ℕ) (path : Names) (read : live_path text ≡ Ok path) where
  pub append_refused : (why : Refusal) → id_walked (walk state.tree path) ≡ Err why → append_at state text ≡ Err why
  append_refused why walked = rw (read, walk_refused (walk state.tree path) why walked) refl

  module _ (id : InodeId) (dir : Bool) (there : id_walked (walk state.tree path) ≡ Ok id) (test : (p : Names) (node : Node FileBlocks) → node_at state.tree p ≡ Some node → node.id ≡ id → dir ≡ is_dir node) where
    at : Walked (walk state.tree path) id
    at = walked (walk state.tree path) id there

    dir_is : dir ≡ is_dir at.node
    dir_is = test path at.node (walk-at state.tree path at.node at.is) at.named

    pub append_dir : (why : Refusal) → refuse_if dir NotFile ≡ Err why → append_at state text ≡ Err why
    append_dir why e = rw (read, at.is, dir_refused at.node.body dir why dir_is e) refl

    pub append_asked : (u : Unit {0}) → refuse_if dir NotFile ≡ Ok u → append_path (append_at state text) ≡ Ok path
    append_asked u e = let file = file_given at.node.body dir u dir_is e in rw (read, at.is, file.1) refl
