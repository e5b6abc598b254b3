-- Ways up end.
use Rattle.std.proofs.Common.{◌≡◌, ℕ, List, [], ◌∷◌, ◌++◌, Option, Some, None, refl, sym, ap, subst, ◌∙◌, append_assoc, append-nil}
use Rattle.std.specs.Prelude.{◌≢◌}
use Rattle.hs_types.specs.Names.{Names}
use Rattle.hs_types.specs.declared.ids.InodeId.{InodeId}
use Rattle.hs_plain.specs.declared.state.Node.{Node}
use Rattle.hs_plain.proofs.ValidShapes.{same_some, none_some}
use Rattle.inode_table.specs.Reads.{Shown, Nodes, ReadsAs, IsNodes, Has, child, id_of}
use Rattle.inode_table.specs.Once.{Lists, IsIn, IsOnce}
use Rattle.inode_table.specs.Acyclic.{Ends, ends, AllEnd}
use Rattle.inode_table.proofs.Reading.{by_id}
use Rattle.inode_table.proofs.Covers.{some_id}
use Rattle.inode_table.proofs.Walking.{up_there}

fewer : (before after : Lists) → ((p : InodeId) (name : List ℕ) (x : InodeId) → IsIn after p name x → IsIn before p name x) → (id : InodeId) → Ends before id → Ends after id
fewer before after was id (ends _ up) = ends id (λ p name h. fewer before after was p (up p name (was p name id h)))

pub fewer-end : (before after : Lists) → ((p : InodeId) (name : List ℕ) (x : InodeId) → IsIn after p name x → IsIn before p name x) → AllEnd before → AllEnd after
fewer-end before after was all id = fewer before after was id (all id)

module _ {B : Type 0} (v : Shown B) (before : Lists) (top dir : InodeId) (f : Nodes B) (is : IsNodes f) (reads : ReadsAs v top f) (live : Has f dir) (once : IsOnce v.entries) (free : (p : InodeId) (name : List ℕ) → IsIn v.entries p name top → ⊥)
    (was : (p : InodeId) (name : List ℕ) (x : InodeId) → IsIn v.entries p name x → (p ≢ dir) → IsIn before p name x) where
  -- from a live place down
  down : (at below : Names) (n x : Node B) → f at ≡ Some n → Ends v.entries n.id → f (at ++ below) ≡ Some x → Ends v.entries x.id
  down at [] n x h end there = subst (λ (k : Node B). Ends v.entries k.id) (same_some (sym h ∙ ap f (sym (append-nil at)) ∙ there)) end
  down at (name ∷ below) n x h end there = next (f (child at name)) refl (λ m e below_end. down (child at name) below m x e below_end (ap f (append_assoc at (name ∷ []) below) ∙ there))
    where
      next : (o : Option (Node B)) → f (child at name) ≡ o → ((m : Node B) → f (child at name) ≡ Some m → Ends v.entries m.id → Ends v.entries x.id) → Ends v.entries x.id
      next None e more = let up = up_there f is (child at name) below x (ap f (append_assoc at (name ∷ []) below) ∙ there) in absurd (none_some (sym e ∙ up.1))
      next (Some m) e more = more m e (ends m.id (λ p other k. let same = once p n.id other name m.id k (reads.entries at n name h ∙ ap id_of e) in subst (Ends v.entries) (sym same.0) end))

  live_ends : (path : Names) (x : Node B) → f path ≡ Some x → Ends v.entries x.id
  live_ends path x h = let r = some_id (f []) top reads.root in down [] path r.0 x r.1 (subst (Ends v.entries) (sym r.2) (ends top (λ p name k. absurd (free p name k)))) h

  other : (id : InodeId) → Ends before id → Ends v.entries id
  other id (ends _ up) = ends id (λ p name h. by_id p dir
      (λ e. subst (Ends v.entries) (live.named ∙ sym e) (live_ends live.at live.node live.is))
      (λ ne. other p (up p name (was p name id h ne))))

  pub all_end : AllEnd before → AllEnd v.entries
  all_end all id = other id (all id)

pub add-end : {B : Type 0} (v : Shown B) (before : Lists) (top dir : InodeId) (f : Nodes B) → IsNodes f → ReadsAs v top f → Has f dir → IsOnce v.entries → ((p : InodeId) (name : List ℕ) → IsIn v.entries p name top → ⊥)
    → ((p : InodeId) (name : List ℕ) (x : InodeId) → IsIn v.entries p name x → (p ≢ dir) → IsIn before p name x) → AllEnd before → AllEnd v.entries
add-end v before top dir f is reads live once free was all = all_end v before top dir f is reads live once free was all
