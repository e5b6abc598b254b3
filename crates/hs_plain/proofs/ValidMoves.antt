-- A subtree at a new path: it is a tree again.
use Rattle.std.proofs.Common.{◌≡◌, ℕ, true, List, [], ◌∷◌, ◌++◌, Some, sym, ap, ◌∙◌, append_assoc, append-nil}
use Rattle.std.specs.Prelude.{◌≢◌}
use Rattle.hs_types.specs.Names.{Names}
use Rattle.hs_plain.specs.Tree.{parent_of}
use Rattle.hs_plain.specs.Valid.{are_names}
use Rattle.hs_plain.proofs.ValidNames.{names-joined, names-rest}
use Rattle.hs_plain.proofs.ValidShapes.{Shape, Shapes, IsTree, is_dir_shape, some_dir, by_under, by_last, parent_of-last, not_more}

-- each path at or below `old` becomes one at or below `new`, in a directory that isn't itself moved
module _ (f : Shapes) (next : ℕ) (is : IsTree f next) (old new above : Names) (name : List ℕ) (lands : new ≡ above ++ name ∷ []) (parent : is_dir_shape (f above) ≡ true)
    (below_root : old ≢ []) (outside : (rest : Names) → new ≢ old ++ rest) (named : are_names new ≡ true)
    (to : Names → Names) (to_under : (rest : Names) → to (old ++ rest) ≡ new ++ rest) (to_other : (p : Names) → ((rest : Names) → p ≢ old ++ rest) → to p ≡ p) where
  module _ (g : Shapes) (from : (q : Names) (s : Shape) → g q ≡ Some s → (p : Names) × (f p ≡ Some s) × (to p ≡ q)) (onto : (p : Names) (s : Shape) → f p ≡ Some s → g (to p) ≡ Some s) where
    dir_onto : (p q : Names) → to p ≡ q → is_dir_shape (f p) ≡ true → is_dir_shape (g q) ≡ true
    dir_onto p q e h = let t = some_dir (f p) h in ap (λ (x : Names). is_dir_shape (g x)) (sym e) ∙ ap is_dir_shape (onto p t.0 t.1 ∙ sym t.1) ∙ h

    one_up : (p q : Names) (a b : List ℕ) → p ++ a ∷ [] ≡ q ++ b ∷ [] → p ≡ q
    one_up p q a b e = sym (parent_of-last p a) ∙ ap parent_of e ∙ parent_of-last q b

    to_above : to above ≡ above
    to_above = to_other above (λ rest e. outside (rest ++ name ∷ []) (lands ∙ ap (λ (x : Names). x ++ name ∷ []) e ∙ append_assoc old rest (name ∷ [])))

    above_from : (q : Names) (last : List ℕ) (s : Shape) (p : Names) → f p ≡ Some s → to p ≡ q ++ last ∷ [] → is_dir_shape (g q) ≡ true
    above_from q last s p h e = by_under p old
        (λ rest d. by_last (λ r. p ≡ old ++ r → is_dir_shape (g q) ≡ true) rest
        (λ c. let landed : new ≡ q ++ last ∷ [] = sym (to_under [] ∙ append-nil new) ∙ ap to (sym c) ∙ e in
        dir_onto above q (to_above ∙ one_up above q name last (sym lands ∙ landed)) parent)
        (λ front other c. let up : (new ++ front) ++ other ∷ [] ≡ q ++ last ∷ [] = append_assoc new front (other ∷ []) ∙ sym (to_under (front ++ other ∷ [])) ∙ ap to (sym c) ∙ e in
        dir_onto (old ++ front) q (to_under front ∙ one_up (new ++ front) q other last up) (is.above (old ++ front) other s (ap f (append_assoc old front (other ∷ []) ∙ sym c) ∙ h)))
        d)
        (λ ne. let stays : p ≡ q ++ last ∷ [] = sym (to_other p ne) ∙ e in
        dir_onto q q (to_other q (λ rest d. ne (rest ++ last ∷ []) (stays ∙ ap (λ (x : Names). x ++ last ∷ []) d ∙ append_assoc old rest (last ∷ [])))) (is.above q last s (ap f (sym stays) ∙ h)))

    named_moved : (q : Names) (s : Shape) → g q ≡ Some s → are_names q ≡ true
    named_moved q s h = let w = from q s h in by_under w.0 old
        (λ rest d. ap are_names (sym w.2 ∙ ap to d ∙ to_under rest) ∙ names-joined new rest named (names-rest old rest (ap are_names (sym d) ∙ is.named w.0 s w.1)))
        (λ ne. ap are_names (sym w.2 ∙ to_other w.0 ne) ∙ is.named w.0 s w.1)

    pub tree-moved : IsTree g next
    tree-moved = record {
      root = ap g (sym (to_other [] (λ rest e. below_root (not_more old rest e)))) ∙ onto [] (1, true) is.root;
      above = λ q last s h. let w = from _ s h in above_from q last s w.0 w.1 w.2;
      once = λ a b s t h k same. let v = from a s h in let w = from b t k in sym v.2 ∙ ap to (is.once v.0 w.0 s t v.1 w.1 same) ∙ w.2;
      below = λ q s h. let w = from q s h in is.below w.0 s w.1;
      named = named_moved;
    }
