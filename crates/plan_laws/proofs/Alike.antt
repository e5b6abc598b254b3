-- Below two nodes that are alike, what no out has taken from the one tree is what no put brings to the other.
use Rattle.std.proofs.Common.{◌≡◌, ◌⊎◌, inl, inr, ℕ, Bool, true, false, ◌||◌, Option, Some, None, List, [], ◌∷◌, ◌++◌, refl, ap, sym, subst, ◌∙◌, append_assoc, append-nil}
use Rattle.hs_types.specs.Names.{Names}
use Rattle.plan_laws.specs.Sight.{Sight, unless, cuts, Both, Child, Differ}

pub both-at : {X : Type 0} (Alike : X → X → Type 0) {o u v w : Option X} → o ≡ u → v ≡ w → Both Alike u w → Both Alike o v
both-at Alike {o} {u} {v} {w} e f h = subst (λ x. Both Alike x v) (sym e) (subst (λ x. Both Alike u x) (sym f) h)

unless-none : {X : Type 0} (b : Bool) (o : Option X) → o ≡ None → unless b o ≡ None
unless-none true o e = refl
unless-none false o e = e

longer : (p : Names) (n : List ℕ) → ◌≡◌ {A = Names → Names} (λ x. (p ++ n ∷ []) ++ x) (λ x. p ++ n ∷ x)
longer p n = λ i x. append_assoc p (n ∷ []) x i

module _ {X : Type 0} (Alike : X → X → Type 0) (from to : Sight X) (is_out is_put : Names → Bool) (differ : Differ Alike from to is_out is_put) where
  -- one name further down
  further : (s : Sight X) (test : Names → Bool) (p : Names) (n : List ℕ) (r : Names) → test (p ++ n ∷ []) ≡ false →
      unless (cuts (λ x. test (p ++ x)) (n ∷ r)) (s (p ++ n ∷ r)) ≡ unless (cuts (λ x. test ((p ++ n ∷ []) ++ x)) r) (s ((p ++ n ∷ []) ++ r))
  further s test p n r none =
      ap (λ b. unless (b || cuts (λ x. test (p ++ n ∷ x)) r) (s (p ++ n ∷ r))) none
      ∙ ap (λ (path : Names → Names). unless (cuts (λ x. test (path x)) r) (s (path r))) (sym (longer p n))

  none-under : (s : Sight X) → ((p : Names) (n : List ℕ) → s p ≡ None → s (p ++ n ∷ []) ≡ None) → (r p : Names) → s p ≡ None → s (p ++ r) ≡ None
  none-under s below [] p none = ap s (append-nil p) ∙ none
  none-under s below (n ∷ r) p none = ap s (sym (append_assoc p (n ∷ []) r)) ∙ none-under s below r (p ++ n ∷ []) (below p n none)

  cut-off : (s : Sight X) (test : Names → Bool) → ((p : Names) (n : List ℕ) → s p ≡ None → s (p ++ n ∷ []) ≡ None) → (p : Names) (n : List ℕ) (r : Names) → (s (p ++ n ∷ []) ≡ None ⊎ test (p ++ n ∷ []) ≡ true) →
      unless (cuts (λ x. test (p ++ x)) (n ∷ r)) (s (p ++ n ∷ r)) ≡ None
  cut-off s test below p n r (inl none) = unless-none (cuts (λ x. test (p ++ x)) (n ∷ r)) (s (p ++ n ∷ r)) (ap s (sym (append_assoc p (n ∷ []) r)) ∙ none-under s below r (p ++ n ∷ []) none)
  cut-off s test below p n r (inr cut) = ap (λ b. unless (b || cuts (λ x. test (p ++ n ∷ x)) r) (s (p ++ n ∷ r))) cut

  pub below-put : (t : Names) (n : List ℕ) (r : Names) → (to (t ++ n ∷ []) ≡ None ⊎ is_put (t ++ n ∷ []) ≡ true) → unless (cuts (λ x. is_put (t ++ x)) (n ∷ r)) (to (t ++ n ∷ r)) ≡ None
  below-put t n r gone = cut-off to is_put differ.none_below_there t n r gone

  pub alike-below : (r p t : Names) (a b : X) → from p ≡ Some a → to t ≡ Some b → Alike a b →
      Both Alike (unless (cuts (λ x. is_out (p ++ x)) r) (from (p ++ r))) (unless (cuts (λ x. is_put (t ++ x)) r) (to (t ++ r)))
  alike-below [] p t a b here there alike = both-at Alike (ap from (append-nil p) ∙ here) (ap to (append-nil t) ∙ there) alike
  alike-below (n ∷ r) p t a b here there alike = by_child (λ p t a b here there alike. alike-below r p t a b here there alike) (differ.child p t n a b here there alike)
    where
      by_child : ((p t : Names) (a b : X) → from p ≡ Some a → to t ≡ Some b → Alike a b → Both Alike (unless (cuts (λ x. is_out (p ++ x)) r) (from (p ++ r))) (unless (cuts (λ x. is_put (t ++ x)) r) (to (t ++ r)))) →
          Child Alike from to is_out is_put (p ++ n ∷ []) (t ++ n ∷ []) → Both Alike (unless (cuts (λ x. is_out (p ++ x)) (n ∷ r)) (from (p ++ n ∷ r))) (unless (cuts (λ x. is_put (t ++ x)) (n ∷ r)) (to (t ++ n ∷ r)))
      by_child next (inl same) = both-at Alike (further from is_out p n r same.no_out) (further to is_put t n r same.no_put)
          (next (p ++ n ∷ []) (t ++ n ∷ []) same.a same.b same.here same.there same.alike)
      by_child next (inr gone) = both-at Alike (cut-off from is_out differ.none_below p n r gone.0) (cut-off to is_put differ.none_below_there t n r gone.1) tt
