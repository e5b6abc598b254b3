-- Where the nodes of a tree stand after the outs, and that each out is accepted.
use Rattle.std.specs.List.{AllByRecursion}
use Rattle.std.proofs.Common.{◌≡◌, ℕ, ◌+◌, ◌<◌, ◌≤◌, Bool, true, false, ◌||◌, Option, Some, None, is_some, List, [], ◌∷◌, ◌++◌, length, refl, ap, sym, ◌∙◌, append-nil, arith}
use Rattle.hs_types.specs.Names.{Names}
use Rattle.hs_plain.specs.Plan.{rest_below}
use Rattle.plan_laws.specs.Sight.{Sight, is_at_or_below, hits, inside_or, moved_sight, unless, outs_done, NoneBelow, IsNotIn, OutsGo}
use Rattle.plan_laws.proofs.Paths.{rest-here, none-deeper, outside-none, outside-other, other-child, not-itself}

module _ {X : Type 0} (tmp : List ℕ) (number : ℕ → List ℕ) (once : (i j : ℕ) → number i ≡ number j → i ≡ j) where
  moved-outside : (s : Sight X) (k : ℕ) (p q : Names) → rest_below (tmp ∷ []) q ≡ None → moved_sight s p (tmp ∷ number k ∷ []) q ≡ unless (is_at_or_below p q) (s q)
  moved-outside s k p q out =
      ap (λ o. inside_or o (λ rest. s (p ++ rest)) (inside_or (rest_below p q) (λ rest. None) (s q))) (none-deeper tmp (number k ∷ []) q out)
      ∙ at (rest_below p q)
    where
      at : (o : Option Names) → inside_or o (λ rest. None) (s q) ≡ unless (is_some o) (s q)
      at None = refl
      at (Some r) = refl

  unless-more : (a b : Bool) (o : Option X) → unless a (unless b o) ≡ unless (b || a) o
  unless-more true true o = refl
  unless-more true false o = refl
  unless-more false true o = refl
  unless-more false false o = refl

  -- outside of tmp nothing is left at an out or below it, and all else stands
  pub outs-outside : (paths : List Names) (s : Sight X) (k : ℕ) (q : Names) → rest_below (tmp ∷ []) q ≡ None → outs_done tmp number s k paths q ≡ unless (hits paths q) (s q)
  outs-outside [] s k q out = refl
  outs-outside (p ∷ ps) s k q out =
      outs-outside ps (moved_sight s p (tmp ∷ number k ∷ [])) (k + 1) q out
      ∙ ap (unless (hits ps q)) (moved-outside s k p q out)
      ∙ unless-more (hits ps q) (is_at_or_below p q) (s q)

  -- what stands in tmp under other numbers stays
  moved-kept : (s : Sight X) (k j : ℕ) (p r : Names) → IsNotIn tmp p → (j ≡ k → ⊥) → moved_sight s p (tmp ∷ number k ∷ []) (tmp ∷ number j ∷ r) ≡ s (tmp ∷ number j ∷ r)
  moved-kept s k j p r out other =
      ap (λ o. inside_or o (λ rest. s (p ++ rest)) (inside_or (rest_below p (tmp ∷ number j ∷ r)) (λ rest. None) (s (tmp ∷ number j ∷ r)))) (other-child tmp (number k) (number j) r (λ e. other (sym (once k j e))))
      ∙ ap (λ o. inside_or o (λ rest. None) (s (tmp ∷ number j ∷ r))) (outside-other tmp p (number j ∷ r) out)

  moved-top : (s : Sight X) (k : ℕ) (p : Names) → IsNotIn tmp p → moved_sight s p (tmp ∷ number k ∷ []) (tmp ∷ []) ≡ s (tmp ∷ [])
  moved-top s k p out =
      ap (λ o. inside_or o (λ rest. s (p ++ rest)) (inside_or (rest_below p (tmp ∷ [])) (λ rest. None) (s (tmp ∷ [])))) (not-itself tmp (number k))
      ∙ ap (λ o. inside_or o (λ rest. None) (s (tmp ∷ []))) (outside-other tmp p [] out)

  moved-in : (s : Sight X) (k : ℕ) (p r : Names) → moved_sight s p (tmp ∷ number k ∷ []) (tmp ∷ number k ∷ r) ≡ s (p ++ r)
  moved-in s k p r = ap (λ o. inside_or o (λ rest. s (p ++ rest)) (inside_or (rest_below p (tmp ∷ number k ∷ r)) (λ rest. None) (s (tmp ∷ number k ∷ r)))) (rest-here (tmp ∷ number k ∷ []) r)

  moved-elsewhere : (s : Sight X) (k : ℕ) (p q r : Names) → IsNotIn tmp q → moved_sight s p (tmp ∷ number k ∷ []) (q ++ r) ≡ unless (is_at_or_below p (q ++ r)) (s (q ++ r))
  moved-elsewhere s k p q r out = moved-outside s k p (q ++ r) (outside-none tmp [] q r out)

  outs-kept : (paths : List Names) (s : Sight X) (k j : ℕ) (r : Names) → AllByRecursion (IsNotIn tmp) paths → j < k → outs_done tmp number s k paths (tmp ∷ number j ∷ r) ≡ s (tmp ∷ number j ∷ r)
  outs-kept [] s k j r out less = refl
  outs-kept (p ∷ ps) s k j r out less =
      outs-kept ps (moved_sight s p (tmp ∷ number k ∷ [])) (k + 1) j r out.1 (omega arith) ∙ moved-kept s k j p r out.0 (λ e. absurd (omega arith))

  pub outs-top : (paths : List Names) (s : Sight X) (k : ℕ) → AllByRecursion (IsNotIn tmp) paths → outs_done tmp number s k paths (tmp ∷ []) ≡ s (tmp ∷ [])
  outs-top [] s k out = refl
  outs-top (p ∷ ps) s k out = outs-top ps (moved_sight s p (tmp ∷ number k ∷ [])) (k + 1) out.1 ∙ moved-top s k p out.0

  -- in tmp under an out's number stands what stood at its path and below, but for what an earlier out had taken
  pub outs-inside : (before : List Names) (p : Names) (after : List Names) (s : Sight X) (k : ℕ) (r : Names) → AllByRecursion (IsNotIn tmp) before → IsNotIn tmp p → AllByRecursion (IsNotIn tmp) after →
      outs_done tmp number s k (before ++ p ∷ after) (tmp ∷ number (k + length before) ∷ r) ≡ unless (hits before (p ++ r)) (s (p ++ r))
  outs-inside [] p after s k r before_out out after_out =
      ap (λ i. outs_done tmp number (moved_sight s p (tmp ∷ number k ∷ [])) (k + 1) after (tmp ∷ number i ∷ r)) (omega arith)
      ∙ outs-kept after (moved_sight s p (tmp ∷ number k ∷ [])) (k + 1) k r after_out (omega arith) ∙ moved-in s k p r
  outs-inside (b ∷ bs) p after s k r before_out out after_out =
      ap (λ i. outs_done tmp number (moved_sight s b (tmp ∷ number k ∷ [])) (k + 1) (bs ++ p ∷ after) (tmp ∷ number i ∷ r)) (omega arith)
      ∙ outs-inside bs p after (moved_sight s b (tmp ∷ number k ∷ [])) (k + 1) r before_out.1 out after_out
      ∙ ap (unless (hits bs (p ++ r))) (moved-elsewhere s k b p r out)
      ∙ unless-more (hits bs (p ++ r)) (is_at_or_below b (p ++ r)) (s (p ++ r))

  -- ---- each out is accepted

  module _ (is_dir : X → Bool) where
    still-there : (s : Sight X) (k : ℕ) (p : Names) (paths : List Names) → AllByRecursion (IsNotIn tmp) paths → AllByRecursion (λ later. rest_below p later ≡ None) paths →
        AllByRecursion (λ path. is_some (s path) ≡ true) paths → AllByRecursion (λ path. is_some (moved_sight s p (tmp ∷ number k ∷ []) path) ≡ true) paths
    still-there s k p [] out apart there = tt
    still-there s k p (q ∷ qs) out apart there = (
      ap is_some (ap (moved_sight s p (tmp ∷ number k ∷ [])) (sym (append-nil q)) ∙ moved-elsewhere s k p q [] out.0 ∙ ap (λ (x : Names). unless (is_at_or_below p x) (s x)) (append-nil q) ∙ ap (λ (o : Option Names). unless (is_some o) (s q)) apart.0) ∙ there.0,
      still-there s k p qs out.1 apart.1 there.1,
    )

    pub outs-go : (paths : List Names) (s : Sight X) (k : ℕ) → AllByRecursion (IsNotIn tmp) paths → NoneBelow paths → AllByRecursion (λ path. is_some (s path) ≡ true) paths →
        ((node : X) × (s (tmp ∷ []) ≡ Some node) × (is_dir node ≡ true)) → ((j : ℕ) → k ≤ j → s (tmp ∷ number j ∷ []) ≡ None) → OutsGo is_dir tmp number s k paths
    outs-go [] s k out apart there top free = tt
    outs-go (p ∷ ps) s k out apart there top free = (
      record { there = there.0; above_dir = top; free = free k (omega arith) },
      outs-go ps (moved_sight s p (tmp ∷ number k ∷ [])) (k + 1) out.1 apart.1 (still-there s k p ps out.1 apart.0 there.1)
          (top.0, moved-top s k p out.0 ∙ top.1, top.2)
          (λ j le. moved-kept s k j p [] out.0 (λ e. absurd (omega arith)) ∙ free j (omega arith)),
    )
