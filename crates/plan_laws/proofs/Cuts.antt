-- What a list of paths cuts off below a path.
use Rattle.std.specs.List.{AllByRecursion}
use Rattle.std.proofs.Common.{◌≡◌, ℕ, Bool, true, false, ◌||◌, bytes_eq, cond, Some, None, is_some, List, [], ◌∷◌, ◌++◌, refl, ap, sym, ◌∙◌}
use Rattle.std.specs.Prelude.{◌&&◌}
use Rattle.hs_types.specs.Names.{Names}
use Rattle.hs_plain.proofs.ValidShapes.{none_some}
use Rattle.hs_plain.specs.Plan.{rest_below}
use Rattle.plan_laws.proofs.Paths.{rest-step}
use Rattle.plan_laws.specs.Sight.{hits, cuts, is_in}
use Rattle.hs_plain.specs.Tree.{same_path}

cuts-never : (r : Names) → cuts (λ x. false) r ≡ false
cuts-never [] = refl
cuts-never (n ∷ r) = cuts-never r

or-swap : (a b c d : Bool) → ((a || b) || (c || d)) ≡ ((a || c) || (b || d))
or-swap true b c d = refl
or-swap false true true d = refl
or-swap false true false d = refl
or-swap false false true d = refl
or-swap false false false d = refl

cuts-or : (f g : Names → Bool) (r : Names) → (cuts f r || cuts g r) ≡ cuts (λ x. f x || g x) r
cuts-or f g [] = refl
cuts-or f g (n ∷ r) =
    sym (or-swap (f (n ∷ [])) (g (n ∷ [])) (cuts (λ x. f (n ∷ x)) r) (cuts (λ x. g (n ∷ x)) r))
    ∙ ap (λ b. (f (n ∷ []) || g (n ∷ [])) || b) (cuts-or (λ x. f (n ∷ x)) (λ x. g (n ∷ x)) r)

cut-top : (m : List ℕ) (a r : Names) → is_some (rest_below (m ∷ a) r) ≡ cuts (λ x. same_path (m ∷ a) x) r
cut-top m a [] = refl
cut-top m [] (n ∷ r) = ap is_some (rest-step m n [] r) ∙ elim (bytes_eq m n) as (λ b. is_some (cond b (Some r) None) ≡ ((b && true) || cuts (λ x. b && same_path [] x) r)) [
  | true ↦ refl
  | false ↦ sym (cuts-never r)
]
cut-top m (o ∷ a) (n ∷ r) = ap is_some (rest-step m n (o ∷ a) r) ∙ elim (bytes_eq m n) as (λ b. is_some (cond b (rest_below (o ∷ a) r) None) ≡ ((b && false) || cuts (λ x. b && same_path (o ∷ a) x) r)) [
  | true ↦ cut-top o a r
  | false ↦ sym (cuts-never r)
]

cut-one : (a p r : Names) → rest_below a p ≡ None → is_some (rest_below a (p ++ r)) ≡ cuts (λ x. same_path a (p ++ x)) r
cut-one [] p r h = absurd (none_some (sym h))
cut-one (m ∷ a) [] r h = cut-top m a r
cut-one (m ∷ a) (n ∷ p) r h = ap is_some (rest-step m n a (p ++ r)) ∙
    (elim (bytes_eq m n) as (λ b. cond b (rest_below a p) None ≡ None → is_some (cond b (rest_below a (p ++ r)) None) ≡ cuts (λ x. b && same_path a (p ++ x)) r) [
      | true ↦ λ g. cut-one a p r g
      | false ↦ λ g. sym (cuts-never r)
    ]) (sym (rest-step m n a p) ∙ h)

pub hits-cuts : (paths : List Names) (p r : Names) → AllByRecursion (λ path. rest_below path p ≡ None) paths → hits paths (p ++ r) ≡ cuts (λ x. is_in paths (p ++ x)) r
hits-cuts [] p r none = sym (cuts-never r)
hits-cuts (a ∷ others) p r none =
    ap (λ b. b || hits others (p ++ r)) (cut-one a p r none.0)
    ∙ ap (λ b. cuts (λ x. same_path a (p ++ x)) r || b) (hits-cuts others p r none.1)
    ∙ cuts-or (λ x. same_path a (p ++ x)) (λ x. is_in others (p ++ x)) r
