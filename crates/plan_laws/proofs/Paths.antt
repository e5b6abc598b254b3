-- Paths at or below others.
use Rattle.std.proofs.Common.{◌≡◌, ℕ, Bool, true, false, bytes_eq, cond, Option, Some, None, List, [], ◌∷◌, ◌++◌, length, take, drop, refl, ap, sym, ◌∙◌, append_assoc}
use Rattle.std.specs.Prelude.{◌&&◌}
use Rattle.std.specs.Cmp.Lexicographic.{pointwise}
use Rattle.std.proofs.lemmas.Slice.Eq.{bytes_eq-Decides}
use Rattle.hs_types.specs.Names.{Names}
use Rattle.hs_plain.proofs.ValidShapes.{none_some, same_some}
use Rattle.hs_plain.specs.Plan.{rest_below}
use Rattle.plan_laws.specs.Sight.{IsNotIn}

-- by a test
pub by : {P : Type 0} (b : Bool) → (b ≡ true → P) → (b ≡ false → P) → P
by true yes_so no_so = yes_so refl
by false yes_so no_so = no_so refl

-- by whether there is one
pub by_one : {X P : Type 0} (o : Option X) → ((x : X) → o ≡ Some x → P) → (o ≡ None → P) → P
by_one None some none = none refl
by_one (Some x) some none = some x refl

pub bytes_eq-itself : (n : List ℕ) → bytes_eq n n ≡ true
bytes_eq-itself n = (bytes_eq-Decides n n).1 refl

pub differs : (a b : List ℕ) → (a ≡ b → ⊥) → bytes_eq a b ≡ false
differs a b ne = by (bytes_eq a b) (λ t. absurd (ne ((bytes_eq-Decides a b).0 t))) (λ f. f)

-- ---- name by name

pub rest-step : (n m : List ℕ) (p q : Names) → rest_below (n ∷ p) (m ∷ q) ≡ cond (bytes_eq n m) (rest_below p q) None
rest-step n m p q = elim (bytes_eq n m) as (λ b. cond (b && pointwise bytes_eq p (take (length p) q)) (Some (drop (length p) q)) None ≡ cond b (rest_below p q) None) [ true ↦ refl | false ↦ refl ]

pub rest-same : (n : List ℕ) (p q : Names) → rest_below (n ∷ p) (n ∷ q) ≡ rest_below p q
rest-same n p q = rest-step n n p q ∙ ap (λ b. cond b (rest_below p q) None) (bytes_eq-itself n)

pub rest-other : (n m : List ℕ) (p q : Names) → (n ≡ m → ⊥) → rest_below (n ∷ p) (m ∷ q) ≡ None
rest-other n m p q ne = rest-step n m p q ∙ ap (λ b. cond b (rest_below p q) None) (differs n m ne)

pub rest-here : (p r : Names) → rest_below p (p ++ r) ≡ Some r
rest-here [] r = refl
rest-here (n ∷ p) r = rest-same n p (p ++ r) ∙ rest-here p r

pub rest-so : (p q r : Names) → rest_below p q ≡ Some r → q ≡ p ++ r
rest-so [] q r h = same_some h
rest-so (n ∷ p) [] r h = absurd (none_some h)
rest-so (n ∷ p) (m ∷ q) r h = by (bytes_eq n m)
    (λ t. let e : n ≡ m = (bytes_eq-Decides n m).0 t in
    let f : q ≡ p ++ r = rest-so p q r (sym (ap (λ b. cond b (rest_below p q) None) t) ∙ sym (rest-step n m p q) ∙ h) in cc)
    (λ t. absurd (none_some (sym (ap (λ b. cond b (rest_below p q) None) t) ∙ sym (rest-step n m p q) ∙ h)))

-- a path that isn't below another isn't either when it ends earlier
pub none-shorter : (a q r : Names) → rest_below a (q ++ r) ≡ None → rest_below a q ≡ None
none-shorter a q r none = by_one (rest_below a q)
    (λ s below. absurd (none_some (sym none ∙ ap (rest_below a) (ap (λ x. x ++ r) (rest-so a q s below) ∙ append_assoc a s r) ∙ rest-here a (s ++ r))))
    (λ gone. gone)

pub none-above : (above : Names) (name : List ℕ) → rest_below (above ++ name ∷ []) above ≡ None
none-above [] name = refl
none-above (n ∷ above) name = rest-same n (above ++ name ∷ []) above ∙ none-above above name

-- ---- below a directory and elsewhere

-- what isn't below a directory isn't below what stands in it
pub none-deeper : (tmp : List ℕ) (more q : Names) → rest_below (tmp ∷ []) q ≡ None → rest_below (tmp ∷ more) q ≡ None
none-deeper tmp more [] h = refl
none-deeper tmp more (n ∷ q) h = by (bytes_eq tmp n)
    (λ t. absurd (none_some (sym h ∙ rest-step tmp n [] q ∙ ap (λ b. cond b (Some q) None) t)))
    (λ f. rest-step tmp n more q ∙ ap (λ b. cond b (rest_below more q) None) f)

pub outside-none : (tmp : List ℕ) (more q r : Names) → IsNotIn tmp q → rest_below (tmp ∷ more) (q ++ r) ≡ None
outside-none tmp more [] r out = absurd out
outside-none tmp more (n ∷ q) r out = rest-other tmp n more (q ++ r) (λ e. out (sym e))

pub outside-other : (tmp : List ℕ) (q r : Names) → IsNotIn tmp q → rest_below q (tmp ∷ r) ≡ None
outside-other tmp [] r out = absurd out
outside-other tmp (n ∷ q) r out = rest-other n tmp q r out

-- of what stands in a directory, neither another child nor the directory itself is below a child
pub other-child : (tmp a b : List ℕ) (r : Names) → (a ≡ b → ⊥) → rest_below (tmp ∷ a ∷ []) (tmp ∷ b ∷ r) ≡ None
other-child tmp a b r ne = rest-same tmp (a ∷ []) (b ∷ r) ∙ rest-other a b [] r ne

pub not-itself : (tmp a : List ℕ) → rest_below (tmp ∷ a ∷ []) (tmp ∷ []) ≡ None
not-itself tmp a = rest-same tmp (a ∷ []) []
