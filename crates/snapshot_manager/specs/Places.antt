-- For proofs and private contracts alone: where what a test asks for stands in a list.
use Rattle.std.specs.Prelude.{◌≡◌, ℕ, zero, suc, Bool, true, false, List, [], ◌∷◌}
use Rattle.std.specs.List.{AllByRecursion}

-- nothing in the list passes
abbrev pub NonePasses : {X : Type 0} → (X → Bool) → List X → Type 0
NonePasses test xs = AllByRecursion (λ x. test x ≡ false) xs

-- what stands at the place passes, and nothing else in the list does
abbrev pub PassesOnlyAt : {X : Type 0} → (X → Bool) → List X → ℕ → Type 0
PassesOnlyAt test [] place = ⊥
PassesOnlyAt test (x ∷ xs) zero = (test x ≡ true) × NonePasses test xs
PassesOnlyAt test (x ∷ xs) (suc place) = (test x ≡ false) × PassesOnlyAt test xs place
