-- Rising elements, one after another: those behind a number.
use Rattle.std.proofs.Common.{◌≡◌, ℕ, ◌<◌, ◌≤◌, Bool, true, false, cond, List, [], ◌∷◌, map, filter, Some, None, refl, sym, ap, ◌∙◌, arith}
use Rattle.std.specs.Prelude.{nat_lt}
use Rattle.std.specs.List.{find, AllByRecursion}
use Rattle.std.proofs.lemmas.Bool.Decides.{nat_tests}
use Rattle.hs_plain.proofs.ValidShapes.{none_some, same_some}
use Rattle.snapshot_manager.specs.Snapshots.{IsRising}

module _ {X : Type 0} (key : X → ℕ) where
  abbrev is_later : ℕ → X → Bool
  is_later n x = nat_lt n (key x)

  abbrev pub later : ℕ → List X → List X
  later n xs = filter (is_later n) xs

  -- all of them are later than what is below them
  pub all_later : (low n : ℕ) (xs : List X) → n ≤ low → AllByRecursion (λ m. low < m) (map key xs) → later n xs ≡ xs
  all_later low n [] le all = refl
  all_later low n (x ∷ xs) le all =
      let lt : low < key x = all.0 in
      let test : nat_lt n (key x) ≡ true = grind (arith, nat_tests) in
      ap (λ b. cond b (x ∷ later n xs) (later n xs)) test ∙ ap (λ (rest : List X). x ∷ rest) (all_later low n xs le all.1)

  found_after : (n : ℕ) (xs : List X) (y : X) → find (is_later n) xs ≡ Some y → n < key y
  found_after n [] y e = absurd (none_some e)
  found_after n (x ∷ xs) y e = elim (nat_lt n (key x)) as (λ b. nat_lt n (key x) ≡ b → cond b (Some x) (find (is_later n) xs) ≡ Some y → n < key y) [
    | true ↦ λ t g. let same : key x ≡ key y = ap key (same_some g) in grind (arith, nat_tests)
    | false ↦ λ _ g. found_after n xs y g
  ] refl e

  -- the first later one, and those behind it
  pub first_later : (n : ℕ) (xs : List X) (y : X) → IsRising (map key xs) → find (is_later n) xs ≡ Some y → later n xs ≡ y ∷ later (key y) xs
  first_later n [] y rise e = absurd (none_some e)
  first_later n (x ∷ xs) y rise e = elim (nat_lt n (key x)) as (λ b. nat_lt n (key x) ≡ b → cond b (Some x) (find (is_later n) xs) ≡ Some y → cond b (x ∷ later n xs) (later n xs) ≡ y ∷ later (key y) (x ∷ xs)) [
    | true ↦ λ t g.
        let same : x ≡ y = same_some g in
        let lt : n ≤ key x = grind (arith, nat_tests) in
        let none : nat_lt (key x) (key x) ≡ false = grind (arith, nat_tests) in
        ap (λ (rest : List X). x ∷ rest) (all_later (key x) n xs lt rise.0)
        ∙ sym (ap (λ b. x ∷ cond b (x ∷ later (key x) xs) (later (key x) xs)) none ∙ ap (λ (rest : List X). x ∷ rest) (all_later (key x) (key x) xs (omega arith) rise.0))
        ∙ ap (λ (z : X). z ∷ later (key z) (x ∷ xs)) same
    | false ↦ λ f g.
        let above : n < key y = found_after n xs y g in
        let none : nat_lt (key y) (key x) ≡ false = grind (arith, nat_tests) in
        first_later n xs y rise.1 g ∙ ap (λ (rest : List X). y ∷ rest) (sym (ap (λ b. cond b (x ∷ later (key y) xs) (later (key y) xs)) none))
  ] refl e

  -- where there is no later one
  pub none_later : (n : ℕ) (xs : List X) → find (is_later n) xs ≡ None → later n xs ≡ []
  none_later n [] e = refl
  none_later n (x ∷ xs) e = elim (nat_lt n (key x)) as (λ b. cond b (Some x) (find (is_later n) xs) ≡ None → cond b (x ∷ later n xs) (later n xs) ≡ []) [
    | true ↦ λ g. absurd (none_some (sym g))
    | false ↦ λ g. none_later n xs g
  ] e
