-- Lists whose numbers rise.
use Rattle.std.proofs.Common.{◌≡◌, ℕ, ◌<◌, Bool, false, inl, inr, nat_eq, List, [], ◌∷◌, map, filter, arith, ne_eqb}
use Rattle.std.specs.List.{AllByRecursion, IsDistinct}
use Rattle.std.proofs.lemmas.Bool.{cases_Bool}
use Rattle.snapshot_manager.specs.Snapshots.{IsRising}
use Rattle.snapshot_manager.proofs.Lists.{all_weaker}

-- numbers that rise differ
pub rising_apart : (ns : List ℕ) → IsRising ns → IsDistinct nat_eq ns
unfolding IsDistinct
rising_apart [] up = tt
rising_apart (n ∷ ns) up = (all_weaker (λ m. n < m) (λ m. nat_eq n m ≡ false) (λ m lt. ne_eqb n m (λ same. omega arith)) ns up.0, rising_apart ns up.1)

module _ {X : Type 0} (number : X → ℕ) (keeps : X → Bool) where
  pub all_numbers_filter : (P : ℕ → Type 0) (xs : List X) → AllByRecursion P (map number xs) → AllByRecursion P (map number (filter keeps xs))
  all_numbers_filter P [] all = tt
  all_numbers_filter P (x ∷ xs) all = elim (cases_Bool (keeps x)) [
    | inl kept ↦ rw kept (all.0, all_numbers_filter P xs all.1)
    | inr gone ↦ rw gone (all_numbers_filter P xs all.1)
  ]

  pub rising_filter : (xs : List X) → IsRising (map number xs) → IsRising (map number (filter keeps xs))
  rising_filter [] up = tt
  rising_filter (x ∷ xs) up = elim (cases_Bool (keeps x)) [
    | inl kept ↦ rw kept (all_numbers_filter (λ m. number x < m) xs up.0, rising_filter xs up.1)
    | inr gone ↦ rw gone (rising_filter xs up.1)
  ]
