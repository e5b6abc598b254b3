-- What a change of the records does to what is read at a snapshot.
use Rattle.std.proofs.Common.{◌≡◌, ℕ, zero, suc, ◌<◌, ◌≤◌, true, false, cond, List, [], ◌∷◌, ◌++◌, length, map, drop, get_or, Some, None, refl, sym, ap, ◌∙◌, arith}
use Rattle.std.specs.Prelude.{IsTrue, nat_lt, nat_le, nat_eq, slice_get, remove, if◌then◌else◌}
use Rattle.change_history.specs.History.{last_from, rising, number_at, number_before, records_from, records_at, saved_from, saved_at}
use Rattle.change_history.proofs.Tests.{first, second, less, le_cases, le_yes, le_no, cond_same, zero_or_above}

module _ {X : Type 0} (number : X → ℕ) where
  -- ---- the first record that is numbered high enough

  pub records_from-drop : (s : ℕ) (rs : List X) (i : ℕ) → i ≤ length rs → ((j : ℕ) (d : X) → j < i → number (get_or rs j d) < s) → ((d : X) → i < length rs → s ≤ number (get_or rs i d)) → drop i rs ≡ records_from number s rs
  records_from-drop s [] zero bound before after = refl
  records_from-drop s [] (suc i) bound before after = absurd (omega arith)
  records_from-drop s (r ∷ rs) zero bound before after = sym (le_yes s (number r) (r ∷ rs) (records_from number s rs) (after r (omega arith)))
  records_from-drop s (r ∷ rs) (suc i) bound before after =
      records_from-drop s rs i (omega arith) (λ j d lt. before (suc j) d (omega arith)) (λ d lt. after d (omega arith))
      ∙ sym (le_no s (number r) (r ∷ rs) (records_from number s rs) (before 0 r (omega arith)))

  -- ---- above the last number

  below_last : (s n : ℕ) (rs : List X) → IsTrue (rising number n rs) → last_from number n rs < s → n < s
  below_last s n [] rise above = above
  below_last s n (r ∷ rs) rise above = omega (arith, less n (number r) (first (nat_lt n (number r)) _ rise), below_last s (number r) rs (second _ _ rise) above)

  pub records_from-past : (s n : ℕ) (rs : List X) → IsTrue (rising number n rs) → last_from number n rs < s → records_from number s rs ≡ []
  records_from-past s n [] rise above = refl
  records_from-past s n (r ∷ rs) rise above =
      le_no s (number r) (r ∷ rs) (records_from number s rs) (below_last s (number r) rs (second _ _ rise) above) ∙ records_from-past s (number r) rs (second _ _ rise) above

  module _ {Y : Type 0} (saved : X → Y) where
    -- ---- the first of the records that tell s

    saved_from-first : (s : ℕ) (rs : List X) (c : Y) (p : X) (ps : List X) → records_from number s rs ≡ p ∷ ps → saved_from number saved s rs c ≡ saved p
    saved_from-first s [] c p ps is = cc
    saved_from-first s (r ∷ rs) c p ps is =
        elim (nat_le s (number r)) as (λ b. cond b (r ∷ rs) (records_from number s rs) ≡ p ∷ ps → cond b (saved r) (saved_from number saved s rs c) ≡ saved p) [
          | true ↦ λ e. let same : r ≡ p = cc in ap saved same
          | false ↦ λ e. saved_from-first s rs c p ps e
        ] is

    saved_from-none : (s : ℕ) (rs : List X) (c : Y) → records_from number s rs ≡ [] → saved_from number saved s rs c ≡ c
    saved_from-none s [] c is = refl
    saved_from-none s (r ∷ rs) c is =
        elim (nat_le s (number r)) as (λ b. cond b (r ∷ rs) (records_from number s rs) ≡ [] → cond b (saved r) (saved_from number saved s rs c) ≡ c) [
          | true ↦ λ e. absurd (no_cons e)
          | false ↦ λ e. saved_from-none s rs c e
        ] is
      where
        no_cons : r ∷ rs ≡ [] → ⊥
        no_cons h = cc

    pub saved_at-first : (s : ℕ) (rs : List X) (c : Y) (p : X) → slice_get (records_at number s rs) 0 ≡ Some p → saved_at number saved s rs c ≡ saved p
    saved_at-first s rs c p is =
        elim (nat_eq s 0) as (λ b. slice_get (cond b [] (records_from number s rs)) 0 ≡ Some p → cond b c (saved_from number saved s rs c) ≡ saved p) [
          | true ↦ λ e. absurd (nothing e)
          | false ↦ λ e. by_list (records_from number s rs) refl e
        ] is
      where
        nothing : (let none : List X = [] in slice_get none 0) ≡ Some p → ⊥
        nothing e = cc

        by_list : (l : List X) → records_from number s rs ≡ l → slice_get l 0 ≡ Some p → saved_from number saved s rs c ≡ saved p
        by_list [] from e = cc
        by_list (x ∷ l) from e = let same : x ≡ p = cc in saved_from-first s rs c x l from ∙ ap saved same

    pub saved_at-none : (s : ℕ) (rs : List X) (c : Y) → slice_get (records_at number s rs) 0 ≡ None → saved_at number saved s rs c ≡ c
    saved_at-none s rs c is =
        elim (nat_eq s 0) as (λ b. slice_get (cond b [] (records_from number s rs)) 0 ≡ None → cond b c (saved_from number saved s rs c) ≡ c) [
          | true ↦ λ e. refl
          | false ↦ λ e. by_list (records_from number s rs) refl e
        ] is
      where
        by_list : (l : List X) → records_from number s rs ≡ l → slice_get l 0 ≡ None → saved_from number saved s rs c ≡ c
        by_list [] from e = saved_from-none s rs c from
        by_list (x ∷ l) from e = cc

    -- ---- up to the last number what is current is not read

    saved_from-current : (s n : ℕ) (rs : List X) (c d : Y) → n < s → s ≤ last_from number n rs → saved_from number saved s rs c ≡ saved_from number saved s rs d
    saved_from-current s n [] c d above le = absurd (omega arith)
    saved_from-current s n (r ∷ rs) c d above le =
        le_cases (λ x. x ≡ saved_from number saved s (r ∷ rs) d) s (number r) (saved r) (saved_from number saved s rs c)
        (λ within. sym (le_yes s (number r) (saved r) (saved_from number saved s rs d) within))
        (λ beyond. saved_from-current s (number r) rs c d beyond le ∙ sym (le_no s (number r) (saved r) (saved_from number saved s rs d) beyond))

    pub saved_at-current : (s : ℕ) (rs : List X) (c d : Y) → 0 < s → s ≤ last_from number 0 rs → saved_at number saved s rs c ≡ saved_at number saved s rs d
    saved_at-current s rs c d above le = zero_or_above s c d _ _ (λ e. absurd (omega arith)) (λ _. saved_from-current s 0 rs c d above le)

    -- ---- above it that is what is read

    pub saved_at-past : (s : ℕ) (rs : List X) (c : Y) → IsTrue (rising number 0 rs) → last_from number 0 rs < s → saved_at number saved s rs c ≡ c
    saved_at-past s rs c rise above = ap (λ x. if nat_eq s 0 then c else x) (saved_from-none s rs c (records_from-past s 0 rs rise above)) ∙ cond_same (nat_eq s 0) c

    -- ---- a new record saves what is current

    saved_from-append : (s : ℕ) (rs : List X) (r : X) (c : Y) → saved_from number saved s (rs ++ r ∷ []) c ≡ saved_from number saved s rs (cond (nat_le s (number r)) (saved r) c)
    saved_from-append s [] r c = refl
    saved_from-append s (x ∷ rs) r c = ap (cond (nat_le s (number x)) (saved x)) (saved_from-append s rs r c)

    pub saved_at-append : (s : ℕ) (rs : List X) (r : X) → saved_at number saved s (rs ++ r ∷ []) (saved r) ≡ saved_at number saved s rs (saved r)
    saved_at-append s rs r = ap (λ x. if nat_eq s 0 then saved r else x)
        (saved_from-append s rs r (saved r) ∙ ap (saved_from number saved s rs) (cond_same (nat_le s (number r)) (saved r)))

    -- ---- a record is removed: up to the number before, and above its own, all is read as before

    below_removed : (s : ℕ) (rs : List X) (i : ℕ) (c : Y) → 0 < s → s ≤ number_before number rs i → saved_from number saved s (remove rs i) c ≡ saved_from number saved s rs c
    below_removed s [] zero c above le = refl
    below_removed s [] (suc i) c above le = refl
    below_removed s (r ∷ rs) zero c above le = absurd (omega arith)
    below_removed s (r ∷ rs) (suc zero) c above le = le_yes s (number r) (saved r) _ le ∙ sym (le_yes s (number r) (saved r) _ le)
    below_removed s (r ∷ rs) (suc (suc i)) c above le = ap (cond (nat_le s (number r)) (saved r)) (below_removed s rs (suc i) c above le)

    above_removed : (s : ℕ) (rs : List X) (i : ℕ) (c : Y) → number_at number rs i < s → saved_from number saved s (remove rs i) c ≡ saved_from number saved s rs c
    above_removed s [] zero c above = refl
    above_removed s [] (suc i) c above = refl
    above_removed s (r ∷ rs) zero c above = sym (le_no s (number r) (saved r) (saved_from number saved s rs c) above)
    above_removed s (r ∷ rs) (suc i) c above = ap (cond (nat_le s (number r)) (saved r)) (above_removed s rs i c above)

    pub saved_at-below_removed : (s : ℕ) (rs : List X) (i : ℕ) (c : Y) → s ≤ number_before number rs i → saved_at number saved s (remove rs i) c ≡ saved_at number saved s rs c
    saved_at-below_removed s rs i c le = zero_or_above s c c _ _ (λ _. refl) (λ above. below_removed s rs i c above le)

    pub saved_at-above_removed : (s : ℕ) (rs : List X) (i : ℕ) (c : Y) → number_at number rs i < s → saved_at number saved s (remove rs i) c ≡ saved_at number saved s rs c
    saved_at-above_removed s rs i c above = zero_or_above s c c _ _ (λ _. refl) (λ _. above_removed s rs i c above)

-- ---- seen through a function that keeps the numbers

module _ {X Y : Type 0} (f : X → Y) (number : Y → ℕ) where
  records_from-map : (s : ℕ) (xs : List X) → records_from number s (map f xs) ≡ map f (records_from (λ x. number (f x)) s xs)
  records_from-map s [] = refl
  records_from-map s (x ∷ xs) =
      le_cases (λ l. l ≡ map f (records_from (λ x. number (f x)) s (x ∷ xs))) s (number (f x)) (f x ∷ map f xs) (records_from number s (map f xs))
      (λ within. sym (ap (map f) (le_yes s (number (f x)) (x ∷ xs) (records_from (λ x. number (f x)) s xs) within)))
      (λ beyond. records_from-map s xs ∙ sym (ap (map f) (le_no s (number (f x)) (x ∷ xs) (records_from (λ x. number (f x)) s xs) beyond)))

  pub records_at-map : (s : ℕ) (xs : List X) → records_at number s (map f xs) ≡ map f (records_at (λ x. number (f x)) s xs)
  records_at-map s xs = elim (nat_eq s 0) as (λ b. cond b [] (records_from number s (map f xs)) ≡ map f (cond b [] (records_from (λ x. number (f x)) s xs))) [
    | true ↦ refl
    | false ↦ records_from-map s xs
  ]

  pub number_at-map : (xs : List X) (i : ℕ) → number_at number (map f xs) i ≡ number_at (λ x. number (f x)) xs i
  number_at-map [] i = refl
  number_at-map (x ∷ xs) zero = refl
  number_at-map (x ∷ xs) (suc i) = number_at-map xs i

  pub number_before-map : (xs : List X) (i : ℕ) → number_before number (map f xs) i ≡ number_before (λ x. number (f x)) xs i
  number_before-map xs zero = refl
  number_before-map xs (suc i) = number_at-map xs i

  module _ {Z : Type 0} (saved : Y → Z) where
    saved_from-map : (s : ℕ) (xs : List X) (c : Z) → saved_from number saved s (map f xs) c ≡ saved_from (λ x. number (f x)) (λ x. saved (f x)) s xs c
    saved_from-map s [] c = refl
    saved_from-map s (x ∷ xs) c = ap (cond (nat_le s (number (f x))) (saved (f x))) (saved_from-map s xs c)

    pub saved_at-map : (s : ℕ) (xs : List X) (c : Z) → saved_at number saved s (map f xs) c ≡ saved_at (λ x. number (f x)) (λ x. saved (f x)) s xs c
    saved_at-map s xs c = ap (λ x. if nat_eq s 0 then c else x) (saved_from-map s xs c)
