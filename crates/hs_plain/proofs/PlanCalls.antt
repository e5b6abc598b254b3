-- Lists one after the other are one way to merge them.
use Rattle.std.proofs.Common.{◌≡◌, ℕ, zero, suc, ◌+◌, ◌<◌, ◌==◌, true, false, cond, List, [], ◌∷◌, ◌++◌, map, refl, ap, sym, ◌∙◌, append-nil, arith}
use Rattle.std.specs.Prelude.{slice_get}
use Rattle.std.specs.List.{flat_map}
use Rattle.std.specs.Option.{unwrap_or}
use Rattle.std.proofs.lemmas.Bool.Decides.{nat_tests}
use Rattle.hs_plain.specs.Plan.{numbered_so, IsMerging, all_copy_calls}
use Rattle.hs_plain.specs.inside.PlanCalls.{InTurnAreMerged}

same_number : (k n : ℕ) → k ≡ n → (k == n) ≡ true
same_number k n e = grind (arith, nat_tests)

other_number : (k n : ℕ) → n < k → (k == n) ≡ false
other_number k n lt = grind (arith, nat_tests)

greater_number : (k n : ℕ) → k < n → (k == n) ≡ false
greater_number k n lt = grind (arith, nat_tests)

module _ {A : Type 0} where
  -- the elements of a list with one number
  abbrev with_number : ℕ → List A → List (ℕ × A)
  with_number k list = map (λ a. (k, a)) list

  -- the elements of all lists, each with the number of its list
  abbrev all_numbered : ℕ → List (List A) → List (ℕ × A)
  all_numbered k [] = []
  all_numbered k (list ∷ lists) = with_number k list ++ all_numbered (k + 1) lists

  map-append : (xs ys : List (ℕ × A)) → map (λ pair. pair.1) (xs ++ ys) ≡ map (λ pair. pair.1) xs ++ map (λ pair. pair.1) ys
  map-append [] ys = refl
  map-append (x ∷ xs) ys = ap (λ (zs : List A). x.1 ∷ zs) (map-append xs ys)

  map-with_number : (k : ℕ) (list : List A) → map (λ pair. pair.1) (with_number k list) ≡ list
  map-with_number k [] = refl
  map-with_number k (a ∷ list) = ap (λ (zs : List A). a ∷ zs) (map-with_number k list)

  map-all_numbered : (k : ℕ) (lists : List (List A)) → flat_map (λ list. list) lists ≡ map (λ pair. pair.1) (all_numbered k lists)
  map-all_numbered k [] = refl
  map-all_numbered k (list ∷ lists) =
      ap (λ (zs : List A). list ++ zs) (map-all_numbered (k + 1) lists)
      ∙ ap (λ (zs : List A). zs ++ map (λ pair. pair.1) (all_numbered (k + 1) lists)) (sym (map-with_number k list))
      ∙ sym (map-append (with_number k list) (all_numbered (k + 1) lists))

  so-append : (n : ℕ) (xs ys : List (ℕ × A)) → numbered_so n (xs ++ ys) ≡ numbered_so n xs ++ numbered_so n ys
  so-append n [] ys = refl
  so-append n (x ∷ xs) ys =
      elim (x.0 == n) as (λ b. cond b (x.1 ∷ numbered_so n (xs ++ ys)) (numbered_so n (xs ++ ys)) ≡ cond b (x.1 ∷ numbered_so n xs) (numbered_so n xs) ++ numbered_so n ys) [
        | true ↦ ap (λ (zs : List A). x.1 ∷ zs) (so-append n xs ys)
        | false ↦ so-append n xs ys
      ]

  so-same : (k n : ℕ) (list : List A) → (k == n) ≡ true → numbered_so n (with_number k list) ≡ list
  so-same k n [] e = refl
  so-same k n (a ∷ list) e = ap (λ b. cond b (a ∷ numbered_so n (with_number k list)) (numbered_so n (with_number k list))) e ∙ ap (λ (zs : List A). a ∷ zs) (so-same k n list e)

  so-other : (k n : ℕ) (list : List A) → (k == n) ≡ false → numbered_so n (with_number k list) ≡ []
  so-other k n [] e = refl
  so-other k n (a ∷ list) e = ap (λ b. cond b (a ∷ numbered_so n (with_number k list)) (numbered_so n (with_number k list))) e ∙ so-other k n list e

  so-below : (k n : ℕ) (lists : List (List A)) → n < k → numbered_so n (all_numbered k lists) ≡ []
  so-below k n [] lt = refl
  so-below k n (list ∷ lists) lt =
      so-append n (with_number k list) (all_numbered (k + 1) lists)
      ∙ ap (λ (zs : List A). zs ++ numbered_so n (all_numbered (k + 1) lists)) (so-other k n list (other_number k n lt))
      ∙ so-below (k + 1) n lists (omega (arith, lt))

  so-at : (k i : ℕ) (lists : List (List A)) → numbered_so (k + i) (all_numbered k lists) ≡ unwrap_or (slice_get lists i) []
  so-at k i [] = refl
  so-at k zero (list ∷ lists) =
      so-append (k + 0) (with_number k list) (all_numbered (k + 1) lists)
      ∙ ap (λ (zs : List A). zs ++ numbered_so (k + 0) (all_numbered (k + 1) lists)) (so-same k (k + 0) list (same_number k (k + 0) (omega arith)))
      ∙ ap (λ (zs : List A). list ++ zs) (so-below (k + 1) (k + 0) lists (omega arith))
      ∙ append-nil list
  so-at k (suc i) (list ∷ lists) =
      so-append (k + suc i) (with_number k list) (all_numbered (k + 1) lists)
      ∙ ap (λ (zs : List A). zs ++ numbered_so (k + suc i) (all_numbered (k + 1) lists)) (so-other k (k + suc i) list (greater_number k (k + suc i) (omega arith)))
      ∙ ap (λ n. numbered_so n (all_numbered (k + 1) lists)) {x = k + suc i} {y = k + 1 + i} (omega arith)
      ∙ so-at (k + 1) i lists

  in-turn : (lists : List (List A)) → IsMerging lists (flat_map (λ list. list) lists)
  in-turn lists = record {
    numbered = all_numbered 0 lists;
    all = map-all_numbered 0 lists;
    each = λ number. ap (λ n. numbered_so n (all_numbered 0 lists)) {x = number} {y = 0 + number} (omega arith) ∙ so-at 0 number lists;
  }

pub in_turn_are_merged : InTurnAreMerged
in_turn_are_merged root plan to = record { copied = flat_map (λ calls. calls) (all_copy_calls root plan to); merging = in-turn (all_copy_calls root plan to); all = refl }
