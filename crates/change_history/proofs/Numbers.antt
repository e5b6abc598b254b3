-- How the numbers of records rise, and which one is the last.
use Rattle.std.proofs.Common.{◌≡◌, ℕ, zero, suc, ◌+◌, ◌-◌, ◌<◌, ◌≤◌, List, [], ◌∷◌, ◌++◌, length, map, get_or, Some, None, refl, ap, arith}
use Rattle.std.specs.Prelude.{◌&&◌, IsTrue, nat_lt, slice_get, remove}
use Rattle.std.specs.List.Sorted.{IsNonDecreasingBy}
use Rattle.change_history.specs.History.{last_from, rising, number_at, number_before, LastRemoved}
use Rattle.change_history.proofs.Tests.{both, first, second, less, is_less}

module _ {X : Type 0} (number : X → ℕ) where
  -- ---- a record is put at the end

  pub last_from-append : (n : ℕ) (rs : List X) (r : X) → last_from number n (rs ++ r ∷ []) ≡ number r
  last_from-append n [] r = refl
  last_from-append n (x ∷ rs) r = last_from-append (number x) rs r

  pub rising-append : (n : ℕ) (rs : List X) (r : X) → IsTrue (rising number n rs) → last_from number n rs < number r → IsTrue (rising number n (rs ++ r ∷ []))
  rising-append n [] r rise above = both _ _ (is_less n (number r) above) refl
  rising-append n (x ∷ rs) r rise above = both _ _ (first (nat_lt n (number x)) _ rise) (rising-append (number x) rs r (second _ _ rise) above)

  -- ---- a record is removed

  rising_weaker : (m n : ℕ) (rs : List X) → m ≤ n → IsTrue (rising number n rs) → IsTrue (rising number m rs)
  rising_weaker m n [] le rise = refl
  rising_weaker m n (r ∷ rs) le rise = both _ _ (is_less m (number r) (omega (arith, less n (number r) (first (nat_lt n (number r)) _ rise)))) (second _ _ rise)

  pub rising-remove : (n : ℕ) (rs : List X) (i : ℕ) → IsTrue (rising number n rs) → IsTrue (rising number n (remove rs i))
  rising-remove n [] zero rise = rise
  rising-remove n [] (suc i) rise = rise
  rising-remove n (r ∷ rs) zero rise = rising_weaker n (number r) rs (omega (arith, less n (number r) (first (nat_lt n (number r)) _ rise))) (second _ _ rise)
  rising-remove n (r ∷ rs) (suc i) rise = both _ _ (first (nat_lt n (number r)) _ rise) (rising-remove (number r) rs i (second _ _ rise))

  last_before : (n : ℕ) (rs : List X) (i : ℕ) → i + 1 < length rs → last_from number n (remove rs i) ≡ last_from number n rs
  last_before n [] i lt = absurd (omega arith)
  last_before n (r ∷ []) i lt = absurd (omega arith)
  last_before n (r ∷ q ∷ rs) zero lt = refl
  last_before n (r ∷ q ∷ rs) (suc i) lt = last_before (number r) (q ∷ rs) i (omega arith)

  last_behind : (n : ℕ) (r : X) (rs : List X) (i : ℕ) → i + 1 ≡ length rs → last_from number n (r ∷ remove rs i) ≡ number_at number (r ∷ rs) i
  last_behind n r [] i is = absurd (omega arith)
  last_behind n r (q ∷ []) zero is = refl
  last_behind n r (q ∷ p ∷ rs) zero is = absurd (omega arith)
  last_behind n r (q ∷ rs) (suc i) is = last_behind (number r) q rs i (omega arith)

  last_gone : (rs : List X) (i : ℕ) → i + 1 ≡ length rs → last_from number 0 (remove rs i) ≡ number_before number rs i
  last_gone [] i is = absurd (omega arith)
  last_gone (r ∷ []) zero is = refl
  last_gone (r ∷ q ∷ rs) zero is = absurd (omega arith)
  last_gone (r ∷ rs) (suc i) is = last_behind 0 r rs i (omega arith)

  pub last_removed : (rs : List X) (i : ℕ) → LastRemoved number i rs (remove rs i)
  last_removed rs i = (last_before 0 rs i, last_gone rs i)

  -- ---- from place to place

  number_above : (n : ℕ) (rs : List X) (j : ℕ) (d : X) → IsTrue (rising number n rs) → j < length rs → n < number (get_or rs j d)
  number_above n [] j d rise lt = absurd (omega arith)
  number_above n (r ∷ rs) zero d rise lt = less n (number r) (first (nat_lt n (number r)) _ rise)
  number_above n (r ∷ rs) (suc j) d rise lt = omega (arith, less n (number r) (first (nat_lt n (number r)) _ rise), number_above (number r) rs j d (second _ _ rise) (omega arith))

  pub numbers_rise : (n : ℕ) (rs : List X) → IsTrue (rising number n rs) → IsNonDecreasingBy number rs
  numbers_rise n [] rise i j d le lt = absurd (omega arith)
  numbers_rise n (r ∷ rs) rise zero zero d le lt = omega arith
  numbers_rise n (r ∷ rs) rise zero (suc j) d le lt = omega (arith, number_above (number r) rs j d (second _ _ rise) (omega arith))
  numbers_rise n (r ∷ rs) rise (suc i) zero d le lt = absurd (omega arith)
  numbers_rise n (r ∷ rs) rise (suc i) (suc j) d le lt = numbers_rise (number r) rs (second _ _ rise) i j d (omega arith) (omega arith)

  -- ---- the last record

  last_from-last : (n : ℕ) (rs : List X) (i : ℕ) (r : X) → i + 1 ≡ length rs → slice_get rs i ≡ Some r → last_from number n rs ≡ number r
  last_from-last n [] i r e is = cc
  last_from-last n (x ∷ []) zero r e is = let same : x ≡ r = cc in ap number same
  last_from-last n (x ∷ []) (suc i) r e is = absurd (omega arith)
  last_from-last n (x ∷ y ∷ rs) zero r e is = absurd (omega arith)
  last_from-last n (x ∷ y ∷ rs) (suc i) r e is = last_from-last (number x) (y ∷ rs) i r (omega arith) is

  pub last_from-some : (n : ℕ) (rs : List X) (r : X) → slice_get rs (length rs - 1) ≡ Some r → last_from number n rs ≡ number r
  last_from-some n [] r is = cc
  last_from-some n (x ∷ rs) r is = last_from-last n (x ∷ rs) (length (x ∷ rs) - 1) r (omega arith) is

  pub last_from-none : (n : ℕ) (rs : List X) → slice_get rs (length rs - 1) ≡ None → last_from number n rs ≡ n
  last_from-none n [] is = refl
  last_from-none n (x ∷ rs) is = absurd (filled (x ∷ rs) (length (x ∷ rs) - 1) (omega arith) is)
    where
      filled : (l : List X) (i : ℕ) → i < length l → slice_get l i ≡ None → ⊥
      filled [] i lt is = omega arith
      filled (x ∷ l) zero lt is = cc
      filled (x ∷ l) (suc i) lt is = filled l i (omega arith) is

-- ---- seen through a function that keeps the numbers

module _ {X Y : Type 0} (f : X → Y) (number : Y → ℕ) where
  pub last_from-map : (n : ℕ) (xs : List X) → last_from number n (map f xs) ≡ last_from (λ x. number (f x)) n xs
  last_from-map n [] = refl
  last_from-map n (x ∷ xs) = last_from-map (number (f x)) xs

  pub rising-map : (n : ℕ) (xs : List X) → rising number n (map f xs) ≡ rising (λ x. number (f x)) n xs
  rising-map n [] = refl
  rising-map n (x ∷ xs) = ap (λ b. nat_lt n (number (f x)) && b) (rising-map (number (f x)) xs)
