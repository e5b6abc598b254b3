-- The index: an entry put in its place, and the entries between two ticks.
use Rattle.std.specs.Prelude.{not, ◌&&◌}
use Rattle.std.proofs.Common.{◌≡◌, ℕ, zero, suc, ◌-◌, ◌<◌, ◌≤◌, Bool, true, false, [], ◌∷◌, get_or, take, drop, insert, filter, length, refl, ap, arith}
use Rattle.std.proofs.lemmas.Bool.Decides.{nat_tests}
use Rattle.std.proofs.lemmas.List.Sorted.{IsNonDecreasingBy-insert}
use Rattle.hs_types.specs.declared.ids.InodeId.{InodeId}
use Rattle.inode_table.specs.declared.noted.Noted.{Noted}
use Rattle.inode_table.specs.Indexed.{Index, IsRising, noted, is_upto, is_between}

abbrev pub LowAt : ℕ → Index → ℕ → Type 0
LowAt tick xs i = (k : ℕ) (d : Noted) → k < i → is_upto tick (get_or xs k d) ≡ true

abbrev pub HighAt : ℕ → Index → ℕ → Type 0
HighAt tick xs i = (k : ℕ) (d : Noted) → i ≤ k → k < length xs → is_upto tick (get_or xs k d) ≡ false

pub noted-insert : (tick : ℕ) (id : InodeId) (xs : Index) (i : ℕ) → i ≤ length xs → LowAt tick xs i → HighAt tick xs i → noted tick id xs ≡ insert xs i (record { tick = tick; id = id })
noted-insert tick id [] zero within low high = refl
noted-insert tick id [] (suc i) within low high = absurd (omega arith)
noted-insert tick id (x ∷ xs) zero within low high = rw (high 0 x (omega arith) (omega arith)) refl
noted-insert tick id (x ∷ xs) (suc i) within low high = rw (low 0 x (omega arith))
    (ap (λ (rest : Index). x ∷ rest) (noted-insert tick id xs i (omega (arith, within)) (λ k d lt. low (suc k) d (omega (arith, lt))) (λ k d le lt. high (suc k) d (omega (arith, le)) (omega (arith, lt)))))

upto_so : (tick : ℕ) (e : Noted) → is_upto tick e ≡ true → e.tick ≤ tick
upto_so tick e h = grind (arith, nat_tests, h)

above_so : (tick : ℕ) (e : Noted) → is_upto tick e ≡ false → tick ≤ e.tick
above_so tick e h = grind (arith, nat_tests, h)

pub noted-rising : (tick : ℕ) (id : InodeId) (xs : Index) (i : ℕ) → IsRising xs → i ≤ length xs → LowAt tick xs i → HighAt tick xs i → IsRising (insert xs i (record { tick = tick; id = id }))
noted-rising tick id xs i up within low high = IsNonDecreasingBy-insert (λ (e : Noted). e.tick) xs i (record { tick = tick; id = id }) up within
    (λ k d lt. upto_so tick (get_or xs k d) (low k d lt))
    (λ k d le lt. above_so tick (get_or xs k d) (high k d le lt))

-- ---- the entries between two ticks

between_here : (low high : ℕ) (x : Noted) (a b : Bool) → is_upto low x ≡ a → is_upto high x ≡ b → is_between low high x ≡ (not a && b)
between_here low high x true b p q = grind (arith, nat_tests, p, q)
between_here low high x false true p q = grind (arith, nat_tests, p, q)
between_here low high x false false p q = grind (arith, nat_tests, p, q)

pub between-cut : (low high : ℕ) (xs : Index) (from to n : ℕ) → n ≡ to - from → from ≤ length xs → to ≤ length xs → LowAt low xs from → HighAt low xs from → LowAt high xs to → HighAt high xs to
    → filter (is_between low high) xs ≡ take n (drop from xs)
between-cut low high [] zero to zero is f t a b c d = refl
between-cut low high [] zero to (suc n) is f t a b c d = refl
between-cut low high [] (suc from) to n is f t a b c d = absurd (omega (arith, f))
between-cut low high (x ∷ xs) (suc from) (suc to) n is f t a b c d =
    rw (between_here low high x true true (a 0 x (omega arith)) (c 0 x (omega arith)))
    (between-cut low high xs from to n (omega (arith, is)) (omega (arith, f)) (omega (arith, t)) (λ k e lt. a (suc k) e (omega (arith, lt))) (λ k e le lt. b (suc k) e (omega (arith, le)) (omega (arith, lt))) (λ k e lt. c (suc k) e (omega (arith, lt))) (λ k e le lt. d (suc k) e (omega (arith, le)) (omega (arith, lt))))
between-cut low high (x ∷ xs) (suc from) zero n is f t a b c d =
    rw (between_here low high x true false (a 0 x (omega arith)) (d 0 x (omega arith) (omega arith)))
    (between-cut low high xs from zero n (omega (arith, is)) (omega (arith, f)) (omega arith) (λ k e lt. a (suc k) e (omega (arith, lt))) (λ k e le lt. b (suc k) e (omega (arith, le)) (omega (arith, lt))) (λ k e lt. absurd (omega (arith, lt))) (λ k e le lt. d (suc k) e (omega arith) (omega (arith, lt))))
between-cut low high (x ∷ xs) zero (suc to) zero is f t a b c d = absurd (omega (arith, is))
between-cut low high (x ∷ xs) zero (suc to) (suc n) is f t a b c d =
    rw (between_here low high x false true (b 0 x (omega arith) (omega arith)) (c 0 x (omega arith)))
    (ap (λ (rest : Index). x ∷ rest) (between-cut low high xs zero to n (omega (arith, is)) (omega arith) (omega (arith, t)) (λ k e lt. absurd (omega (arith, lt))) (λ k e le lt. b (suc k) e (omega arith) (omega (arith, lt))) (λ k e lt. c (suc k) e (omega (arith, lt))) (λ k e le lt. d (suc k) e (omega (arith, le)) (omega (arith, lt)))))
between-cut low high (x ∷ xs) zero zero zero is f t a b c d =
    rw (between_here low high x false false (b 0 x (omega arith) (omega arith)) (d 0 x (omega arith) (omega arith)))
    (between-cut low high xs zero zero zero (omega arith) (omega arith) (omega arith) (λ k e lt. absurd (omega (arith, lt))) (λ k e le lt. b (suc k) e (omega arith) (omega (arith, lt))) (λ k e lt. absurd (omega (arith, lt))) (λ k e le lt. d (suc k) e (omega arith) (omega (arith, lt))))
between-cut low high (x ∷ xs) zero zero (suc n) is f t a b c d = absurd (omega (arith, is))
