-- Locks with one number are one lock.
use Rattle.std.proofs.Common.{◌≡◌, Bool, true, false, ℕ, zero, suc, ◌+◌, ◌*◌, ◌<◌, List, [], ◌∷◌, refl, ap, arith}
use Rattle.turn_lock.specs.Seats.{Lock}
use Rattle.turn_lock.specs.Numbers.{shifted, packed, bit, numbers_of, number_of, NumberTellsLock}

positive : (n m : ℕ) → 0 < shifted n m
positive zero m = omega arith
positive (suc n) m = let p = positive n m in omega arith

shifted_same : (a b m k : ℕ) → shifted a m ≡ shifted b k → (a ≡ b) × (m ≡ k)
shifted_same zero zero m k e = (refl, omega (arith, e))
shifted_same zero (suc b) m k e = (let x : ℕ = shifted b k in let f : 2 * m + 1 ≡ 2 * x = e in absurd (omega arith))
shifted_same (suc a) zero m k e = (let x : ℕ = shifted a m in let f : 2 * x ≡ 2 * k + 1 = e in absurd (omega arith))
shifted_same (suc a) (suc b) m k e = (let x : ℕ = shifted a m in let y : ℕ = shifted b k in let f : 2 * x ≡ 2 * y = e in let h : x ≡ y = omega arith in let r = shifted_same a b m k h in (ap suc r.0, r.1))

packed_same : (xs ys : List ℕ) → packed xs ≡ packed ys → xs ≡ ys
packed_same [] [] e = refl
packed_same [] (y ∷ ys) e = (let p = positive y (packed ys) in let f : 0 ≡ shifted y (packed ys) = e in absurd (omega arith))
packed_same (x ∷ xs) [] e = (let p = positive x (packed xs) in let f : shifted x (packed xs) ≡ 0 = e in absurd (omega arith))
packed_same (x ∷ xs) (y ∷ ys) e = let r = shifted_same x y (packed xs) (packed ys) e in let s = packed_same xs ys r.1 in λ i. r.0 i ∷ s i

bit_same : (x y : Bool) → bit x ≡ bit y → x ≡ y
bit_same true true e = refl
bit_same true false e = absurd (omega (arith, e))
bit_same false true e = absurd (omega (arith, e))
bit_same false false e = refl

-- no two locks have one number
pub one_number : NumberTellsLock
unfolding number_of
one_number a b e =
    let s = packed_same (numbers_of a) (numbers_of b) e in
    let seats : a.seats ≡ b.seats = cc (s) in
    let most : a.kept.limit ≡ b.kept.limit = cc (s) in
    let bits : bit a.kept.tells ≡ bit b.kept.tells = cc (s) in
    let tells : a.kept.tells ≡ b.kept.tells = bit_same a.kept.tells b.kept.tells bits in
    let words : a.table.words ≡ b.table.words = cc (s) in
    let slots : a.table.slots ≡ b.table.slots = cc (s) in
    let views_name : a.table.views_name ≡ b.table.views_name = cc (s) in
    let atom : a.table.atom ≡ b.table.atom = cc (s) in
    let block : a.table.block ≡ b.table.block = cc (s) in
    let offset : a.table.offset ≡ b.table.offset = cc (s) in
    let slot_names : a.table.slot_names ≡ b.table.slot_names = cc (s) in
    λ i. record { table = record { words = words i; slots = slots i; views_name = views_name i; atom = atom i; block = block i; offset = offset i; slot_names = slot_names i }; seats = seats i; kept = record { limit = most i; tells = tells i } }
