-- Seats in the order of their callers, from any caller on.
use Rattle.std.proofs.Common.{◌≡◌, ℕ, zero, suc, ◌+◌, ◌<◌, List, [], ◌∷◌, length, ap, sym, ◌∙◌, subst, arith}
use Rattle.std.specs.Prelude.{slice_index_or}
use Rattle.turn_lock.specs.Seats.{Lock, Seat}
use Rattle.turn_lock.specs.Order.{AreFrom, InOrderFromZero, FromZeroInOrder, PartsFrom, WholeFrom, PlaceFrom, OwnCallersFrom, InOrderAreAll}
use Rattle.turn_lock.proofs.Rows.{all_in_order, of_one_lock}

further : (first k : ℕ) → first + 1 + k ≡ first + suc k
further first k = omega arith

from_zero : (k : ℕ) → 0 + k ≡ k
from_zero k = omega arith

-- from what is known at each place
from_places : (lock : Lock) (first : ℕ) (seats : List Seat) → ((k : ℕ) (d : Seat) → k < length seats → ((slice_index_or seats k d).lock ≡ lock) × ((slice_index_or seats k d).caller ≡ first + k)) → AreFrom lock first seats
from_places lock first [] at = tt
from_places lock first (seat ∷ seats) at =
    let here = at 0 seat (omega arith) in
    (here.0, (let e = here.1 in omega (arith, e)), from_places lock (first + 1) seats (λ k d low. (let there = at (suc k) d (omega (arith, low)) in (there.0, there.1 ∙ sym (further first k)))))

pub in_order_from_zero : InOrderFromZero
in_order_from_zero lock seats order = from_places lock 0 seats (λ k d low. (let at = order.1 k d low in (at.0, at.1 ∙ sym (from_zero k))))

places_from : (lock : Lock) (first : ℕ) (seats : List Seat) → AreFrom lock first seats → (k : ℕ) (d : Seat) → k < length seats → ((slice_index_or seats k d).lock ≡ lock) × ((slice_index_or seats k d).caller ≡ first + k)
places_from lock first [] from k d low = absurd (omega (arith, low))
places_from lock first (seat ∷ seats) from zero d low = (from.0, (let e = from.1 in omega (arith, e)))
places_from lock first (seat ∷ seats) from (suc k) d low = (let there = places_from lock (first + 1) seats from.2 k d (omega (arith, low)) in (there.0, there.1 ∙ further first k))

pub from_zero_in_order : FromZeroInOrder
from_zero_in_order lock seats long from = (long, λ k d low. (let at = places_from lock 0 seats from k d low in (at.0, at.1 ∙ from_zero k)))

pub parts_from : PartsFrom
parts_from lock first [] back from = (tt, subst (λ (n : ℕ). AreFrom lock n back) {x = first} {y = first + 0} (omega arith) from)
parts_from lock first (seat ∷ front) back from =
    let parts = parts_from lock (first + 1) front back from.2 in
    ((from.0, from.1, parts.0), subst (λ (n : ℕ). AreFrom lock n back) (further first (length front)) parts.1)

pub whole_from : WholeFrom
whole_from lock first [] back front_is back_is = subst (λ (n : ℕ). AreFrom lock n back) {x = first + 0} {y = first} (omega arith) back_is
whole_from lock first (seat ∷ front) back front_is back_is =
    (front_is.0, front_is.1, whole_from lock (first + 1) front back front_is.2 (subst (λ (n : ℕ). AreFrom lock n back) (sym (further first (length front))) back_is))

pub place_from : PlaceFrom
place_from lock first [] k seat from at = absurd (cc at)
place_from lock first (s ∷ seats) zero seat from at = let same : s ≡ seat = cc at in (ap (λ (x : Seat). x.lock) (sym same) ∙ from.0, ap (λ (x : Seat). x.caller) (sym same) ∙ (let e = from.1 in omega (arith, e)))
place_from lock first (s ∷ seats) (suc k) seat from at = let there = place_from lock (first + 1) seats k seat from.2 at in (there.0, there.1 ∙ further first k)

pub own_callers_from : OwnCallersFrom
own_callers_from lock first seats from i j a b at_i at_j same =
    let one = (place_from lock first seats i a from at_i).1 in
    let two = (place_from lock first seats j b from at_j).1 in
    omega (arith, one, two, same)

pub in_order_are_all : InOrderAreAll
in_order_are_all lock seats order = (all_in_order lock seats order, of_one_lock lock seats order)
