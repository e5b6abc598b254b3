-- For who calls `finish`: the seats of a lock in the order of their callers are all of them.
use Rattle.std.proofs.Common.{◌≡◌, ℕ, zero, suc, ◌<◌, List, [], ◌∷◌, length, Some, slice_get, refl, arith}
use Rattle.std.specs.Prelude.{slice_index_or, All}
use Rattle.turn_lock.specs.Seats.{Lock, Seat, AreAll, AreInOrder}

get_at : {A : Type 0} (xs : List A) (k : ℕ) (d : A) → k < length xs → slice_get xs k ≡ Some (slice_index_or xs k d)
get_at [] k d h = absurd (omega arith)
get_at (y ∷ ys) zero d h = refl
get_at (y ∷ ys) (suc k) d h = get_at ys k d (omega arith)

pub all_in_order : (lock : Lock) (seats : List Seat) → AreInOrder lock seats → AreAll lock seats
all_in_order lock seats order caller low =
    let d : Seat = record { lock = lock; caller = caller; seen = [] } in
    let long = order.0 in
    let within : caller < length seats = omega arith in
    (caller, slice_index_or seats caller d, get_at seats caller d within, (order.1 caller d within).1)

pub of_one_lock : (lock : Lock) (seats : List Seat) → AreInOrder lock seats → All (λ (s : Seat). s.lock ≡ lock) seats
of_one_lock lock seats order k d low = (order.1 k d low).0
