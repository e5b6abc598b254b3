-- Seats in the order of their callers, from any caller on, and what follows of them.
use Rattle.std.specs.Prelude.{◌≡◌, ℕ, ◌+◌, ⊤, List, [], ◌∷◌, ◌++◌, length, slice_get, Some, All}
use Rattle.turn_lock.specs.Seats.{Lock, Seat, AreAll, AreInOrder}

-- seats of this lock, whose callers are numbered on from this one
abbrev pub AreFrom : Lock → ℕ → List Seat → Type 0
AreFrom lock first [] = ⊤
AreFrom lock first (seat ∷ seats) = (seat.lock ≡ lock) × (seat.caller ≡ first) × AreFrom lock (first + 1) seats

-- no two of these seats have one caller
abbrev pub HaveOwnCallers : List Seat → Type 0
HaveOwnCallers seats = (i j : ℕ) (a b : Seat) → slice_get seats i ≡ Some a → slice_get seats j ≡ Some b → a.caller ≡ b.caller → i ≡ j

-- ---- laws

-- the seats of a lock in order are those from caller 0 on
abbrev pub InOrderFromZero : Type 0
InOrderFromZero = (lock : Lock) (seats : List Seat) → AreInOrder lock seats → AreFrom lock 0 seats

-- and those from caller 0 on, as many as the lock has, are its seats in order
abbrev pub FromZeroInOrder : Type 0
FromZeroInOrder = (lock : Lock) (seats : List Seat) → length seats ≡ lock.seats → AreFrom lock 0 seats → AreInOrder lock seats

-- each of two parts is numbered on
abbrev pub PartsFrom : Type 0
PartsFrom = (lock : Lock) (first : ℕ) (front back : List Seat) → AreFrom lock first (front ++ back) → AreFrom lock first front × AreFrom lock (first + length front) back

-- and so is the whole of two parts
abbrev pub WholeFrom : Type 0
WholeFrom = (lock : Lock) (first : ℕ) (front back : List Seat) → AreFrom lock first front → AreFrom lock (first + length front) back → AreFrom lock first (front ++ back)

-- the seat at each place
abbrev pub PlaceFrom : Type 0
PlaceFrom = (lock : Lock) (first : ℕ) (seats : List Seat) (k : ℕ) (seat : Seat) → AreFrom lock first seats → slice_get seats k ≡ Some seat → (seat.lock ≡ lock) × (seat.caller ≡ first + k)

-- no two have one caller
abbrev pub OwnCallersFrom : Type 0
OwnCallersFrom = (lock : Lock) (first : ℕ) (seats : List Seat) → AreFrom lock first seats → HaveOwnCallers seats

-- the seats of a lock in order are all of them, and of that lock
abbrev pub InOrderAreAll : Type 0
InOrderAreAll = (lock : Lock) (seats : List Seat) → AreInOrder lock seats → AreAll lock seats × All (λ s. s.lock ≡ lock) seats
