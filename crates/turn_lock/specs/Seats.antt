-- A lock and its seats, as contracts see them.
use Rattle.std.specs.Prelude.{◌≡◌, ℕ, ◌<◌, List, [], ◌∷◌, length, slice_get, slice_index_or, Some, All, Contains}
use Rattle.hs_types.specs.declared.journal.Entry.{Entry}
use Rattle.atomic_table.specs.Seated.{TableId}
use Rattle.turn_lock.specs.declared.historied.Kept.{Kept}
use Rattle.turn_lock.specs.declared.view.View.{View}
use Rattle.turn_lock.specs.Histories.{caller_of, LeadsOn}
use Rattle.turn_lock.specs.Steps.{nobody, at_rest}

-- which lock it is, how many seats it has, and what is kept of its values
pub record Lock : Type 0 where
  pub table : TableId
  pub seats : ℕ
  pub kept : Kept

-- a seat of a lock: its caller, and the history that it has seen
pub record Seat : Type 0 where
  pub lock : Lock
  pub caller : ℕ
  pub seen : List Entry

-- every caller of the lock has its seat among these
abbrev pub AreAll : Lock → List Seat → Type 0
AreAll lock seats = (caller : ℕ) → caller < lock.seats → (k : ℕ) × (seat : Seat) × (slice_get seats k ≡ Some seat) × (seat.caller ≡ caller)

-- these are the seats of the lock, in the order of their callers
abbrev pub AreInOrder : Lock → List Seat → Type 0
AreInOrder lock seats = (length seats ≡ lock.seats) × ((k : ℕ) (d : Seat) → k < length seats → ((slice_index_or seats k d).lock ≡ lock) × ((slice_index_or seats k d).caller ≡ k))

-- each entry is of a caller of these seats, and stands in what that caller's seat has seen
abbrev pub EachIsSeen : List Seat → List Entry → Type 0
EachIsSeen seats log = (e : Entry) → Contains log e → (k : ℕ) × (seat : Seat) × (slice_get seats k ≡ Some seat) × (seat.caller ≡ caller_of e) × Contains seat.seen e

-- a value that this seat may find: what the lock keeps is kept of it, its history begins with what the seat has seen and has no further entry of the seat's caller, and each entry is of one of the lock's callers
abbrev pub MayFind : Seat → Kept → List Entry → Type 0
MayFind seat kept log = (kept ≡ seat.lock.kept) × LeadsOn seat.caller seat.seen log × All (λ e. caller_of e < seat.lock.seats) log

-- the view of a table's seat that is between two calls
abbrev pub view_of : List View → View
view_of [] = nobody
view_of (v ∷ vs) = v

abbrev pub IsAtRest : List View → Type 0
IsAtRest views = let v = view_of views in views ≡ at_rest v.seats v.kept v.from v.seen ∷ []

-- the seat that has this view at this table
abbrev pub seat_at : TableId → View → Seat
seat_at table v = record { lock = record { table = table; seats = v.seats; kept = v.kept }; caller = v.from; seen = v.seen }

-- n seats of one table, each of which has seen nothing
abbrev pub AreDealt : TableId → ℕ → Kept → ℕ → List Seat → Type 0
AreDealt table seats kept n dealt = (length dealt ≡ n) × ((k : ℕ) (d : Seat) → k < n → slice_index_or dealt k d ≡ seat_at table (at_rest seats kept k []))
