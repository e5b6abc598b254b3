-- The passes of a shared namenode, as contracts see them.
use Rattle.std.specs.Prelude.{◌≡◌, ℕ, ◌≤◌, ◌+◌, ⊤, List, [], ◌∷◌, map}
use Rattle.hs_types.specs.declared.ids.CallerId.{CallerId}
use Rattle.hs_types.specs.declared.journal.Entry.{Entry}
use Rattle.turn_lock.specs.Seats.{Lock, Seat}
use Rattle.page_join.specs.Links.{Known}

-- a pass: the lock that it is of, its caller, the number of its calls, and the history that it has seen
pub record Passed : Type 0 where
  pub lock : Lock
  pub caller : CallerId
  pub calls : ℕ
  pub seen : List Entry

-- what it knows as a link
abbrev pub known : Passed → Known
known pass = record { caller = pass.caller; calls = pass.calls; limit = pass.lock.kept.limit; tells = pass.lock.kept.tells; seen = pass.seen }

-- its seat
abbrev pub seat_of : Passed → Seat
seat_of pass = record { lock = pass.lock; caller = pass.caller.0; seen = pass.seen }

abbrev pub seats_of : List Passed → List Seat
seats_of passes = map seat_of passes

-- a pass that has made no call and seen nothing
abbrev pub IsNew : Passed → Type 0
IsNew pass = (pass.calls ≡ 0) × (pass.seen ≡ [])

-- seats that have seen nothing, whose callers are numbered on from this one, of a lock whose journal has a limit that it may have
abbrev pub AreNewFrom : ℕ → List Seat → Type 0
AreNewFrom first [] = ⊤
AreNewFrom first (seat ∷ seats) = (seat.caller ≡ first) × (seat.seen ≡ []) × (seat.lock.kept.limit ≤ 1000000) × AreNewFrom (first + 1) seats
