-- The seven kinds of step, and what each tells the seat that makes it.
use Rattle.std.specs.Prelude.{◌≡◌, ◌≢◌, ℕ, ◌+◌, ◌<◌, List, [], ◌∷◌, ◌++◌, All, Option, Some, true, false}
use mathlib.Core.List.{IsPrefix}
use Rattle.hs_types.specs.declared.journal.Entry.{Entry}
use Rattle.atomic_table.specs.Table.{Me, Step}
use Rattle.turn_lock.specs.declared.historied.Kept.{Kept}
use Rattle.turn_lock.specs.declared.view.View.{View}
use Rattle.turn_lock.specs.Histories.{caller_of, by_caller, longer}
use Rattle.turn_lock.specs.Rule.{Has}

-- the first seat of a lock, which has each of its callers until it gives them seats
abbrev pub opener : ℕ → Kept → View
opener seats kept = record { live = true; holds = false; from = 0; to = seats; seats = seats; kept = kept; seen = []; told = [] }

-- the seat of one caller, between two calls
abbrev pub at_rest : ℕ → Kept → ℕ → List Entry → View
at_rest seats kept caller seen = record { live = true; holds = false; from = caller; to = caller + 1; seats = seats; kept = kept; seen = seen; told = [] }

-- the seat that was joined away
abbrev pub nobody : View
nobody = record { live = false; holds = false; from = 0; to = 0; seats = 0; kept = record { limit = 0; tells = false }; seen = []; told = [] }

-- the opening seat after it gave its first caller a seat, and that seat
abbrev pub without_first : View → View
without_first v = record v { from = v.from + 1 }

abbrev pub only_first : View → View
only_first v = record v { to = v.from + 1; holds = false }

-- what is split off for a meeting: a seat with no caller, which has seen the same
abbrev pub note_of : View → View
note_of v = record v { from = 0; to = 0; holds = false; told = [] }

-- a seat that was told what a note has seen
abbrev pub informed : View → View → View
informed v note = record v { told = note.seen }

-- the seat holds the pointer of a value with this history
abbrev pub holding : View → List Entry → View
holding v log = record v { holds = true; seen = log }

-- the seat has given back a value with this history
abbrev pub given : View → List Entry → View
given v log = record v { holds = false; seen = log }

-- the seat knows the longer of the two histories
abbrev pub learned : View → View
learned v = record v { seen = longer v.seen v.told; told = [] }

-- a history of the lock, as a seat finds it: it begins with what was seen, has no further entry of the seat's callers, and none but of the lock's
pub record Finds (v : View) (log : List Entry) : Type 0 where
  pub seen : IsPrefix v.seen log
  pub own : (caller : ℕ) → Has v caller → by_caller caller log ≡ by_caller caller v.seen
  pub callers : All (λ e. caller_of e < v.seats) log

-- a history that a holder may leave: the one that it took, or that one and entries of its own callers
abbrev pub MayLeave : View → List Entry → Type 0
MayLeave v log = (rest : List Entry) × (v.seen ++ rest ≡ log) × All (λ e. Has v (caller_of e)) rest

module _ {X : Type 0} (history : X → List Entry) (kept_of : X → Kept) where
  -- what a seat has after it took the pointer
  pub record Holds (v : View) (m : Me (Option X) View) : Type 0 where
    pub value : X
    pub slot : m.1 ≡ (0, Some value) ∷ []
    pub kept : kept_of value ≡ v.kept
    pub finds : Finds v (history value)
    pub view : m.0 ≡ holding v (history value)

  -- Take: a hit where the word found is 0, and else a miss
  abbrev pub takes_turn : Step (Option X) → Me (Option X) View → ℕ → Me (Option X) View → Type 0
  takes_turn st m found after = (found ≡ 0 → Holds m.0 after) × (found ≢ 0 → after ≡ m)

  -- Give back, the same history or a longer one
  abbrev pub gives_turn : Step (Option X) → Me (Option X) View → ℕ → Me (Option X) View → Type 0
  gives_turn st m found after = (value : X) → m.1 ≡ (0, Some value) ∷ [] → after ≡ (given m.0 (history value), [])

-- Load after a join. Who holds the pointer has seen the whole
pub record Learns (v w : View) : Type 0 where
  pub view : w ≡ learned v
  pub seen : IsPrefix v.seen w.seen
  pub told : IsPrefix v.told w.seen
  pub own : (caller : ℕ) → Has v caller → by_caller caller w.seen ≡ by_caller caller v.seen
  pub whole : v.holds ≡ true → w.seen ≡ v.seen

abbrev pub learns : {S : Type 0} → Step S → Me S View → ℕ → Me S View → Type 0
learns st m found after = Learns m.0 after.0 × (after.1 ≡ m.1)
