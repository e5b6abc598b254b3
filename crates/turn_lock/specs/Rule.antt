-- The rule of the turn: what holds between any two steps of a lock.
use Rattle.std.specs.Prelude.{◌≡◌, ◌≢◌, ℕ, ◌<◌, ◌≤◌, List, length, slice_index, All, Option, Some, true}
use mathlib.Core.Option.{none, some}
use mathlib.Core.Option as maybe
use mathlib.Core.List.{IsPrefix}
use lib.ListN.{get_elem?}
use Rattle.hs_types.specs.declared.journal.Entry.{Entry}
use Rattle.atomic_table.specs.Table.{State}
use Rattle.turn_lock.specs.declared.historied.Kept.{Kept}
use Rattle.turn_lock.specs.declared.view.View.{View}
use Rattle.turn_lock.specs.Histories.{caller_of, by_caller}

-- the callers of a seat. A seat that was split off for a meeting has none
abbrev pub Has : View → ℕ → Type 0
Has v caller = (v.from ≤ caller) × (caller < v.to)

-- A live seat names how many seats the lock has, and what is kept of its values. The history begins with what it has seen, and with what it was told, and the entries of its callers are those that it has seen
pub record Fits (seats : ℕ) (kept : Kept) (log : List Entry) (v : View) : Type 0 where
  pub seats_is : v.seats ≡ seats
  pub kept_is : v.kept ≡ kept
  pub inside : v.to ≤ seats
  pub seen : IsPrefix v.seen log
  pub told : IsPrefix v.told log
  pub own : (caller : ℕ) → Has v caller → by_caller caller log ≡ by_caller caller v.seen

-- a live seat
abbrev pub Lives : List View → ℕ → View → Type 0
Lives views j v = (get_elem? views j ≡ some v) × (v.live ≡ true)

-- the pointer is at home, to a value with this history, of which this is kept
abbrev pub IsHome : {X : Type 0} → (X → List Entry) → (X → Kept) → Kept → List (maybe.Option (Option X)) → List Entry → Type 0
IsHome {X} history kept_of kept homes log = (value : X) × (get_elem? homes 0 ≡ some (some (Some value))) × (history value ≡ log) × (kept_of value ≡ kept)

-- There is one history: that of the value at home, or the one in the holder's view. The pointer is at home exactly where word 0 is 0; else the home is empty, and a live seat holds the pointer
pub record Turned {X : Type 0} (history : X → List Entry) (kept_of : X → Kept) (seats : ℕ) (kept : Kept) (s : State (Option X) View) : Type 0 where
  pub log : List Entry
  pub words : length s.words ≡ 2
  pub callers : All (λ e. caller_of e < seats) log
  pub each_seat : (j : ℕ) (v : View) → Lives s.views j v → Fits seats kept log v
  pub one_caller : (i j : ℕ) (v w : View) → Lives s.views i v → Lives s.views j w → (caller : ℕ) → Has v caller → Has w caller → i ≡ j
  pub home : slice_index s.words 0 ≡ 0 → IsHome history kept_of kept s.homes log
  pub empty : slice_index s.words 0 ≢ 0 → get_elem? s.homes 0 ≡ some none
  pub away : slice_index s.words 0 ≢ 0 → (j : ℕ) × (v : View) × Lives s.views j v × (v.holds ≡ true)
  pub holder : (j : ℕ) (v : View) → Lives s.views j v → v.holds ≡ true → (v.seen ≡ log) × (slice_index s.words 0 ≢ 0)
  pub one_holder : (i j : ℕ) (v w : View) → Lives s.views i v → Lives s.views j w → v.holds ≡ true → w.holds ≡ true → i ≡ j
