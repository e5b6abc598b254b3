-- Histories: lists of journal entries, as a lock's value carries them.
use Rattle.std.specs.Prelude.{◌≡◌, ◌==◌, ℕ, Bool, List, ◌++◌, length, nat_lt, if◌then◌else◌, All, filter}
use mathlib.Core.List.{IsPrefix}
use Rattle.hs_types.specs.declared.journal.Entry.{Entry}

-- the number of the caller who made the entry
abbrev pub caller_of : Entry → ℕ
caller_of e = e.caller.0

abbrev pub is_by : ℕ → Entry → Bool
is_by caller e = caller_of e == caller

-- the entries of one caller, in order
abbrev pub by_caller : ℕ → List Entry → List Entry
by_caller caller log = filter (is_by caller) log

-- the new history is the old one, and then only entries of this caller
abbrev pub AddsOnlyBy : ℕ → List Entry → List Entry → Type 0
AddsOnlyBy caller old new = (rest : List Entry) × (old ++ rest ≡ new) × All (λ e. caller_of e ≡ caller) rest

-- the history begins with what was seen, and has no further entry of this caller
abbrev pub LeadsOn : ℕ → List Entry → List Entry → Type 0
LeadsOn caller seen log = IsPrefix seen log × (by_caller caller log ≡ by_caller caller seen)

-- the longer of two histories
abbrev pub longer : List Entry → List Entry → List Entry
longer xs ys = if nat_lt (length xs) (length ys) then ys else xs
