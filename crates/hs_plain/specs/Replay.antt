-- The state that a journal stands for, and which journals a namenode may have.
use Rattle.std.specs.Prelude.{ℕ, Bool, true, ◌&&◌, List, [], ◌∷◌}
use Rattle.hs_types.specs.declared.call.Call.{Call}
use Rattle.hs_types.specs.declared.journal.EntryKind.{EntryKind}
use Rattle.hs_types.specs.declared.journal.EntryKind.TheVariants.{Accepted, Faulted}
use Rattle.hs_types.specs.declared.journal.Entry.{Entry}
use Rattle.hs_plain.specs.declared.state.State.{State}
use Rattle.hs_plain.specs.Files.{Files, plain_files}
use Rattle.hs_plain.specs.State.{start}
use Rattle.hs_plain.specs.Answer.{answer, is_ok_reply, is_modifying, uses_store}
use Rattle.hs_plain.specs.Change.{after}

abbrev pub replay_from : {B : Type 0} → Files B → State B → List Entry → State B
replay_from files state [] = state
replay_from files state (entry ∷ entries) = replay_from files (after files state entry) entries

-- the state that a journal stands for
abbrev pub replay : {B : Type 0} → Files B → List Entry → State B
replay files entries = replay_from files start entries

-- the plain state, in which a file holds its bytes, after the entries of a journal
abbrev pub plain_after : List Entry → State (List ℕ)
plain_after entries = replay plain_files entries

-- an accepted entry is of a modifying call, a faulted one of a call that uses the store
abbrev pub fits_kind : EntryKind → Call → Bool
fits_kind Accepted call = is_modifying call
fits_kind Faulted call = uses_store call

-- whether an entry may stand behind the entries that led to a state
abbrev pub may_follow : State (List ℕ) → Entry → Bool
may_follow state entry = fits_kind entry.kind entry.call && is_ok_reply (answer state entry.call)

abbrev pub proper_from : State (List ℕ) → List Entry → Bool
proper_from state [] = true
proper_from state (entry ∷ entries) = may_follow state entry && proper_from (after plain_files state entry) entries

-- a journal that a namenode may have
abbrev pub is_proper : List Entry → Bool
is_proper entries = proper_from start entries
