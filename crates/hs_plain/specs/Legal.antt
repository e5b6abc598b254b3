-- Which answers are right for a call, at a place of a namenode's one history.
use Rattle.std.specs.Prelude.{◌≡◌, ℕ, ◌+◌, ◌-◌, ◌^◌, ◌≤◌, Bool, true, false, ◌&&◌, ◌||◌, ◌==◌, nat_le, nat_lt, if◌then◌else◌, List, [], ◌∷◌, length, take, slice_get, Option, Some, None}
use Rattle.std.specs.List.{filter_map, AllByRecursion}
use Rattle.hs_types.specs.declared.ids.CallerId.{CallerId}
use Rattle.hs_types.specs.declared.call.Call.{Call}
use Rattle.hs_types.specs.declared.reply.Reply.{Reply}
use Rattle.hs_types.specs.declared.journal.EntryKind.{EntryKind}
use Rattle.hs_types.specs.declared.journal.EntryKind.TheVariants.{Accepted, Faulted}
use Rattle.hs_types.specs.declared.journal.Entry.{Entry}
use Rattle.hs_types.specs.declared.reply.Answered.{Answered}
use Rattle.hs_plain.specs.Answer.{answer, claimed, is_modifying, is_exclusive, is_ok_reply, is_plain_reply, is_store_fault, is_journal_full}
use Rattle.hs_plain.specs.Replay.{plain_after, is_proper}

-- a call with its number among its caller's calls, and what was answered
pub record Said : Type 0 where
  pub seq : ℕ
  pub call : Call
  pub told : Answered

-- whether the call left an entry in the journal: a change that was accepted, or a fault of the store
abbrev pub leaves_entry : Call → Reply → Bool
leaves_entry call reply = is_store_fault reply || (is_modifying call && is_ok_reply reply)

abbrev pub kind_of : Reply → EntryKind
kind_of reply = if is_store_fault reply then Faulted else Accepted

-- the entry that a call leaves, if it leaves one
abbrev pub entry_of : CallerId → ℕ → Call → Reply → Entry
entry_of caller seq call reply = record { caller = caller; seq = seq; kind = kind_of reply; call = call }

-- how much of the journal the answer knows: its own entry is the last of it
abbrev pub reach_of : Call → Answered → ℕ
reach_of call told = told.position + (if leaves_entry call told.reply then 1 else 0)

-- a call is refused for want of room in the journal alone
pub record IsFullAt (limit : ℕ) (journal : List Entry) (call : Call) (position : ℕ) : Type 0 where
  pub exclusive : is_exclusive call ≡ true
  pub would_do : is_ok_reply (answer (plain_after (take position journal)) call) ≡ true
  pub at_limit : position ≡ limit

-- one call is answered as the plain machine does at its place in the journal, over a store that tells its bytes or doesn't, with a limit of entries
pub record IsLegalCall (tells : Bool) (limit : ℕ) (journal : List Entry) (caller : CallerId) (seq : ℕ) (call : Call) (told : Answered) : Type 0 where
  -- its place is in the journal
  pub within : told.position ≤ length journal
  -- the reply is the plain machine's
  pub answered : is_plain_reply told.reply ≡ true → claimed tells told.reply ≡ claimed tells (answer (plain_after (take told.position journal)) call)
  -- an accepted modifying call has its entry there, and so has a fault of the store
  pub entered : leaves_entry call told.reply ≡ true → slice_get journal told.position ≡ Some (entry_of caller seq call told.reply)
  -- the call is handed back exactly where it left no entry
  pub kept : leaves_entry call told.reply ≡ true → told.back ≡ None
  pub handed_back : leaves_entry call told.reply ≡ false → told.back ≡ Some call
  -- the journal is full only for an exclusive call that would be done, and where it has as many entries as it may have
  pub full : is_journal_full told.reply ≡ true → IsFullAt limit journal call told.position

-- the entry that a call left
abbrev pub entry_left : CallerId → Said → Option Entry
entry_left caller said = if leaves_entry said.call said.told.reply then Some (entry_of caller said.seq said.call said.told.reply) else None

-- where the entry stands that a call left
abbrev pub place_left : Said → Option ℕ
place_left said = if leaves_entry said.call said.told.reply then Some said.told.position else None

-- where a caller's entries stand, counted from an index
abbrev pub places_of : ℕ → ℕ → List Entry → List ℕ
places_of c index [] = []
places_of c index (entry ∷ entries) = if entry.caller.0 == c then index ∷ places_of c (index + 1) entries else places_of c (index + 1) entries

-- a number comes behind another: it is greater, or both are the last of a u64, at which the count stays
abbrev pub number_rises : ℕ → ℕ → Bool
number_rises before seq = nat_lt before seq || (before == 2 ^ 64 - 1 && seq == 2 ^ 64 - 1)

-- the numbers rise from one call to the next
abbrev pub numbers_rise : ℕ → List Said → Bool
numbers_rise seq [] = true
numbers_rise seq (said ∷ more) = number_rises seq said.seq && numbers_rise said.seq more

-- each answer knows at least what the one before knew
abbrev pub places_rise : ℕ → List Said → Bool
places_rise reach [] = true
places_rise reach (said ∷ more) = nat_le reach said.told.position && places_rise (reach_of said.call said.told) more

-- calls that one caller made one after the other, answered legally in a journal that a namenode may have
pub record AreAnswered (tells : Bool) (limit : ℕ) (journal : List Entry) (caller : CallerId) (calls : List Said) : Type 0 where
  pub proper : is_proper journal ≡ true
  pub each : AllByRecursion (λ said. IsLegalCall tells limit journal caller said.seq said.call said.told) calls
  pub places : places_rise 0 calls ≡ true

-- all calls of one caller that made no sync: they are answered legally, their numbers rise, and the caller's entries in the journal
-- stand where these calls left theirs. The entries that syncs make are told of beside the calls, where a run is told
pub record AreLegalCalls (tells : Bool) (limit : ℕ) (journal : List Entry) (caller : CallerId) (calls : List Said) : Type 0 where
  pub answered : AreAnswered tells limit journal caller calls
  pub numbers : numbers_rise 0 calls ≡ true
  pub entries : places_of caller.0 0 journal ≡ filter_map place_left calls
