-- What a link to a namenode knows, and what a call and a meeting make of it.
use Rattle.std.specs.Prelude.{◌≡◌, ℕ, ◌+◌, ◌-◌, ◌^◌, ◌≤◌, ◌==◌, min, nat_lt, if◌then◌else◌, Bool, true, Option, Some, List, ◌++◌, length}
use Rattle.std.specs.Option.{option_to_list}
use Rattle.std.specs.List.{filter}
use mathlib.Core.List.{IsPrefix}
use Rattle.hs_types.specs.declared.ids.CallerId.{CallerId}
use Rattle.hs_types.specs.declared.call.Call.{Call}
use Rattle.hs_types.specs.declared.journal.Entry.{Entry}
use Rattle.hs_types.specs.declared.reply.Answered.{Answered}
use Rattle.hs_plain.specs.Replay.{is_proper}
use Rattle.hs_plain.specs.Legal.{Said, IsLegalCall, entry_left, number_rises, reach_of}

-- a link's caller, the number of its calls, the limit of its namenode's journal, whether the namenode's store tells its bytes, and
-- the history that the link has seen
pub record Known : Type 0 where
  pub caller : CallerId
  pub calls : ℕ
  pub limit : ℕ
  pub tells : Bool
  pub seen : List Entry

-- what a link has seen is a journal that a namenode may have, within its limit
pub record IsLawful (known : Known) : Type 0 where
  pub proper : is_proper known.seen ≡ true
  pub within : length known.seen ≤ known.limit
  pub limited : known.limit ≤ 1000000

-- the number of the next call; the last number of a u64 stays
abbrev pub next_number : ℕ → ℕ
next_number calls = min (calls + 1) (2 ^ 64 - 1)

abbrev pub is_of : CallerId → Entry → Bool
is_of caller entry = entry.caller.0 == caller.0

-- the entries of one caller, in order
abbrev pub entries_of : CallerId → List Entry → List Entry
entries_of caller journal = filter (is_of caller) journal

-- a call with what it was told, as a link knows it afterwards
abbrev pub said_by : Known → Call → Answered → Said
said_by new call told = record { seq = new.calls; call = call; told = told }

-- one call of a link
pub record IsCall (old new : Known) (call : Call) (told : Answered) : Type 0 where
  -- one call more is counted, and caller, limit and whether bytes are told stay
  pub same : new ≡ record old { calls = next_number old.calls; seen = new.seen }
  -- the call's number comes behind the one before
  pub rises : number_rises old.calls new.calls ≡ true
  -- what was seen before is the front of what is seen now
  pub grown : IsPrefix old.seen new.seen
  -- the history that is seen now is one that a namenode may have
  pub lawful : IsLawful new
  -- it ends with what the answer knows
  pub reach : length new.seen ≡ reach_of call told
  -- the answer's place is behind all that was seen before
  pub place : length old.seen ≤ told.position
  -- the plain machine's answer at that place, the entry that must be there, and the call handed back where there is none
  pub legal : IsLegalCall old.tells old.limit new.seen old.caller new.calls call told
  -- of what was not seen before only this call's own entry, where it left one, is of the link's caller
  pub own : entries_of old.caller new.seen ≡ entries_of old.caller old.seen ++ option_to_list (entry_left old.caller (said_by new call told))

-- two links lead to one namenode: both have its number
abbrev pub LeadToOne : Option ℕ → Option ℕ → Type 0
LeadToOne a b = (number : ℕ) × (a ≡ Some number) × (b ≡ Some number)

-- the longer of two histories
abbrev pub longer : List Entry → List Entry → List Entry
longer xs ys = if nat_lt (length xs) (length ys) then ys else xs

-- the history begins with what was seen, and has no further entry of this caller
abbrev pub LeadsOn : CallerId → List Entry → List Entry → Type 0
LeadsOn caller seen journal = IsPrefix seen journal × (entries_of caller journal ≡ entries_of caller seen)

-- a link has met another one: it has seen the longer one of both histories, which goes on from its own without an entry of its caller
pub record IsMet (old new : Known) (longest : List Entry) : Type 0 where
  pub same : new ≡ record old { seen = longest }
  pub leads : LeadsOn old.caller old.seen longest
