-- What the steps of a sync are at the two sides: replies that were kept, entries that were made, and the plan that they follow.
use Rattle.std.specs.Prelude.{◌≡◌, ⊤, ℕ, ◌+◌, ◌<◌, ◌≤◌, Bool, true, false, ◌==◌, ◌&&◌, nat_lt, nat_le, if◌then◌else◌, List, [], ◌∷◌, ◌++◌, map, length, take, slice_get, Option, Some, None, Ok}
use Rattle.std.specs.List.{flat_map}
use Rattle.hs_types.specs.declared.ids.CallerId.{CallerId}
use Rattle.hs_types.specs.declared.ids.Side.{Side}
use Rattle.hs_types.specs.declared.ids.Side.TheVariants.{Source, Target}
use Rattle.hs_types.specs.declared.call.Call.{Call}
use Rattle.hs_types.specs.declared.call.Call.TheVariants as calls
use Rattle.hs_types.specs.declared.journal.Entry.{Entry}
use Rattle.hs_types.specs.declared.journal.EntryKind.{EntryKind}
use Rattle.hs_types.specs.declared.journal.EntryKind.TheVariants.{Accepted, Faulted}
use Rattle.hs_plain.specs.declared.state.Member.{Member}
use Rattle.hs_plain.specs.declared.state.State.{State}
use Rattle.hs_plain.specs.declared.plan.Plan.{Plan}
use Rattle.hs_plain.specs.Legal.{IsLegalCall, reach_of}
use Rattle.hs_plain.specs.Replay.{plain_after}
use Rattle.hs_plain.specs.Span.{is_one_of}
use Rattle.hs_plain.specs.Premises.{SyncAsk, SyncSide}
use Rattle.hs_plain.specs.Plan.{plan_of, plan_calls, root_names}
use Rattle.copy_workers.specs.CopyLaws.{claimed_call}
use Rattle.copy_workers.specs.declared.copied.Made.{Made}
use Rattle.copy_workers.specs.declared.copied.Look.{Look}
use Rattle.copy_workers.specs.declared.copied.Copied.{Copied}
use Rattle.distcp_sync.specs.declared.report.SyncReport.{SyncReport}

-- the two sides of a sync, and whether their stores tell their bytes
pub record SyncSides : Type 0 where
  pub source : SyncSide
  pub target : SyncSide
  pub source_tells : Bool
  pub target_tells : Bool

abbrev pub side_at : SyncSides → Side → SyncSide
side_at sides Source = sides.source
side_at sides Target = sides.target

abbrev pub tells_at : SyncSides → Side → Bool
tells_at sides Source = sides.source_tells
tells_at sides Target = sides.target_tells

-- ---- replies

-- a reply that was kept answers this call of one of the sync's callers, as the plain machine does at a place in the span, in which its own entry is, where it left one
pub record IsHeard (sides : SyncSides) (side : Side) (call : Call) (look : Look) : Type 0 where
  pub at_side : look.side ≡ side
  pub of_caller : is_one_of (side_at sides side).callers look.caller ≡ true
  pub from : (side_at sides side).span.low ≤ look.reply.position
  pub to : reach_of call look.reply ≤ (side_at sides side).span.high
  pub seq : ℕ
  pub legal : IsLegalCall (tells_at sides side) (side_at sides side).limit (side_at sides side).journal look.caller seq call look.reply

-- the state that a reply knows
abbrev pub state_at : SyncSide → Look → State (List ℕ)
state_at side look = plain_after (take look.reply.position side.journal)

-- ---- entries

-- the entries that a sync made: its moves up to the copies, those of its copies, and its last move, which deletes the temporary directory
pub record AreAllMade (report : SyncReport) (made : List Made) : Type 0 where
  pub before : List Made
  pub last : List Made
  pub moves : report.moves ≡ before ++ last
  pub all : made ≡ before ++ (flat_map (λ copied. copied.made) report.copies ++ last)

-- each is the entry of its caller and number at its place, and the places rise
abbrev pub AreEntries : List Entry → ℕ → List Made → List Entry → Type 0
AreEntries journal from [] [] = ⊤
AreEntries journal from [] (entry ∷ entries) = ⊥
AreEntries journal from (made ∷ more) [] = ⊥
AreEntries journal from (made ∷ more) (entry ∷ entries) =
    (from ≤ made.position) × (slice_get journal made.position ≡ Some entry) × (entry.caller.0 ≡ made.caller.0) × (entry.seq ≡ made.seq) × AreEntries journal (made.position + 1) more entries

-- the places in a journal, from one index on and below another, of the entries of these callers
abbrev pub own_places : List CallerId → ℕ → ℕ → ℕ → List Entry → List ℕ
own_places callers low high index [] = []
own_places callers low high index (entry ∷ entries) =
    if nat_le low index && (nat_lt index high && is_one_of callers entry.caller) then index ∷ own_places callers low high (index + 1) entries
    else own_places callers low high (index + 1) entries

-- those of a sync's callers in its span
abbrev pub places_in : SyncSide → List ℕ
places_in side = own_places side.callers side.span.low side.span.high 0 side.journal

-- how many entries the journal has up to the last of these
abbrev pub up_to_last : List Made → ℕ
up_to_last [] = 0
up_to_last (made ∷ []) = made.position + 1
up_to_last (made ∷ other ∷ more) = up_to_last (other ∷ more)

-- ---- the plan

-- the plan of a sync from the source's copied trees and from the target's
abbrev pub plan_between : Member (List ℕ) → Member (List ℕ) → Member (List ℕ) → Plan
plan_between from to base = plan_of from.tree to.tree (root_names base.tree)

-- this call comes next
abbrev pub IsNext : Bool → List Call → Call → Type 0
IsNext tells [] call = ⊥
IsNext tells (next ∷ rest) call = claimed_call tells call ≡ claimed_call tells next

-- a faulted entry is of the append that comes next
abbrev pub AreFaulted : Bool → List Call → List Entry → Type 0
AreFaulted tells rest [] = ⊤
AreFaulted tells rest (entry ∷ []) = (entry.kind ≡ Faulted) × IsNext tells rest entry.call
AreFaulted tells rest (entry ∷ other ∷ more) = ⊥

-- entries are accepted, and have the first of these calls; those are left
abbrev pub AreFirst : Bool → List Call → List Entry → List Call → Type 0
AreFirst tells planned [] rest = rest ≡ planned
AreFirst tells planned (entry ∷ entries) rest = (next : Call) × (more : List Call) × (planned ≡ next ∷ more) × (entry.kind ≡ Accepted) × (claimed_call tells entry.call ≡ claimed_call tells next) × AreFirst tells more entries rest

-- ---- copies

abbrev pub or_later : Option Look → Option Look → Option Look
or_later (Some look) later = Some look
or_later None later = later

-- what ended the copies: the reply of the one with the least number
abbrev pub ended_copy : List Copied → Option Look
ended_copy [] = None
ended_copy (copied ∷ more) = or_later copied.ended (ended_copy more)

-- each copy is of the next job, from a number on
abbrev pub are_numbered : ℕ → List Copied → Bool
are_numbered number [] = true
are_numbered number (copied ∷ more) = copied.job == number && are_numbered (number + 1) more
