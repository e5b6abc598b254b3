-- Laws of a copy: its calls as calls of its two links, and how far they are the calls that its plan has for it.
use Rattle.std.specs.Prelude.{◌≡◌, ⊤, ℕ, ◌≤◌, Bool, true, false, List, [], ◌∷◌, ◌++◌, map, length, take, Option, Some, None, Ok}
use Rattle.std.specs.List.{filter_map, AllByRecursion}
use Rattle.hs_types.specs.declared.ids.CallerId.{CallerId}
use Rattle.hs_types.specs.declared.ids.Side.{Side}
use Rattle.hs_types.specs.declared.ids.Side.TheVariants.{Source, Target}
use Rattle.hs_types.specs.declared.ids.SnapId.{SnapId}
use Rattle.hs_types.specs.declared.call.Call.{Call}
use Rattle.hs_types.specs.declared.call.Call.TheVariants as calls
use Rattle.hs_types.specs.declared.call.Place.{Place}
use Rattle.hs_types.specs.declared.call.Place.TheVariants as places
use Rattle.hs_types.specs.declared.call.ReadCursor.{ReadCursor}
use Rattle.hs_types.specs.declared.journal.Entry.{Entry}
use Rattle.hs_plain.specs.declared.plan.CopyJob.{CopyJob}
use Rattle.hs_plain.specs.Answer.{is_ok_reply}
use Rattle.hs_plain.specs.Joined.{claimed_bytes, is_bytes, known_state, read_cursor}
use Rattle.hs_plain.specs.Legal.{Said}
use Rattle.hs_plain.specs.Plan.{IsFront, copy_calls, text_below}
use Rattle.hs_plain.specs.Reading.{file_at}
use Rattle.hs_plain.specs.Replay.{plain_after}
use Rattle.page_join.specs.Links.{Known}
use Rattle.page_join.specs.Made.{AreMade}
use Rattle.copy_workers.specs.declared.copied.Made.{Made}
use Rattle.copy_workers.specs.declared.copied.Look.{Look}
use Rattle.copy_workers.specs.declared.copied.Copied.{Copied}
use Rattle.copy_workers.specs.Calls.{made_by, look_at, wanting_of}
use Rattle.copy_workers.specs.Copying.{ReadOn, wanted, beginning, IsCopy}

-- ---- the calls of a copy

-- a call was answered by an Ok reply
abbrev pub IsDone : Said → Type 0
IsDone said = is_ok_reply said.told.reply ≡ true

abbrev pub AllButLast : {A : Type 0} → (A → Type 0) → List A → Type 0
AllButLast P [] = ⊤
AllButLast P (only ∷ []) = ⊤
AllButLast P (first ∷ second ∷ more) = P first × AllButLast P (second ∷ more)

-- 65,536 bytes of what stands at a place are asked for
abbrev pub ReadsAt : Place → Said → Type 0
ReadsAt place said = (at : ReadCursor) × (said.call ≡ calls.ReadNext at 65536) × (at.place ≡ place)

-- the first call reads at this cursor, each further one at the cursor of the reply before
abbrev pub ReadFrom : Option ReadCursor → List Said → Type 0
ReadFrom cursor [] = ⊤
ReadFrom cursor (said ∷ more) = (at : ReadCursor) × (cursor ≡ Some at) × (said.call ≡ calls.ReadNext at 65536) × ReadFrom (read_cursor said.told.reply) more

abbrev pub calls_of : List Said → List Call
calls_of calls = map (λ said. said.call) calls

-- the calls of a copy that is whole: all were done, the last page has no cursor, and what the pages want was written
pub record AreWhole (path : List ℕ) (place : Place) (reads writes : List Said) : Type 0 where
  pub reads_done : AllByRecursion IsDone reads
  pub writes_done : AllByRecursion IsDone writes
  pub pages : ReadOn (Some (beginning place)) reads None
  pub written : calls_of writes ≡ wanted path reads

-- a last call was not done, and all before it were
pub record IsUndoneLast (side : Side) (caller : CallerId) (calls : List Said) (look : Look) : Type 0 where
  pub before : List Said
  pub last : Said
  pub all : calls ≡ before ++ last ∷ []
  pub done : AllByRecursion IsDone before
  pub undone : is_ok_reply last.told.reply ≡ false
  pub look_is : look ≡ look_at side caller last.told

-- a copy ended before it was whole: the last read or the last write was not done, or memory ran out and no further call was made
pub data AreCutShort (source target : CallerId) (reads writes : List Said) (look : Look) : Type 0 where
  by_read : IsUndoneLast Source source reads look → AllByRecursion IsDone writes → AreCutShort source target reads writes look
  by_write : IsUndoneLast Target target writes look → AllByRecursion IsDone reads → AreCutShort source target reads writes look
  at_source : look ≡ wanting_of Source source → AllByRecursion IsDone reads → AllByRecursion IsDone writes → AreCutShort source target reads writes look
  at_target : look ≡ wanting_of Target target → AllByRecursion IsDone reads → AllByRecursion IsDone writes → AreCutShort source target reads writes look

abbrev pub AreEnded : CallerId → CallerId → List ℕ → Place → List Said → List Said → Option Look → Type 0
AreEnded source target path place reads writes None = AreWhole path place reads writes
AreEnded source target path place reads writes (Some look) = AreCutShort source target reads writes look

-- these calls, in order, are all that a copy made at the source and at the target
pub record AreCallsOf (path : List ℕ) (place : Place) (source source_then target target_then : Known) (made : List Made) (ended : Option Look) (reads writes : List Said) : Type 0 where
  pub read : AreMade source source_then reads
  pub written : AreMade target target_then writes
  -- the entries that are named are those that the writes left
  pub named : made ≡ filter_map (made_by target.caller) writes
  -- pages of what stands at the place are read from its first byte on, each at the cursor of the one before
  pub asked : AllByRecursion (ReadsAt place) reads
  pub pages : ReadFrom (Some (beginning place)) reads
  -- the writes are what the pages want, up to some call
  pub wants : IsFront (calls_of writes) (wanted path reads)
  pub done : AllButLast IsDone writes
  pub end : AreEnded source.caller target.caller path place reads writes ended

-- the calls that a copy made
abbrev pub CallsOfCopy : Type 0
CallsOfCopy = (number : ℕ) (job : CopyJob) (snap : SnapId) (root : List ℕ) (source source_then target target_then : Known) (copied : Copied) →
    IsCopy number job snap root source source_then target target_then copied →
    (reads : List Said) × (writes : List Said) × AreCallsOf (text_below root job.to) (places.Frozen job.id snap) source source_then target target_then copied.made copied.ended reads writes

-- ---- the calls of the plan

-- what is claimed of a call: of an append's bytes, where the source doesn't tell them, how many there are
abbrev pub claimed_call : Bool → Call → Call
claimed_call tells (calls.Append path bytes) = calls.Append path (claimed_bytes tells bytes)
claimed_call tells call = call

abbrev pub claimed_calls : Bool → List Call → List Call
claimed_calls tells list = map (claimed_call tells) list

-- a page that was read was read of a file with these bytes
abbrev pub ReadOf : List Entry → Place → List ℕ → Said → Type 0
ReadOf journal place bytes said = is_bytes said.told.reply ≡ true → file_at (known_state journal said) place ≡ Ok bytes

-- the writes are the first of the calls that the plan has for this copy, and all of them where nothing ended it
pub record AreFirstOfPlan (tells : Bool) (root : List ℕ) (job : CopyJob) (bytes : List ℕ) (writes : List Said) (ended : Option Look) : Type 0 where
  pub front : IsFront (claimed_calls tells (calls_of writes)) (claimed_calls tells (copy_calls root job.to bytes))
  pub whole : ended ≡ None → claimed_calls tells (calls_of writes) ≡ claimed_calls tells (copy_calls root job.to bytes)

-- the calls of a copy, where the pages were read of a file with these bytes
abbrev pub CopyIsFront : Type 0
CopyIsFront = (job : CopyJob) (snap : SnapId) (root : List ℕ) (source source_then target target_then : Known) (made : List Made) (ended : Option Look) (reads writes : List Said) (bytes : List ℕ) →
    AreCallsOf (text_below root job.to) (places.Frozen job.id snap) source source_then target target_then made ended reads writes →
    AllByRecursion (ReadOf source_then.seen (places.Frozen job.id snap) bytes) reads →
    AreFirstOfPlan source.tells root job bytes writes ended

-- the same, where the source's history had the file with these bytes at some place before the first read: a snapshot keeps them
abbrev pub CopyOfFrozenIsFront : Type 0
CopyOfFrozenIsFront = (job : CopyJob) (snap : SnapId) (root : List ℕ) (source source_then target target_then : Known) (made : List Made) (ended : Option Look) (reads writes : List Said) (bytes : List ℕ) (index : ℕ) →
    AreCallsOf (text_below root job.to) (places.Frozen job.id snap) source source_then target target_then made ended reads writes →
    index ≤ length source.seen →
    file_at (plain_after (take index source_then.seen)) (places.Frozen job.id snap) ≡ Ok bytes →
    AreFirstOfPlan source.tells root job bytes writes ended
