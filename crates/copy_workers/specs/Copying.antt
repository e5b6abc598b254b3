-- The copy of one file: its calls at both sides, and what it hands back.
use Rattle.std.specs.Prelude.{◌≡◌, ℕ, Bool, true, false, List, [], ◌∷◌, ◌++◌, map, Option, Some, None, Err}
use Rattle.std.specs.List.{filter, filter_map, AllByRecursion}
use Rattle.hs_types.specs.declared.ids.Side.{Side}
use Rattle.hs_types.specs.declared.ids.Side.TheVariants.{Source, Target}
use Rattle.hs_types.specs.declared.ids.SnapId.{SnapId}
use Rattle.hs_types.specs.declared.call.Call.{Call}
use Rattle.hs_types.specs.declared.call.Call.TheVariants as calls
use Rattle.hs_types.specs.declared.call.Place.{Place}
use Rattle.hs_types.specs.declared.call.Place.TheVariants as places
use Rattle.hs_types.specs.declared.call.ReadCursor.{ReadCursor}
use Rattle.hs_plain.specs.declared.plan.CopyJob.{CopyJob}
use Rattle.hs_plain.specs.Answer.{is_ok_reply}
use Rattle.hs_plain.specs.Joined.{bytes_shown, read_cursor, is_bytes}
use Rattle.hs_plain.specs.Legal.{Said}
use Rattle.hs_plain.specs.Plan.{text_below}
use Rattle.page_join.specs.Links.{Known}
use Rattle.page_join.specs.Made.{AreMade}
use Rattle.copy_workers.specs.declared.copied.Made.{Made}
use Rattle.copy_workers.specs.declared.copied.Look.{Look}
use Rattle.copy_workers.specs.declared.copied.Copied.{Copied}
use Rattle.copy_workers.specs.Calls.{made_by, EndsAt, IsChange}

-- a call that is to be made, and the side at which
pub record Step : Type 0 where
  pub side : Side
  pub call : Call

-- pages of a file, of 65,536 bytes: each is read at the cursor of the page before, and the next one is read at the last cursor
abbrev pub ReadOn : Option ReadCursor → List Said → Option ReadCursor → Type 0
ReadOn cursor [] next = cursor ≡ next
ReadOn cursor (said ∷ more) next = (at : ReadCursor) × (cursor ≡ Some at) × (said.call ≡ calls.ReadNext at 65536) × (is_bytes said.told.reply ≡ true) × ReadOn (read_cursor said.told.reply) more next

abbrev pub is_filled : List ℕ → Bool
is_filled [] = false
is_filled (byte ∷ bytes) = true

-- the bytes of the pages that have any
abbrev pub filled : List Said → List (List ℕ)
filled reads = filter is_filled (map (λ said. bytes_shown said.told.reply) reads)

-- what these pages want of the target: the file is made anew, and the bytes of each page that has any are appended
abbrev pub wanted : List ℕ → List Said → List Call
wanted path reads = calls.Create path true ∷ map (calls.Append path) (filled reads)

-- what is still wanted of the target comes first, and then the next page
abbrev pub next_step : List Call → Option ReadCursor → Option Step
next_step (call ∷ calls) cursor = Some (record { side = Target; call = call })
next_step [] (Some at) = Some (record { side = Source; call = calls.ReadNext at 65536 })
next_step [] None = None

-- where a file begins
abbrev pub beginning : Place → ReadCursor
beginning place = record { place = place; offset = 0 }

-- a copy that went well so far: what it read and wrote, the entries that it made, and the step that comes next, if one does
pub record IsCopying (path : List ℕ) (place : Place) (source now target new : Known) (made : List Made) (next : Option Step) : Type 0 where
  pub reads : List Said
  pub writes : List Said
  pub left : List Call
  pub cursor : Option ReadCursor
  pub read : AreMade source now reads
  pub written : AreMade target new writes
  pub pages : ReadOn (Some (beginning place)) reads cursor
  pub well : AllByRecursion (λ said. is_ok_reply said.told.reply ≡ true) writes
  pub calls_are : map (λ said. said.call) writes ++ left ≡ wanted path reads
  pub named : made ≡ filter_map (made_by target.caller) writes
  pub next_is : next ≡ next_step left cursor

-- the step at which a copy ends: the entry that it may have left at the target is named, and the other link makes no call
abbrev pub EndsAtStep : Step → Known → Known → Known → Known → List Made → List Made → Look → Type 0
EndsAtStep step source source_then target target_then before after look = by step.side
  where
    by : Side → Type 0
    by Source = EndsAt Source source source_then step.call look × (target_then ≡ target) × (after ≡ before)
    by Target = IsChange target target_then step.call before after (Err look) × (source_then ≡ source)

-- a copy is whole, or it went well up to the step at which it ended
abbrev pub IsCopyTo : List ℕ → Place → Known → Known → Known → Known → List Made → Option Look → Type 0
IsCopyTo path place source source_then target target_then made None = IsCopying path place source source_then target target_then made None
IsCopyTo path place source source_then target target_then made (Some look) =
    (source_now : Known) × (target_now : Known) × (before : List Made) × (step : Step) × IsCopying path place source source_now target target_now before (Some step) ×
    EndsAtStep step source_now source_then target_now target_then before made look

-- a job copies its file of this snapshot to its place below the target's root
pub record IsCopy (number : ℕ) (job : CopyJob) (snap : SnapId) (root : List ℕ) (source source_then target target_then : Known) (copied : Copied) : Type 0 where
  pub job_is : copied.job ≡ number
  pub copy : IsCopyTo (text_below root job.to) (places.Frozen job.id snap) source source_then target target_then copied.made copied.ended
