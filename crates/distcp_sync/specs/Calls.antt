-- The calls of a sync, as its two links count them.
use Rattle.std.specs.Prelude.{◌≡◌, ℕ, ◌≤◌, true, ◌&&◌, nat_le, if◌then◌else◌, Bool, List, [], ◌∷◌, ◌++◌, map, slice_get, Option, Some, None}
use Rattle.std.specs.List.{AllByRecursion}
use mathlib.Core.List.{IsPrefix}
use Rattle.hs_types.specs.declared.ids.CallerId.{CallerId}
use Rattle.hs_types.specs.declared.ids.Side.{Side}
use Rattle.hs_types.specs.declared.ids.Side.TheVariants.{Source, Target}
use Rattle.hs_types.specs.declared.call.Call.TheVariants as calls
use Rattle.hs_types.specs.declared.call.ReadCursor.{ReadCursor}
use Rattle.hs_types.specs.declared.journal.Entry.{Entry}
use Rattle.hs_types.specs.declared.journal.EntryKind.TheVariants.{Faulted}
use Rattle.hs_plain.specs.Answer.{is_store_fault}
use Rattle.hs_plain.specs.Legal.{number_rises, places_of}
use Rattle.page_join.specs.Links.{Known, IsLawful}
use Rattle.copy_workers.specs.declared.copied.Made.{Made}
use Rattle.copy_workers.specs.declared.copied.Look.{Look}
use Rattle.distcp_sync.specs.declared.report.SyncReport.{SyncReport}
use Rattle.distcp_sync.specs.Steps.{AreAllMade, ended_copy}

-- a link made calls: its caller, its limit and whether bytes are told stay, and what it had seen is the front of what it sees
pub record HasGone (old new : Known) : Type 0 where
  pub same : new ≡ record old { calls = new.calls; seen = new.seen }
  pub counted : old.calls ≤ new.calls
  pub grown : IsPrefix old.seen new.seen
  pub lawful : IsLawful new

-- the numbers of entries rise from one number on, up to another
abbrev pub seqs_rise : ℕ → ℕ → List Made → Bool
seqs_rise before last [] = nat_le before last
seqs_rise before last (made ∷ more) = number_rises before made.seq && seqs_rise made.seq last more

-- the place of a read at the source that its store failed
abbrev pub faulted_by : Side → Look → List ℕ
faulted_by Source look = if is_store_fault look.reply.reply then look.reply.position ∷ [] else []
faulted_by Target look = []

abbrev pub faulted_at : Option Look → List ℕ
faulted_at None = []
faulted_at (Some look) = faulted_by look.side look

-- the places of a caller's entries are those of before and these
abbrev pub AddPlaces : Known → Known → List ℕ → Type 0
AddPlaces old new places = places_of old.caller.0 0 new.seen ≡ places_of old.caller.0 0 old.seen ++ places

-- an entry that a sync of this caller made stands in the journal
pub record IsMadeIn (journal : List Entry) (caller : CallerId) (made : Made) : Type 0 where
  pub entry : Entry
  pub there : slice_get journal made.position ≡ Some entry
  pub of_caller : entry.caller.0 ≡ caller.0
  pub caller_is : made.caller.0 ≡ caller.0
  pub seq_is : entry.seq ≡ made.seq

-- a page of a file that a sync of this caller read met a fault of the store there
pub record IsFailedRead (journal : List Entry) (caller : CallerId) (place : ℕ) : Type 0 where
  pub entry : Entry
  pub there : slice_get journal place ≡ Some entry
  pub of_caller : entry.caller.0 ≡ caller.0
  pub kind_is : entry.kind ≡ Faulted
  pub cursor : ReadCursor
  pub len : ℕ
  pub call_is : entry.call ≡ calls.ReadNext cursor len

-- what a sync's calls left at both sides
pub record AreSyncCalls (source source_then target target_then : Known) (report : SyncReport) : Type 0 where
  pub source_goes : HasGone source source_then
  pub target_goes : HasGone target target_then
  -- the source has a faulted read alone, which then was the last call there
  pub source_places : AddPlaces source source_then (faulted_at (ended_copy report.copies))
  pub failed : AllByRecursion (IsFailedRead source_then.seen source.caller) (faulted_at (ended_copy report.copies))
  -- the target has the entries that the report names
  pub made : List Made
  pub all : AreAllMade report made
  pub target_places : AddPlaces target target_then (map (λ one. one.position) made)
  pub entered : AllByRecursion (IsMadeIn target_then.seen target.caller) made
  pub numbers : seqs_rise target.calls target_then.calls made ≡ true
