-- The journals and spans in which a sync may be seen, around what its links have seen.
use Rattle.std.specs.Prelude.{◌≡◌, Bool, ℕ, ◌≤◌, List, [], ◌∷◌, length}
use mathlib.Core.List.{IsPrefix}
use Rattle.hs_plain.specs.Premises.{SyncSide}
use Rattle.page_join.specs.Links.{Known}
use Rattle.distcp_sync.specs.declared.report.SyncJob.{SyncJob}
use Rattle.distcp_sync.specs.declared.report.SyncReport.{SyncReport}
use Rattle.distcp_sync.specs.Told.{ask_of}
use Rattle.distcp_sync.specs.Steps.{SyncSides, own_places}
use Rattle.distcp_sync.specs.Synced.{IsSynced}

-- a journal goes on from what a link then has seen, and in the span it has no entry of the caller but those of the sync's calls
pub record IsAround (old new : Known) (tells : Bool) (side : SyncSide) : Type 0 where
  pub goes_on : IsPrefix new.seen side.journal
  pub tells_is : tells ≡ old.tells
  pub limit_is : side.limit ≡ old.limit
  pub callers_are : side.callers ≡ old.caller ∷ []
  pub from : side.span.low ≤ length old.seen
  pub to : length new.seen ≤ side.span.high
  pub none_before : own_places side.callers side.span.low (length old.seen) 0 side.journal ≡ []
  pub none_behind : own_places side.callers (length new.seen) side.span.high 0 side.journal ≡ []

-- a sync did what its report tells, in all journals around what its links have seen
abbrev pub IsSyncedWithin : Known → Known → Known → Known → SyncJob → SyncReport → Type 0
IsSyncedWithin source source_then target target_then job report = (sides : SyncSides) →
    IsAround source source_then sides.source_tells sides.source → IsAround target target_then sides.target_tells sides.target → IsSynced (ask_of job) job.page sides report
