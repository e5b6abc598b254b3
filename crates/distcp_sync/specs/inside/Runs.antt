-- What a run of a sync's code tells of the journals around it. For proofs and private contracts alone.
use Rattle.page_join.specs.Links.{Known, IsLawful}
use Rattle.distcp_sync.specs.declared.report.SyncJob.{SyncJob}
use Rattle.distcp_sync.specs.declared.report.SyncReport.{SyncReport}
use Rattle.distcp_sync.specs.Calls.{AreSyncCalls}
use Rattle.distcp_sync.specs.Around.{IsSyncedWithin}
use Rattle.distcp_sync.specs.inside.Trace.{IsRun}

-- a run over two links whose histories are lawful at its beginning did what its report tells, and its calls are those that the links count
abbrev pub RunsAreTold : Type 0
RunsAreTold = (job : SyncJob) (source source_then target target_then : Known) (report : SyncReport) → IsLawful source → IsLawful target →
    IsRun job source source_then target target_then report → AreSyncCalls source source_then target target_then report × IsSyncedWithin source source_then target target_then job report
