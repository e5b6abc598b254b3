-- What only private contracts and proofs use: commands that were run one after the other, on two namenodes.
use Rattle.std.specs.Prelude.{◌≡◌, ⊤, ℕ, ◌+◌, ◌-◌, ◌^◌, min, Bool, true, nat_le, if◌then◌else◌, List, [], ◌∷◌, ◌++◌, map, length, Option, Some, None}
use Rattle.hs_types.specs.declared.ids.Side.{Side}
use Rattle.hs_types.specs.declared.ids.Side.TheVariants.{Source, Target}
use Rattle.hs_types.specs.declared.call.Call.TheVariants as calls
use Rattle.hs_types.specs.declared.call.ReadCursor.{ReadCursor}
use Rattle.hs_types.specs.declared.journal.Entry.{Entry}
use Rattle.hs_types.specs.declared.journal.EntryKind.TheVariants.{Faulted}
use Rattle.hs_types.specs.Limits.{journal_limit}
use Rattle.hs_plain.specs.Legal.{Said, number_rises}
use Rattle.page_join.specs.Links.{Known}
use Rattle.copy_workers.specs.declared.copied.Made.{Made}
use Rattle.distcp_sync.specs.declared.report.SyncJob.{SyncJob}
use Rattle.distcp_sync.specs.declared.report.SyncReport.{SyncReport}
use Rattle.distcp_sync.specs.Steps.{AreAllMade}
use Rattle.distcp_sync.specs.Around.{IsSyncedWithin}
use Rattle.script_text.specs.declared.command.Command.{Command}
use Rattle.script_text.specs.declared.command.Command.TheVariants as commands
use Rattle.run_output.specs.Calls.{side_of}
use Rattle.run_output.specs.Steps.{Sections, SyncRun, LineRun, Step, printed, made, failed, counted, goes_to, synced_on}
use Rattle.run_output.specs.Run.{caller, IsLegal}
use Rattle.script_runner.specs.Links.{own}

-- ---- steps of one side

-- a call is answered at the end of the journal
pub record IsNext (tells : Bool) (c : ℕ) (old : List Entry) (number : ℕ) (new : List Entry) (said : Said) : Type 0 where
  pub grows : new ≡ old ++ own c said
  pub place : said.told.position ≡ length old
  pub legal : IsLegal tells new c said
  pub counted : said.seq ≡ min (number + 1) (2 ^ 64 - 1)

-- calls that were made one after the other, and led from one journal and number to others
abbrev pub AreNext : Bool → ℕ → List Entry → ℕ → List Said → List Entry → ℕ → Type 0
AreNext tells c old number [] new last = (old ≡ new) × (number ≡ last)
AreNext tells c old number (said ∷ more) new last = (seen : List Entry) × IsNext tells c old number seen said × AreNext tells c seen said.seq more new last

-- a sync made an entry at the end of the journal
pub record IsMadeNext (c : ℕ) (old : List Entry) (number : ℕ) (new : List Entry) (m : Made) : Type 0 where
  pub entry : Entry
  pub of_caller : entry.caller.0 ≡ c
  pub caller_is : m.caller.0 ≡ c
  pub seq_is : entry.seq ≡ m.seq
  pub grows : new ≡ old ++ entry ∷ []
  pub place : m.position ≡ length old
  pub rises : number_rises number m.seq ≡ true

-- a sync's read of a page left an entry at the end of the journal, since the store failed
pub record IsFailedNext (c : ℕ) (old new : List Entry) (position : ℕ) : Type 0 where
  pub entry : Entry
  pub of_caller : entry.caller.0 ≡ c
  pub kind_is : entry.kind ≡ Faulted
  pub cursor : ReadCursor
  pub len : ℕ
  pub call_is : entry.call ≡ calls.ReadNext cursor len
  pub grows : new ≡ old ++ entry ∷ []
  pub place : position ≡ length old

-- steps of one caller, each at the end of the journal, that led from one journal and number to others
abbrev pub AreStepsNext : Bool → ℕ → List Entry → ℕ → List Step → List Entry → ℕ → Type 0
AreStepsNext tells c old number [] new last = (old ≡ new) × (number ≡ last)
AreStepsNext tells c old number (printed said ∷ more) new last = (seen : List Entry) × IsNext tells c old number seen said × AreStepsNext tells c seen said.seq more new last
AreStepsNext tells c old number (made m ∷ more) new last = (seen : List Entry) × IsMadeNext c old number seen m × AreStepsNext tells c seen m.seq more new last
AreStepsNext tells c old number (failed position ∷ more) new last = (seen : List Entry) × IsFailedNext c old seen position × AreStepsNext tells c seen number more new last
AreStepsNext tells c old number (counted n ∷ more) new last = (nat_le number n ≡ true) × AreStepsNext tells c old n more new last

-- ---- lines

-- the journals of both namenodes, with the numbers of one caller's last calls
pub record World : Type 0 where
  pub source : List Entry
  pub target : List Entry
  pub source_calls : ℕ
  pub target_calls : ℕ

abbrev pub world_of : List Entry → List Entry → ℕ → ℕ → World
world_of source target source_calls target_calls = record { source = source; target = target; source_calls = source_calls; target_calls = target_calls }

-- what a caller's link knows that has seen this journal
abbrev pub knows : Bool → ℕ → ℕ → List Entry → Known
knows tells c number journal = record { caller = caller c; calls = number; limit = journal_limit; tells = tells; seen = journal }

-- a sync did what its report tells, around what both links have seen
abbrev pub IsSyncedFrom : Bool → Bool → ℕ → World → World → SyncJob → SyncReport → Type 0
IsSyncedFrom source_tells target_tells c old new job report =
    IsSyncedWithin (knows source_tells c old.source_calls old.source) (knows source_tells c new.source_calls new.source) (knows target_tells c old.target_calls old.target) (knows target_tells c new.target_calls new.target) job report

-- and so did the sync of a line, if it is one
abbrev pub IsSyncedAt : Bool → Bool → ℕ → ℕ → World → World → Command → Option SyncRun → Type 0
IsSyncedAt source_tells target_tells page c old new (commands.Sync source target from to) (Some sync) =
    IsSyncedFrom source_tells target_tells c old new (record { source_root = source; target_root = target; from = from; to = to; page = page }) sync.report
IsSyncedAt source_tells target_tells page c old new command synced = ⊤

-- the steps of a line on one side
abbrev pub steps_by : Side → Command → List Said → Option SyncRun → List Step
steps_by side command said synced = synced_on side synced ++ (if goes_to side (side_of command) then map printed said else [])

-- a line was run
pub record IsLineDone (source_tells target_tells : Bool) (page c : ℕ) (old : World) (command : Command) (said : List Said) (synced : Option SyncRun) (new : World) : Type 0 where
  pub source : AreStepsNext source_tells c old.source old.source_calls (steps_by Source command said synced) new.source new.source_calls
  pub target : AreStepsNext target_tells c old.target old.target_calls (steps_by Target command said synced) new.target new.target_calls
  pub within : IsSyncedAt source_tells target_tells page c old new command synced

-- what a sync did that left these numbers of calls
abbrev pub sync_run : World → SyncReport → List Made → SyncRun
sync_run new report entries = record { report = report; made = entries; source_calls = new.source_calls; target_calls = new.target_calls }

-- a caller made a sync
pub record IsSyncDone (source_tells target_tells : Bool) (c : ℕ) (old new : World) (job : SyncJob) (report : SyncReport) : Type 0 where
  pub made : List Made
  pub all : AreAllMade report made
  pub source : AreStepsNext source_tells c old.source old.source_calls (synced_on Source (Some (sync_run new report made))) new.source new.source_calls
  pub target : AreStepsNext target_tells c old.target old.target_calls (synced_on Target (Some (sync_run new report made))) new.target new.target_calls
  pub within : IsSyncedFrom source_tells target_tells c old new job report

-- ---- sections

-- a section's commands were run by one caller, one after the other
abbrev pub AreLinesRun : Bool → Bool → ℕ → ℕ → World → List LineRun → World → Type 0
AreLinesRun source_tells target_tells page c old [] new = old ≡ new
AreLinesRun source_tells target_tells page c old (run ∷ runs) new = (now : World) × IsLineDone source_tells target_tells page c old run.line.command run.said run.synced now × AreLinesRun source_tells target_tells page c now runs new

abbrev pub uncounted : World → World
uncounted world = record world { source_calls = 0; target_calls = 0 }

-- the clients' sections, one after the other, each with its own numbers
abbrev pub AreClientsRun : Bool → Bool → ℕ → ℕ → World → List (List LineRun) → World → Type 0
AreClientsRun source_tells target_tells page c old [] new = (old.source ≡ new.source) × (old.target ≡ new.target)
AreClientsRun source_tells target_tells page c old (client ∷ clients) new = (now : World) × AreLinesRun source_tells target_tells page c (uncounted old) client now × AreClientsRun source_tells target_tells page (c + 1) now clients new

abbrev pub fresh : World
fresh = record { source = []; target = []; source_calls = 0; target_calls = 0 }

-- a whole run; caller 0 goes on with its numbers
pub record IsSerial (source_tells target_tells : Bool) (page : ℕ) (runs : Sections LineRun) (source target : List Entry) : Type 0 where
  pub begun : World
  pub ended : World
  pub last : World
  pub setup : AreLinesRun source_tells target_tells page 0 fresh runs.setup begun
  pub clients : AreClientsRun source_tells target_tells page 1 begun runs.clients ended
  pub finish : AreLinesRun source_tells target_tells page 0 (record ended { source_calls = begun.source_calls; target_calls = begun.target_calls }) runs.finish last
  pub source_is : last.source ≡ source
  pub target_is : last.target ≡ target
