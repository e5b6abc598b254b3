-- The parts of a run: its plan, what it did with the plan, and its report. For proofs and private contracts alone.
use Rattle.std.specs.Prelude.{◌≡◌, ℕ, List, [], ◌++◌, Result, Ok, Err}
use Rattle.hs_plain.specs.declared.plan.Plan.{Plan}
use Rattle.page_join.specs.Links.{Known}
use Rattle.distcp_plan.specs.Laws.{IsOfTheirPaths}
use Rattle.distcp_plan.specs.declared.planning.PlanFault.{PlanFault}
use Rattle.copy_workers.specs.declared.copied.Made.{Made}
use Rattle.copy_workers.specs.declared.copied.Look.{Look}
use Rattle.copy_workers.specs.declared.copied.Copied.{Copied}
use Rattle.distcp_sync.specs.declared.answer.SyncAnswer.{SyncAnswer}
use Rattle.distcp_sync.specs.declared.answer.SyncAnswer.TheVariants as answers
use Rattle.distcp_sync.specs.declared.fetching.Fetched.{Fetched}
use Rattle.distcp_sync.specs.declared.report.SyncJob.{SyncJob}
use Rattle.distcp_sync.specs.declared.report.SyncReport.{SyncReport}
use Rattle.distcp_sync.specs.declared.start.SyncStart.{SyncStart}
use Rattle.distcp_sync.specs.inside.Trace.{IsFetched, IsPlanned, IsCarried, fault_answer}

-- done, or as the work ended
abbrev pub answer_of : Result (Unit {0}) SyncAnswer → SyncAnswer
answer_of (Ok done) = answers.Done
answer_of (Err answer) = answer

-- the report of a work with this result
abbrev pub report_of : Result (Unit {0}) SyncAnswer → List Made → List Copied → List Look → SyncReport
report_of result moves copies looks = record { answer = answer_of result; moves = moves; copies = copies; looks = looks }

-- a plan was made of what was fetched, or a fault tells why not
abbrev pub IsPlanOf : List ℕ → Fetched → Result Plan SyncAnswer → Type 0
IsPlanOf root fetched (Ok plan) = IsPlanned root fetched plan
IsPlanOf root fetched (Err answer) = (fault : PlanFault) × (answer ≡ fault_answer fault) × IsOfTheirPaths fetched.lines fetched.listings fetched.roots root fault

-- all was fetched, and the plan was made of it or not
pub data HasPlan (start : SyncStart) (job : SyncJob) (source source_then target target_then : Known) (before after : List Look) : Result Plan SyncAnswer → Type 0 where
  unfetched : (later : List Look) (answer : SyncAnswer) → after ≡ before ++ later → IsFetched start job.page source source_then target target_then later (Err answer) → HasPlan start job source source_then target target_then before after (Err answer)
  unplanned : (fetched : Fetched) (fault : PlanFault) (answer : SyncAnswer) → after ≡ before → IsFetched start job.page source source_then target target_then [] (Ok fetched) → IsOfTheirPaths fetched.lines fetched.listings fetched.roots job.target_root fault →
      answer ≡ fault_answer fault → HasPlan start job source source_then target target_then before after (Err answer)
  planned : (fetched : Fetched) (plan : Plan) → after ≡ before → IsFetched start job.page source source_then target target_then [] (Ok fetched) → IsPlanned job.target_root fetched plan → HasPlan start job source source_then target target_then before after (Ok plan)

-- the calls of a plan were carried out, and the reply that ended them is put to the looks
pub record HasCarried (start : SyncStart) (root : List ℕ) (plan : Plan) (source source_then target target_then : Known) (moves : List Made) (copies : List Copied) (before after : List Look) (result : Result (Unit {0}) SyncAnswer) : Type 0 where
  pub later : List Look
  pub looks_is : after ≡ before ++ later
  pub carried : IsCarried start root plan source source_then target target_then moves copies later (answer_of result)
