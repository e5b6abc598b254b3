-- From the way of the code to what a sync tells.
use Rattle.std.proofs.Common.{◌≡◌, List, [], ◌++◌, Result, Ok, Err, refl, sym, subst}
use Rattle.page_join.specs.Links.{Known, IsLawful}
use Rattle.copy_workers.specs.CopyLaws.{CallsOfCopy, CopyOfFrozenIsFront}
use Rattle.copy_workers.specs.declared.copied.Look.{Look}
use Rattle.distcp_sync.specs.declared.fetching.Fetched.{Fetched}
use Rattle.distcp_sync.specs.declared.report.SyncJob.{SyncJob}
use Rattle.distcp_sync.specs.declared.report.SyncReport.{SyncReport}
use Rattle.distcp_sync.specs.declared.start.SyncStart.{SyncStart}
use Rattle.distcp_sync.specs.Told.{ask_of}
use Rattle.distcp_sync.specs.Calls.{AreSyncCalls}
use Rattle.distcp_sync.specs.Around.{IsSyncedWithin}
use Rattle.distcp_sync.specs.inside.Trace.{IsBegun, IsFetched, unbegun, unfetched, unplanned, carried}
use Rattle.distcp_sync.specs.inside.Runs.{RunsAreTold}
use Rattle.distcp_sync.proofs.Spans.{own_added}
use Rattle.distcp_sync.specs.declared.answer.SyncAnswer.{SyncAnswer}
use Rattle.hs_types.specs.declared.ids.Side.TheVariants.{Source, Target}
use Rattle.distcp_sync.specs.Told.{answer_at, begun, OrNoMemory}
use Rattle.distcp_sync.specs.Steps.{SyncSides, places_in}
use Rattle.distcp_sync.specs.Synced.{HasWorked, First}
use Rattle.distcp_sync.specs.Around.{IsAround}
use Rattle.distcp_sync.proofs.Heard.{Goes, goes_self, goes_then, made_goes, heard}
use Rattle.distcp_sync.proofs.Trees.{KnowsTrees, trees_told}
use Rattle.distcp_sync.proofs.Begun.{DidBoth, did_begin, told_begin, told_unbegun}
use Rattle.distcp_sync.proofs.Fetches.{by_look, by_want}
use Rattle.distcp_sync.proofs.Unmade.{did_fetch, both_then, unmade_calls}
use Rattle.distcp_sync.proofs.Carried.{carried_told, carried_within}
use Rattle.distcp_sync.proofs.Unplanned.{unplanned_within}

-- a sync that ends in its first steps
unbegun_told : (job : SyncJob) (source source_then target target_then : Known) (report : SyncReport) → IsLawful source → IsLawful target →
    IsBegun job source source_then target target_then report.looks (Err report.answer) → report.moves ≡ [] → report.copies ≡ [] → AreSyncCalls source source_then target target_then report × IsSyncedWithin source source_then target target_then job report
unbegun_told job s s2 t t2 report ls lt begun moves copies =
    let did : DidBoth s s2 t t2 = did_begin job s s2 t t2 report.looks (Err report.answer) ls lt begun in (
      unmade_calls s s2 t t2 report did moves copies,
      λ sides around_source around_target.
          told_unbegun job job.page sides report s s2 t t2 around_source around_target moves copies (own_added sides.target_tells sides.target t t2 [] around_target did.at_target.goes did.at_target.places)
          report.answer report.looks refl begun,
    )

-- the calls of a sync that ends before it made a call of its plan
fetched_calls : (job : SyncJob) (start : SyncStart) (source source_now source_then target target_now target_then : Known) (looks later : List Look) (begun : Result SyncStart SyncAnswer)
    (fetched : Result Fetched SyncAnswer) → IsLawful source → IsLawful target →
    IsBegun job source source_now target target_now looks begun → IsFetched start job.page source_now source_then target_now target_then later fetched → DidBoth source source_then target target_then
fetched_calls job start s sn s2 t tn t2 looks later begun fetched ls lt is_begun is_fetched =
    let first : DidBoth s sn t tn = did_begin job s sn t tn looks begun ls lt is_begun in
    both_then s sn s2 t tn t2 first (did_fetch start job.page sn s2 tn t2 later fetched first.at_source.lawful first.at_target.lawful is_fetched)

-- a sync that ends while it fetches
fetch_worked : (job : SyncJob) (sides : SyncSides) (report : SyncReport) (start : SyncStart) (source source_now source_then target target_now target_then : Known) (one two : Look) (later : List Look) (answer : SyncAnswer) →
    IsAround source source_then sides.source_tells sides.source → IsAround target target_then sides.target_tells sides.target → Goes source source_now → Goes target target_now →
    report.moves ≡ [] → report.copies ≡ [] → places_in sides.target ≡ [] → answer ≡ report.answer → KnowsTrees (ask_of job) job.page sides report start source_now one two →
    IsFetched start job.page source_now source_then target_now target_then later (Err answer) → HasWorked (ask_of job) job.page sides report start one two later
fetch_worked job sides report start s sn s2 t tn t2 one two later answer around_s around_t gs gt moves copies none same knows (IsFetched.wanting rs rt) =
    by_want (ask_of job) job.page sides report start one two knows.trees moves copies none (sym same)
fetch_worked job sides report start s sn s2 t tn t2 one two later answer around_s around_t gs gt moves copies none same knows (IsFetched.at_source call look now answer_is rs rt is bad told) =
    by_look (ask_of job) job.page sides report start one two knows.trees sn Source call look moves copies none knows.listed is
    (heard sides Source s now s2 s2 call look around_s (goes_then s sn now gs (made_goes sn now rs.calls rs.read.made)) bad.looked (goes_self s2)) bad.bad (subst (OrNoMemory (answer_at look)) same told)
fetch_worked job sides report start s sn s2 t tn t2 one two later answer around_s around_t gs gt moves copies none same knows (IsFetched.at_target call look now answer_is rs rt is bad told) =
    by_look (ask_of job) job.page sides report start one two knows.trees sn Target call look moves copies none knows.listed is
    (heard sides Target t now t2 t2 call look around_t (goes_then t tn now gt (made_goes tn now rt.calls rt.read.made)) bad.looked (goes_self t2)) bad.bad (subst (OrNoMemory (answer_at look)) same told)

unfetched_within : (job : SyncJob) (start : SyncStart) (source source_now source_then target target_now target_then : Known) (report : SyncReport) (looks later : List Look) → IsLawful source → IsLawful target →
    IsBegun job source source_now target target_now looks (Ok start) → IsFetched start job.page source_now source_then target_now target_then later (Err report.answer) → report.looks ≡ looks ++ later → report.moves ≡ [] → report.copies ≡ [] →
    IsSyncedWithin source source_then target target_then job report
unfetched_within job start s sn s2 t tn t2 report looks later ls lt begun got all moves copies = λ sides around_s around_t.
    let first : DidBoth s sn t tn = did_begin job s sn t tn looks (Ok start) ls lt begun in
    let further : DidBoth sn s2 tn t2 = did_fetch start job.page sn s2 tn t2 later (Err report.answer) first.at_source.lawful first.at_target.lawful got in
    let whole : DidBoth s s2 t t2 = both_then s sn s2 t tn t2 first further in
    subst (λ (ls : List Look). First (ask_of job) job.page sides report ls) (sym all)
    (told_begin job job.page sides report s s2 t t2 around_s around_t sn tn looks later start begun further.at_source.goes further.at_target.goes
    (λ now one two third roots is.
    fetch_worked job sides report start s sn s2 t tn t2 one two later report.answer around_s around_t first.at_source.goes first.at_target.goes moves copies
    (own_added sides.target_tells sides.target t t2 [] around_t whole.at_target.goes whole.at_target.places) refl
    (trees_told job job.page sides report start s sn s2 t now t2 one two around_s around_t roots further.at_source.goes (goes_then now tn t2 third further.at_target.goes) is) got))

-- by the laws of a copy
pub runs_are_told : CallsOfCopy → CopyOfFrozenIsFront → RunsAreTold
runs_are_told calls is_front job s s2 t t2 report ls lt (unbegun begun moves copies) = unbegun_told job s s2 t t2 report ls lt begun moves copies
runs_are_told calls is_front job s s2 t t2 report ls lt (unfetched start sn tn looks later begun got all moves copies) = (
  unmade_calls s s2 t t2 report (fetched_calls job start s sn s2 t tn t2 looks later (Ok start) (Err report.answer) ls lt begun got) moves copies,
  unfetched_within job start s sn s2 t tn t2 report looks later ls lt begun got all moves copies,
)
runs_are_told calls is_front job s s2 t t2 report ls lt (unplanned start sn tn what fault begun got paths answer moves copies) = (
  unmade_calls s s2 t t2 report (fetched_calls job start s sn s2 t tn t2 report.looks [] (Ok start) (Ok what) ls lt begun got) moves copies,
  unplanned_within job start s sn s2 t tn t2 report what fault ls lt begun got paths answer moves copies,
)
runs_are_told calls is_front job s s2 t t2 report ls lt (carried start sn sr tn tr what plan looks later begun got planned does all) = (
  carried_told calls is_front job start s sn sr s2 t tn tr t2 report what plan looks later ls lt begun got planned does,
  carried_within calls is_front job start s sn sr s2 t tn tr t2 report what plan looks later ls lt begun got planned does all,
)
