-- A sync of whose plan a path passes a limit, or for which there is no memory.
use Rattle.std.proofs.Common.{◌≡◌, ℕ, List, [], Ok, refl, sym, subst, append-nil}
use Rattle.std.specs.Prelude.{slice_get}
use Rattle.hs_types.specs.Names.{Names}
use Rattle.hs_plain.specs.Plan.{plan_of, plan_calls, bad_paths}
use Rattle.hs_plain.specs.Premises.{SyncAsk}
use Rattle.distcp_plan.specs.Laws.{IsOfTheirPaths}
use Rattle.distcp_plan.specs.Limits.{IsPlanFault}
use Rattle.distcp_plan.specs.declared.planning.PlanFault.{PlanFault}
use Rattle.distcp_plan.specs.declared.planning.PlanFault.TheVariants as faults
use Rattle.page_join.specs.Links.{Known, IsLawful}
use Rattle.copy_workers.specs.declared.copied.Copied.{Copied}
use Rattle.copy_workers.specs.declared.copied.Look.{Look}
use Rattle.distcp_sync.specs.declared.fetching.Fetched.{Fetched}
use Rattle.distcp_sync.specs.declared.report.SyncJob.{SyncJob}
use Rattle.distcp_sync.specs.declared.report.SyncReport.{SyncReport}
use Rattle.distcp_sync.specs.declared.start.SyncStart.{SyncStart}
use Rattle.distcp_sync.specs.Told.{ask_of}
use Rattle.distcp_sync.specs.Steps.{SyncSides, places_in, ended_copy}
use Rattle.distcp_sync.specs.Synced.{HasTrees, HasMade, planned, EndsAlone, Ended, HasWorked, First}
use Rattle.distcp_sync.specs.Around.{IsSyncedWithin}
use Rattle.distcp_sync.specs.inside.Trace.{IsBegun, IsFetched, fault_answer}
use Rattle.distcp_sync.proofs.Heard.{goes_then}
use Rattle.distcp_sync.proofs.Spans.{own_added}
use Rattle.distcp_sync.proofs.Begun.{DidBoth, did_begin, told_begin}
use Rattle.distcp_sync.proofs.Unmade.{did_fetch, both_then}
use Rattle.distcp_sync.proofs.Trees.{KnowsTrees, trees_told}
use Rattle.distcp_sync.proofs.Fetches.{none_made}
use Rattle.distcp_sync.proofs.OfTrees.{IsOfTrees, begun_own, fetched_of, members_of}

module _ (ask : SyncAsk) (page : ℕ) (sides : SyncSides) (report : SyncReport) (start : SyncStart) (one two : Look) (trees : HasTrees ask page sides report start one two) where
  -- the fault of the plan is that of its calls
  fault_ends : (fault : PlanFault) (made : HasMade ask page sides report start one two trees) → made.made ≡ [] → report.answer ≡ fault_answer fault →
      IsPlanFault (slice_get (bad_paths (planned ask page sides report start one two trees)) 0) fault → EndsAlone ask page sides report start one two trees made
  fault_ends (faults.PathLimit path) made none told is = EndsAlone.limit path told none is
  fault_ends faults.NoMemory made none told is = EndsAlone.wanting told

  -- it ended the sync before a call was made
  pub by_fault : (fetched : Fetched) (fault : PlanFault) → report.moves ≡ [] → report.copies ≡ [] → places_in sides.target ≡ [] → IsOfTrees ask page sides report start one two trees fetched →
      IsOfTheirPaths fetched.lines fetched.listings fetched.roots ask.target_root fault → report.answer ≡ fault_answer fault → HasWorked ask page sides report start one two []
  by_fault fetched fault moves copies none of paths told =
      let made : HasMade ask page sides report start one two trees = none_made ask page sides report start one two trees moves copies none in
      let is : IsPlanFault (slice_get (bad_paths (planned ask page sides report start one two trees)) 0) fault =
      subst (λ (names : Names). IsPlanFault (slice_get (bad_paths (plan_calls ask.target_root (plan_of trees.from.tree trees.to.tree names) trees.to.tree)) 0) fault) of.names (paths trees.from.tree trees.to.tree of.of_trees) in
      record {
        trees = trees;
        made = made;
        ended = subst (λ (cs : List Copied). Ended ask page sides report start one two trees made [] (ended_copy cs)) (sym copies) (fault_ends fault made refl told is);
      }

-- the whole of such a sync
pub unplanned_within : (job : SyncJob) (start : SyncStart) (source source_now source_then target target_now target_then : Known) (report : SyncReport) (fetched : Fetched) (fault : PlanFault) → IsLawful source → IsLawful target →
    IsBegun job source source_now target target_now report.looks (Ok start) → IsFetched start job.page source_now source_then target_now target_then [] (Ok fetched) →
    IsOfTheirPaths fetched.lines fetched.listings fetched.roots job.target_root fault → report.answer ≡ fault_answer fault → report.moves ≡ [] → report.copies ≡ [] → IsSyncedWithin source source_then target target_then job report
unplanned_within job start s sn s2 t tn t2 report what fault ls lt begun got paths answer moves copies = λ sides around_s around_t.
    let first : DidBoth s sn t tn = did_begin job s sn t tn report.looks (Ok start) ls lt begun in
    let further : DidBoth sn s2 tn t2 = did_fetch start job.page sn s2 tn t2 [] (Ok what) first.at_source.lawful first.at_target.lawful got in
    let whole : DidBoth s s2 t t2 = both_then s sn s2 t tn t2 first further in
    let none : places_in sides.target ≡ [] = own_added sides.target_tells sides.target t t2 [] around_t whole.at_target.goes whole.at_target.places in
    subst (λ (looks : List Look). First (ask_of job) job.page sides report looks) (append-nil report.looks)
    (told_begin job job.page sides report s s2 t t2 around_s around_t sn tn report.looks [] start begun further.at_source.goes further.at_target.goes
    (λ now one two third roots is.
    let knows : KnowsTrees (ask_of job) job.page sides report start sn one two =
    trees_told job job.page sides report start s sn s2 t now t2 one two around_s around_t roots further.at_source.goes (goes_then now tn t2 third further.at_target.goes) is in
    by_fault (ask_of job) job.page sides report start one two knows.trees what fault moves copies none
    (fetched_of job job.page sides report start s sn t now tn t2 one two what around_t roots third further.at_target.goes knows (begun_own job s sn t tn report.looks start begun) (members_of start job.page sn s2 tn t2 what got)) paths answer))
