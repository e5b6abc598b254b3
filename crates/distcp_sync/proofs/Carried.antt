-- A sync that made calls of its plan.
use Rattle.std.proofs.Common.{◌≡◌, ◌⊎◌, inl, inr, true, None, Ok, List, [], ◌∷◌, ◌++◌, length, refl, ap, sym, ◌∙◌, subst}
use Rattle.std.specs.List.{AllByRecursion}
use Rattle.hs_types.specs.Names.{Names}
use Rattle.hs_plain.specs.declared.plan.Plan.{Plan}
use Rattle.hs_plain.specs.Plan.{plan_of, plan_calls, bad_paths}
use Rattle.page_join.specs.Links.{Known, IsLawful}
use Rattle.copy_workers.specs.CopyLaws.{CallsOfCopy, CopyOfFrozenIsFront}
use Rattle.copy_workers.specs.declared.copied.Made.{Made}
use Rattle.copy_workers.specs.declared.copied.Look.{Look}
use Rattle.distcp_sync.specs.declared.fetching.Fetched.{Fetched}
use Rattle.distcp_sync.specs.declared.report.SyncJob.{SyncJob}
use Rattle.distcp_sync.specs.declared.report.SyncReport.{SyncReport}
use Rattle.distcp_sync.specs.declared.start.SyncStart.{SyncStart}
use Rattle.distcp_sync.specs.Told.{ask_of}
use Rattle.distcp_sync.specs.Steps.{SyncSides, plan_between, ended_copy, are_numbered}
use Rattle.distcp_sync.specs.Synced.{HasTrees, planned, Ended, HasWorked, First}
use Rattle.distcp_sync.specs.Calls.{AreSyncCalls}
use Rattle.distcp_sync.specs.Around.{IsAround, IsSyncedWithin}
use Rattle.distcp_sync.specs.inside.Trace.{IsBegun, IsFetched, IsPlanned, IsCarried}
use Rattle.distcp_sync.proofs.Heard.{Goes, goes_self, goes_then, made_goes}
use Rattle.distcp_sync.proofs.Begun.{DidBoth, did_begin, told_begin}
use Rattle.distcp_sync.proofs.Unmade.{did_fetch, both_then}
use Rattle.distcp_sync.proofs.Trees.{KnowsTrees, trees_told}
use Rattle.distcp_sync.proofs.OfTrees.{IsOfTrees, begun_own, fetched_of, members_of}
use Rattle.distcp_sync.proofs.Firsts.{Modifies}
use Rattle.distcp_sync.proofs.CopyChain.{AreFiles}
use Rattle.distcp_sync.proofs.Written.{calls_with, AreSomeWritten, AreAllWritten, written, carried_numbered, carried_did}
use Rattle.distcp_sync.proofs.WrittenCalls.{IsEvery, every, carried_calls}
use Rattle.distcp_sync.proofs.WrittenMade.{plan_modifies, IsMadeSo, made_so}
use Rattle.distcp_sync.proofs.WrittenEnds.{ended_so, ended_all}
use Rattle.distcp_sync.proofs.PlanFiles.{bytes_in, files}

-- ---- in the journals around it

module _ (told : CallsOfCopy) (is_front : CopyOfFrozenIsFront) (job : SyncJob) (sides : SyncSides) (report : SyncReport) (start : SyncStart)
    (source source_now source_read source_then target target_read target_then : Known) (one two : Look) (trees : HasTrees (ask_of job) job.page sides report start one two) (looks : List Look)
    (around_source : IsAround source source_then sides.source_tells sides.source) (around_target : IsAround target target_then sides.target_tells sides.target)
    (both : DidBoth source source_read target target_read) (reading : Goes source_now source_read)
    (copied : AreFiles start.to (bytes_in trees.to.tree) source_now (plan_between trees.from trees.to trees.base).copies) (within : bad_paths (planned (ask_of job) job.page sides report start one two trees) ≡ [])
    (does : IsCarried start job.target_root (plan_between trees.from trees.to trees.base) source_read source_then target_read target_then report.moves report.copies looks report.answer) where
  abbrev theirs : Plan
  theirs = plan_between trees.from trees.to trees.base

  abbrev Files : Type 0
  Files = AreFiles start.to (bytes_in trees.to.tree) source_now theirs.copies

  modify : AllByRecursion Modifies (planned (ask_of job) job.page sides report start one two trees)
  modify = plan_modifies job.target_root theirs (bytes_in trees.to.tree)

  numbered : are_numbered 0 report.copies ≡ true
  numbered = carried_numbered start job.target_root theirs source_read source_then target_read target_then report.moves report.copies looks report.answer does

  by_some : AreSomeWritten start job.target_root theirs sides.source_tells (bytes_in trees.to.tree) source_now source_read source_then target_read target_then report.moves report.copies looks report.answer →
      HasWorked (ask_of job) job.page sides report start one two looks
  by_some some =
      let nothing : Type 0 = (some.wrote.wants copied).rest ≡ [] in
      let so : IsMadeSo (ask_of job) job.page sides report start one two trees some.failed some.last (length target_then.seen) nothing =
      made_so (ask_of job) job.page sides report start one two trees Files source source_read source_then target target_read target_then both around_target some.before some.last some.failed some.moves_are modify some.wrote some.bad_last copied numbered within in
      record {
        trees = trees;
        made = so.made;
        ended =
            ended_so (ask_of job) job.page sides report start one two trees source source_read source_then target target_read target_then around_source around_target both.at_source.goes both.at_target.goes some.failed some.last nothing so within
            looks report.answer some.failed refl refl some.ended;
      }

  by_all : AreAllWritten start job.target_root theirs sides.source_tells (bytes_in trees.to.tree) source_now source_read source_then target_read target_then report.moves report.copies looks report.answer →
      HasWorked (ask_of job) job.page sides report start one two looks
  by_all all =
      let last : List Made = all.deleted ∷ [] in
      let whole : IsEvery Files sides.source_tells (calls_with job.target_root theirs (bytes_in trees.to.tree)) target_read target_then _ = every Files sides.source_tells (calls_with job.target_root theirs (bytes_in trees.to.tree)) target_read target_then _ all.wrote in
      let nothing : Type 0 = (whole.wrote.wants copied).rest ≡ [] in
      let so : IsMadeSo (ask_of job) job.page sides report start one two trees None last (length target_then.seen) nothing =
      made_so (ask_of job) job.page sides report start one two trees Files source source_read source_then target target_read target_then both around_target all.before last None all.moves_are modify whole.wrote tt copied numbered within in
      record {
        trees = trees;
        made = so.made;
        ended =
            subst (λ (l : List Look). Ended (ask_of job) job.page sides report start one two trees so.made l (ended_copy report.copies)) (sym all.no_looks)
            (ended_all (ask_of job) job.page sides report start one two trees source source_read source_then target target_read target_then around_source around_target both.at_source.goes both.at_target.goes None last nothing so within
            all.deleted refl refl (whole.none copied) all.is_done all.none_ended all.count);
      }

  worked : HasWorked (ask_of job) job.page sides report start one two looks
  worked =
      by (written told is_front start job.target_root theirs sides.source_tells (bytes_in trees.to.tree) source_now source_read source_then target_read target_then
      (around_source.tells_is ∙ sym both.at_source.goes.tells) reading report.moves report.copies looks report.answer does)
    where
      by : AreSomeWritten start job.target_root theirs sides.source_tells (bytes_in trees.to.tree) source_now source_read source_then target_read target_then report.moves report.copies looks report.answer
          ⊎ AreAllWritten start job.target_root theirs sides.source_tells (bytes_in trees.to.tree) source_now source_read source_then target_read target_then report.moves report.copies looks report.answer →
          HasWorked (ask_of job) job.page sides report start one two looks
      by (inl some) = by_some some
      by (inr all) = by_all all

-- the plan is that of the trees, and no path of its calls passes a limit
record IsPlanOf (job : SyncJob) (sides : SyncSides) (report : SyncReport) (start : SyncStart) (one two : Look) (trees : HasTrees (ask_of job) job.page sides report start one two) (plan : Plan) : Type 0 where
  same : plan ≡ plan_between trees.from trees.to trees.base
  within : bad_paths (planned (ask_of job) job.page sides report start one two trees) ≡ []

plan_is : (job : SyncJob) (sides : SyncSides) (report : SyncReport) (start : SyncStart) (one two : Look) (trees : HasTrees (ask_of job) job.page sides report start one two) (fetched : Fetched) (plan : Plan) →
    IsOfTrees (ask_of job) job.page sides report start one two trees fetched → IsPlanned job.target_root fetched plan → IsPlanOf job sides report start one two trees plan
plan_is job sides report start one two trees fetched plan of planned_is = record {
  same = planned_is.theirs trees.from.tree trees.to.tree of.of_trees ∙ ap (plan_of trees.from.tree trees.to.tree) of.names;
  within =
      subst (λ (names : Names). bad_paths (plan_calls job.target_root (plan_of trees.from.tree trees.to.tree names) trees.to.tree) ≡ []) of.names
      (planned_is.within trees.from.tree trees.to.tree of.of_trees);
}

-- ---- the whole

module _ (told : CallsOfCopy) (is_front : CopyOfFrozenIsFront) (job : SyncJob) (start : SyncStart) (source source_now source_read source_then target target_now target_read target_then : Known) (report : SyncReport)
    (fetched : Fetched) (plan : Plan) (looks later : List Look) (lawful_source : IsLawful source) (lawful_target : IsLawful target)
    (begun : IsBegun job source source_now target target_now looks (Ok start)) (got : IsFetched start job.page source_now source_read target_now target_read [] (Ok fetched))
    (planned_is : IsPlanned job.target_root fetched plan) (does : IsCarried start job.target_root plan source_read source_then target_read target_then report.moves report.copies later report.answer) where
  first : DidBoth source source_now target target_now
  first = did_begin job source source_now target target_now looks (Ok start) lawful_source lawful_target begun

  further : DidBoth source_now source_read target_now target_read
  further = did_fetch start job.page source_now source_read target_now target_read [] (Ok fetched) first.at_source.lawful first.at_target.lawful got

  both : DidBoth source source_read target target_read
  both = both_then source source_now source_read target target_now target_read first further

  -- the calls of such a sync
  pub carried_told : AreSyncCalls source source_then target target_then report
  carried_told = carried_calls source source_read source_then target target_read target_then report both told is_front start job.target_root plan later does

  -- the last calls go on from what was fetched
  source_goes : Goes source_read source_then
  source_goes = (carried_did told start job.target_root plan source_read source_then target_read target_then report.moves report.copies later report.answer both.at_source.lawful does).goes

  target_goes : Goes target_read target_then
  target_goes = by (written told is_front start job.target_root plan source_read.tells (λ job. []) source_read source_read source_then target_read target_then refl (goes_self source_read) report.moves report.copies later report.answer does)
    where
      by : AreSomeWritten start job.target_root plan source_read.tells (λ job. []) source_read source_read source_then target_read target_then report.moves report.copies later report.answer
          ⊎ AreAllWritten start job.target_root plan source_read.tells (λ job. []) source_read source_read source_then target_read target_then report.moves report.copies later report.answer → Goes target_read target_then
      by (inl some) = made_goes target_read target_then _ some.wrote.wrote
      by (inr all) = made_goes target_read target_then _ all.wrote.wrote

  -- the same of an equal plan
  carried_as : (one other : Plan) → one ≡ other → IsCarried start job.target_root one source_read source_then target_read target_then report.moves report.copies later report.answer →
      IsCarried start job.target_root other source_read source_then target_read target_then report.moves report.copies later report.answer
  carried_as one other same carries = subst (λ (p : Plan). IsCarried start job.target_root p source_read source_then target_read target_then report.moves report.copies later report.answer) same carries

  -- and in all journals around both links
  pub carried_within : report.looks ≡ looks ++ later → IsSyncedWithin source source_then target target_then job report
  carried_within all = λ sides around_source around_target.
      subst (λ (l : List Look). First (ask_of job) job.page sides report l) (sym all)
      (told_begin job job.page sides report source source_then target target_then around_source around_target source_now target_now looks later start begun
      (goes_then source_now source_read source_then further.at_source.goes source_goes) (goes_then target_now target_read target_then further.at_target.goes target_goes)
      (λ now one two third roots is.
      let last_source : Goes source_now source_then = goes_then source_now source_read source_then further.at_source.goes source_goes in
      let last_target : Goes target_now target_then = goes_then target_now target_read target_then further.at_target.goes target_goes in
      let knows : KnowsTrees (ask_of job) job.page sides report start source_now one two =
      trees_told job job.page sides report start source source_now source_then target now target_then one two around_source around_target roots last_source (goes_then now target_now target_then third last_target) is in
      let of : IsOfTrees (ask_of job) job.page sides report start one two knows.trees fetched =
      fetched_of job job.page sides report start source source_now target now target_now target_then one two fetched around_target roots third last_target knows
      (begun_own job source source_now target target_now looks start begun) (members_of start job.page source_now source_read target_now target_read fetched got) in
      let so : IsPlanOf job sides report start one two knows.trees plan = plan_is job sides report start one two knows.trees fetched plan of planned_is in
      worked told is_front job sides report start source source_now source_read source_then target target_read target_then one two knows.trees later around_source around_target both further.at_source.goes
      (files start.to source_now knows.trees.to knows.trees.from.tree knows.to_seen knows.pair.to_tree.each_once) so.within
      (carried_as plan (plan_between knows.trees.from knows.trees.to knows.trees.base) so.same does)))
