-- The first steps of a sync.
use Rattle.std.proofs.Common.{◌≡◌, ℕ, Bool, true, false, List, [], ◌∷◌, ◌++◌, Result, Ok, Err, inl, inr, refl, ap, sym, ◌∙◌, subst}
use Rattle.hs_types.specs.declared.ids.Side.{Side}
use Rattle.hs_types.specs.declared.ids.Side.TheVariants.{Source, Target}
use Rattle.hs_types.specs.declared.reply.Line.{Line}
use Rattle.hs_types.specs.declared.call.Call.TheVariants as calls
use Rattle.hs_plain.specs.Answer.{is_ok_reply}
use Rattle.hs_plain.specs.Joined.{lines_shown}
use Rattle.page_join.specs.Links.{Known, IsLawful}
use Rattle.copy_workers.specs.declared.copied.Look.{Look}
use Rattle.distcp_sync.specs.declared.answer.SyncAnswer.{SyncAnswer}
use Rattle.distcp_sync.specs.declared.answer.SyncAnswer.TheVariants as answers
use Rattle.distcp_sync.specs.declared.report.SyncJob.{SyncJob}
use Rattle.distcp_sync.specs.declared.report.SyncReport.{SyncReport}
use Rattle.distcp_sync.specs.declared.start.SyncStart.{SyncStart}
use Rattle.distcp_sync.specs.Told.{ask_of, begun, unchanged_call, root_answer, answer_at, OrNoMemory}
use Rattle.distcp_sync.specs.Steps.{SyncSides, IsHeard, side_at, tells_at, places_in}
use Rattle.distcp_sync.specs.Synced.{EndsUnmade, EndsAtLast, ByChange, AfterThird, Third, AfterSecond, Second, First, HasWorked}
use Rattle.distcp_sync.specs.Around.{IsAround}
use Rattle.distcp_sync.specs.inside.Trace.{IsLooked, IsLookedOk, IsLookedBad, AreRoots, IsBegun, no_first, bad_first, no_second, bad_second, not_begun, no_third, bad_third, changed, begins}
use Rattle.distcp_sync.proofs.Heard.{Goes, goes_self, goes_then, same_goes, call_goes, heard}
use Rattle.distcp_sync.proofs.Did.{Did, did_none, did_same, did_then, did_read}

-- ---- what the calls did

-- the calls at both sides, which left no entry
pub record DidBoth (source source_then target target_then : Known) : Type 0 where
  pub at_source : Did source source_then []
  pub at_target : Did target target_then []

did_snaps : (side : Side) (old new : Known) (path : List ℕ) (look : Look) → IsLooked side old new (calls.Snaps path) look → Did old new []
did_snaps side old new path look looked = did_read side old new (calls.Snaps path) look looked refl refl

did_third : (old new : Known) (start : SyncStart) (look : Look) → IsLooked Target old new (unchanged_call start) look → Did old new []
did_third old new start look looked = did_read Target old new (unchanged_call start) look looked refl refl

pub did_begin : (job : SyncJob) (source source_then target target_then : Known) (looks : List Look) (result : Result SyncStart SyncAnswer) → IsLawful source → IsLawful target →
    IsBegun job source source_then target target_then looks result → DidBoth source source_then target target_then
did_begin job s s2 t t2 looks result ls lt (no_first es et) = record { at_source = did_same s s2 ls es; at_target = did_same t t2 lt et }
did_begin job s s2 t t2 looks result ls lt (bad_first one answer bad et is) = record { at_source = did_snaps Source s s2 job.source_root one bad.looked; at_target = did_same t t2 lt et }
did_begin job s s2 t t2 looks result ls lt (no_second one ok et) = record { at_source = did_snaps Source s s2 job.source_root one ok.looked; at_target = did_same t t2 lt et }
did_begin job s s2 t t2 looks result ls lt (bad_second one two answer ok bad is) = record { at_source = did_snaps Source s s2 job.source_root one ok.looked; at_target = did_snaps Target t t2 job.target_root two bad.looked }
did_begin job s s2 t t2 looks result ls lt (not_begun one two expected answer roots err is) = record { at_source = did_snaps Source s s2 job.source_root one roots.first.looked; at_target = did_snaps Target t t2 job.target_root two roots.second.looked }
did_begin job s s2 t t2 looks result ls lt (no_third one two roots) = record { at_source = did_snaps Source s s2 job.source_root one roots.first.looked; at_target = did_snaps Target t t2 job.target_root two roots.second.looked }
did_begin job s s2 t t2 looks result ls lt (bad_third one two three start now answer roots ok bad is) =
    record { at_source = did_snaps Source s s2 job.source_root one roots.first.looked; at_target = did_then t now t2 [] [] (did_snaps Target t now job.target_root two roots.second.looked) (did_third now t2 start three bad.looked) }
did_begin job s s2 t t2 looks result ls lt (changed one two three start now line more answer roots ok good shown is) =
    record { at_source = did_snaps Source s s2 job.source_root one roots.first.looked; at_target = did_then t now t2 [] [] (did_snaps Target t now job.target_root two roots.second.looked) (did_third now t2 start three good.looked) }
did_begin job s s2 t t2 looks result ls lt (begins one two three start now roots ok good shown) =
    record { at_source = did_snaps Source s s2 job.source_root one roots.first.looked; at_target = did_then t now t2 [] [] (did_snaps Target t now job.target_root two roots.second.looked) (did_third now t2 start three good.looked) }

-- ---- the chain of the first steps

module _ (job : SyncJob) (page : ℕ) (sides : SyncSides) (report : SyncReport) (source source_last target target_last : Known)
    (around_source : IsAround source source_last sides.source_tells sides.source) (around_target : IsAround target target_last sides.target_tells sides.target) where
  -- the first look, and what follows it
  with_first : (now : Known) (one : Look) (looks : List Look) (ok : Bool) → IsLooked Source source now (calls.Snaps job.source_root) one → Goes now source_last → is_ok_reply one.reply.reply ≡ ok →
      Second (ask_of job) page sides report one looks ok → First (ask_of job) page sides report (one ∷ looks)
  with_first now one looks ok looked after is rest = (
    heard sides Source source source now source_last (calls.Snaps job.source_root) one around_source (goes_self source) looked after,
    subst (λ (b : Bool). Second (ask_of job) page sides report one looks b) (sym is) rest,
  )

  -- the second
  with_second : (now : Known) (one two : Look) (looks : List Look) (ok : Bool) → IsLooked Target target now (calls.Snaps job.target_root) two → Goes now target_last → is_ok_reply two.reply.reply ≡ ok →
      AfterSecond (ask_of job) page sides report one two looks ok → Second (ask_of job) page sides report one (two ∷ looks) true
  with_second now one two looks ok looked after is rest = (
    heard sides Target target target now target_last (calls.Snaps job.target_root) two around_target (goes_self target) looked after,
    subst (λ (b : Bool). AfterSecond (ask_of job) page sides report one two looks b) (sym is) rest,
  )

  -- the third
  with_third : (old now : Known) (start : SyncStart) (one two three : Look) (looks : List Look) (ok : Bool) → Goes target old → IsLooked Target old now (unchanged_call start) three → Goes now target_last → is_ok_reply three.reply.reply ≡ ok →
      AfterThird (ask_of job) page sides report start one two three looks ok → Third (ask_of job) page sides report one two (three ∷ looks) (Ok start)
  with_third old now start one two three looks ok before looked after is rest = (
    heard sides Target target old now target_last (unchanged_call start) three around_target before looked after,
    subst (λ (b : Bool). AfterThird (ask_of job) page sides report start one two three looks b) (sym is) rest,
  )

  -- both roots were told
  with_roots : (source_now target_now : Known) (one two : Look) (looks : List Look) (result : Result SyncStart SyncAnswer) → AreRoots job source source_now target target_now one two → Goes source_now source_last → Goes target_now target_last →
      begun (ask_of job) one.reply.reply two.reply.reply ≡ result → Third (ask_of job) page sides report one two looks result → First (ask_of job) page sides report (one ∷ two ∷ looks)
  with_roots source_now target_now one two looks result roots s t is rest =
      with_first source_now one (two ∷ looks) true roots.first.looked s roots.first.ok
      (with_second target_now one two looks true roots.second.looked t roots.second.ok (subst (λ (r : Result SyncStart SyncAnswer). Third (ask_of job) page sides report one two looks r) (sym is) rest))

  -- a target that is unchanged: the sync begins
  pub told_begin : (source_now target_now : Known) (looks later : List Look) (start : SyncStart) → IsBegun job source source_now target target_now looks (Ok start) → Goes source_now source_last → Goes target_now target_last →
      ((now : Known) (one two : Look) → Goes now target_now → AreRoots job source source_now target now one two → begun (ask_of job) one.reply.reply two.reply.reply ≡ Ok start → HasWorked (ask_of job) page sides report start one two later) →
      First (ask_of job) page sides report (looks ++ later)
  told_begin s t looks later start (begins one two three start_is now roots ok good shown) s_goes t_goes worked =
      with_roots s now one two (three ∷ later) (Ok start) roots s_goes (goes_then now t target_last (call_goes now t (unchanged_call start) three.reply good.looked.called) t_goes) ok
      (with_third now t start one two three later true (call_goes target now (calls.Snaps job.target_root) two.reply roots.second.looked.called) good.looked t_goes good.ok
      (subst (λ (ls : List Line). ByChange (ask_of job) page sides report start one two later ls) (sym shown) (worked now one two (call_goes now t (unchanged_call start) three.reply good.looked.called) roots ok)))

  -- ---- a sync that ends in its first steps

  module _ (no_moves : report.moves ≡ []) (no_copies : report.copies ≡ []) (none : places_in sides.target ≡ []) where
    ends : (expected : SyncAnswer) → OrNoMemory expected report.answer → EndsUnmade sides report expected
    ends expected is = record { answer = is; moves = no_moves; copies = no_copies; none = none }

    last : (expected : SyncAnswer) → OrNoMemory expected report.answer → EndsAtLast (ask_of job) page sides report [] expected
    last expected is = record { last = refl; ends = ends expected is }

    pub told_unbegun : (answer : SyncAnswer) (looks : List Look) → answer ≡ report.answer → IsBegun job source source_last target target_last looks (Err answer) → First (ask_of job) page sides report looks
    told_unbegun answer looks same (no_first es et) = ends answers.NoMemory (inl (sym same))
    told_unbegun answer looks same (bad_first one answer_is bad et is) =
        with_first source_last one [] false bad.looked (goes_self source_last) bad.bad (last (root_answer Source one.reply.reply) (subst (OrNoMemory (root_answer Source one.reply.reply)) same is))
    told_unbegun answer looks same (no_second one ok et) = with_first source_last one [] true ok.looked (goes_self source_last) ok.ok (ends answers.NoMemory (inl (sym same)))
    told_unbegun answer looks same (bad_second one two answer_is ok bad is) =
        with_first source_last one (two ∷ []) true ok.looked (goes_self source_last) ok.ok
        (with_second target_last one two [] false bad.looked (goes_self target_last) bad.bad (last (root_answer Target two.reply.reply) (subst (OrNoMemory (root_answer Target two.reply.reply)) same is)))
    told_unbegun answer looks same (not_begun one two expected answer_is roots err is) =
        with_roots source_last target_last one two [] (Err expected) roots (goes_self source_last) (goes_self target_last) err (last expected (subst (OrNoMemory expected) same is))
    told_unbegun answer looks same (no_third one two roots) = no_report one two roots (begun (ask_of job) one.reply.reply two.reply.reply) refl
      where
        no_report : (one two : Look) → AreRoots job source source_last target target_last one two → (result : Result SyncStart SyncAnswer) → begun (ask_of job) one.reply.reply two.reply.reply ≡ result → First (ask_of job) page sides report (one ∷ two ∷ [])
        no_report one two roots (Ok start) is = with_roots source_last target_last one two [] (Ok start) roots (goes_self source_last) (goes_self target_last) is (ends answers.NoMemory (inl (sym same)))
        no_report one two roots (Err expected) is = with_roots source_last target_last one two [] (Err expected) roots (goes_self source_last) (goes_self target_last) is (last expected (inr (sym same)))
    told_unbegun answer looks same (bad_third one two three start now answer_is roots ok bad is) =
        with_roots source_last now one two (three ∷ []) (Ok start) roots (goes_self source_last) (call_goes now target_last (unchanged_call start) three.reply bad.looked.called) ok
        (with_third now target_last start one two three [] false (call_goes target now (calls.Snaps job.target_root) two.reply roots.second.looked.called) bad.looked (goes_self target_last) bad.bad
        (last (answer_at three) (subst (OrNoMemory (answer_at three)) same is)))
    told_unbegun answer looks same (changed one two three start now line more answer_is roots ok good shown is) =
        with_roots source_last now one two (three ∷ []) (Ok start) roots (goes_self source_last) (call_goes now target_last (unchanged_call start) three.reply good.looked.called) ok
        (with_third now target_last start one two three [] true (call_goes target now (calls.Snaps job.target_root) two.reply roots.second.looked.called) good.looked (goes_self target_last) good.ok
        (subst (λ (ls : List Line). ByChange (ask_of job) page sides report start one two [] ls) (sym shown) (last (answers.TargetChanged line) (subst (OrNoMemory (answers.TargetChanged line)) same is))))
