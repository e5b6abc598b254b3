-- What was fetched is of the trees that a sync works with: the target's snapshot is there still when the fetching begins.
use Rattle.std.proofs.Common.{◌≡◌, ℕ, Bool, true, false, ◌||◌, Ok, List, [], length, take, refl, ap, sym, ◌∙◌}
use Rattle.std.proofs.Math.Seq.{take-length}
use Rattle.hs_types.specs.declared.ids.Side.TheVariants.{Target}
use Rattle.hs_types.specs.declared.call.Call.TheVariants as calls
use Rattle.hs_types.specs.declared.call.ReportCursor.{ReportCursor}
use Rattle.hs_types.specs.declared.journal.Entry.{Entry}
use Rattle.hs_plain.specs.declared.state.Member.{Member}
use Rattle.hs_plain.specs.declared.state.State.{State}
use Rattle.hs_plain.specs.Answer.{answer, is_ok_reply, reply_to}
use Rattle.hs_plain.specs.Files.{plain_files}
use Rattle.hs_plain.specs.Frozen.{unnamed}
use Rattle.hs_plain.specs.Plan.{root_names}
use Rattle.hs_plain.specs.Reading.{is_deleted, is_foreign, has_moved}
use Rattle.hs_plain.specs.Replay.{plain_after}
use Rattle.hs_plain.specs.State.{is_snapshottable, member_with}
use Rattle.hs_plain.specs.Premises.{SyncAsk, now as now_id}
use Rattle.hs_plain.proofs.Paged.{observed, was_there}
use Rattle.hs_plain.proofs.ReportEnds.{OwnEnd, own_end}
use Rattle.hs_plain.proofs.ValidLists.{neither_first}
use Rattle.hs_plain.proofs.ValidShapes.{true_false}
use Rattle.hs_plain.proofs.Validity.{valid-replay}
use Rattle.distcp_plan.specs.Laws.{AreOfTrees}
use Rattle.page_join.specs.Links.{Known}
use Rattle.sync_laws.specs.Shown.{IsSnapshotOf, report_start}
use Rattle.sync_laws.proofs.Shown.{report_by}
use Rattle.copy_workers.specs.declared.copied.Look.{Look}
use Rattle.distcp_sync.specs.declared.fetching.Fetched.{Fetched}
use Rattle.distcp_sync.specs.declared.report.SyncJob.{SyncJob}
use Rattle.distcp_sync.specs.declared.report.SyncReport.{SyncReport}
use Rattle.distcp_sync.specs.declared.start.SyncStart.{SyncStart}
use Rattle.distcp_sync.specs.Told.{ask_of, unchanged_call}
use Rattle.distcp_sync.specs.Steps.{SyncSides}
use Rattle.distcp_sync.specs.Synced.{HasTrees}
use Rattle.distcp_sync.specs.Around.{IsAround}
use Rattle.distcp_sync.specs.inside.Trace.{AreRoots, IsBegun, begins, IsFetched, IsOfMembers}
use Rattle.distcp_sync.proofs.Heard.{Goes, goes_then, front_length}
use Rattle.distcp_sync.proofs.Replied.{ok-blanked}
use Rattle.distcp_sync.proofs.Shown.{IsShown, shown, front_seen, state_seen, told_live, not_zero, IsBegunBy, begun_by}
use Rattle.distcp_sync.proofs.Trees.{KnowsTrees}

-- ---- the target's snapshot is there still

-- a report that is told is of the directory's own snapshot
own_first : (state : State (List ℕ)) (cursor : ReportCursor) (size : ℕ) → is_ok_reply (answer state (calls.ReportNext cursor size)) ≡ true → is_foreign state cursor.root cursor.from ≡ false
own_first state cursor size ok =
    neither_first (is_foreign state cursor.root cursor.from) (is_foreign state cursor.root cursor.to)
    (by (is_deleted state cursor.from || is_deleted state cursor.to) (is_snapshottable state cursor.root) (is_foreign state cursor.root cursor.from || is_foreign state cursor.root cursor.to) (has_moved state cursor) ok)
  where
    by : (gone listed foreign moved : Bool) → is_ok_reply (reply_to (report_by state cursor size gone listed foreign moved)) ≡ true → foreign ≡ false
    by true listed foreign moved ok = absurd (true_false ok refl)
    by false false foreign moved ok = absurd (true_false ok refl)
    by false true true moved ok = absurd (true_false ok refl)
    by false true false moved ok = refl

-- where a sync begins, the target's directory has its snapshot
pub begun_own : (job : SyncJob) (source source_then target target_then : Known) (looks : List Look) (start : SyncStart) → IsBegun job source source_then target target_then looks (Ok start) → OwnEnd (plain_after target_then.seen) start.target start.base
begun_own job s sn t tn looks start (begins one two three start_is now roots is third lines) =
    let by : IsBegunBy (ask_of job) one.reply.reply two.reply.reply start = begun_by (ask_of job) one.reply.reply two.reply.reply start is in
    let at_two : IsShown t.tells now (calls.Snaps job.target_root) two = shown Target t now (calls.Snaps job.target_root) two refl roots.second in
    let base : IsSnapshotOf (plain_after now.seen) start.target start.base = told_live t.tells now job.target_root two start.target by.target_items job.from start.base (valid-replay plain_files now.seen) at_two by.target_is by.base_is in
    let at_three : IsShown now.tells tn (unchanged_call start) three = shown Target now tn (unchanged_call start) three refl third in
    let state : State (List ℕ) = plain_after tn.seen in
    own_end state start.target start.base (valid-replay plain_files tn.seen) (not_zero (plain_after now.seen) (valid-replay plain_files now.seen) start.base base.member base.live)
    (own_first state (report_start start.target start.base now_id) 1 (sym (observed is_ok_reply ok-blanked now.tells three.reply.reply (answer state (unchanged_call start)) at_three.same) ∙ third.ok))

-- ---- what was fetched

-- what was fetched is of the trees
pub record IsOfTrees (ask : SyncAsk) (page : ℕ) (sides : SyncSides) (report : SyncReport) (start : SyncStart) (one two : Look) (trees : HasTrees ask page sides report start one two) (fetched : Fetched) : Type 0 where
  pub of_trees : AreOfTrees fetched.lines fetched.listings fetched.roots trees.from.tree trees.to.tree
  pub names : fetched.roots.target ≡ root_names trees.base.tree

pub fetched_of : (job : SyncJob) (page : ℕ) (sides : SyncSides) (report : SyncReport) (start : SyncStart) (source source_now target target_now target_begun target_last : Known) (one two : Look) (fetched : Fetched) →
    IsAround target target_last sides.target_tells sides.target → AreRoots job source source_now target target_now one two → Goes target_now target_begun → Goes target_begun target_last →
    (knows : KnowsTrees (ask_of job) page sides report start source_now one two) → OwnEnd (plain_after target_begun.seen) start.target start.base → IsOfMembers start source_now target_begun fetched →
    IsOfTrees (ask_of job) page sides report start one two knows.trees fetched
fetched_of job page sides report start s sn t now tn t2 one two fetched around roots third later knows own of =
    let at_two : IsShown t.tells now (calls.Snaps job.target_root) two = shown Target t now (calls.Snaps job.target_root) two refl roots.second in
    let here_two : take two.reply.position sides.target.journal ≡ now.seen = state_seen t now t2 sides.target_tells sides.target two around (goes_then now tn t2 third later) at_two.place in
    let was : member_with (plain_after (take (length now.seen) tn.seen)).members start.base ≡ Ok knows.trees.base =
    ap (λ (seen : List Entry). member_with (plain_after seen).members start.base) (front_seen now.seen tn.seen (length now.seen) third.grown refl ∙ sym here_two) ∙ knows.trees.base_is in
    let still : member_with (plain_after (take (length tn.seen) tn.seen)).members start.base ≡ Ok own.member =
    ap (λ (seen : List Entry). member_with (plain_after seen).members start.base) (take-length tn.seen) ∙ own.found in
    let same : unnamed knows.trees.base ≡ unnamed own.member = was_there tn.seen (length now.seen) (length tn.seen) start.base knows.trees.base own.member (front_length now.seen tn.seen third.grown) was still in
    let got : AreOfTrees fetched.lines fetched.listings fetched.roots knows.trees.from.tree knows.trees.to.tree × (fetched.roots.target ≡ root_names own.member.tree) =
    of knows.trees.from knows.trees.to own.member (record { from_is = knows.from_seen; to_is = knows.to_seen; base_is = own.found }) knows.pair knows.from_of knows.to_of
    (ap (λ (m : Member (List ℕ)). m.directory) (sym same) ∙ knows.base_of) in
    record {
      of_trees = got.0;
      names = got.1 ∙ ap (λ (m : Member (List ℕ)). root_names m.tree) (sym same);
    }

-- it is all that was fetched
pub members_of : (start : SyncStart) (page : ℕ) (source source_then target target_then : Known) (what : Fetched) → IsFetched start page source source_then target target_then [] (Ok what) → IsOfMembers start source target what
members_of start page s s2 t t2 what (IsFetched.fetched what_is rs rt of) = of
