-- What a sync works with, as both roots told it.
use Rattle.std.proofs.Common.{◌≡◌, ℕ, Ok, List, refl, ap, sym, ◌∙◌}
use Rattle.hs_types.specs.declared.ids.InodeId.{InodeId}
use Rattle.hs_types.specs.declared.ids.Side.TheVariants.{Source, Target}
use Rattle.hs_types.specs.declared.call.Call.TheVariants as calls
use Rattle.hs_types.specs.declared.journal.Entry.{Entry}
use Rattle.hs_plain.specs.declared.state.State.{State}
use Rattle.hs_plain.specs.Files.{plain_files}
use Rattle.hs_plain.specs.State.{member_with}
use Rattle.hs_plain.specs.Premises.{SyncAsk}
use Rattle.hs_plain.specs.Replay.{plain_after}
use Rattle.hs_plain.specs.Valid.{IsValid}
use Rattle.hs_plain.proofs.ValidLists.{contains-in}
use Rattle.hs_plain.proofs.Validity.{valid-replay}
use Rattle.hs_plain.proofs.SteadyStamps.{steady_stamps-replay}
use Rattle.plan_laws.specs.Pair.{IsPair}
use Rattle.plan_laws.proofs.Pairs.{members-pair}
use Rattle.sync_laws.specs.Shown.{IsSnapshotOf}
use Rattle.sync_laws.proofs.Snapshots.{with-so}
use Rattle.page_join.specs.Links.{Known}
use Rattle.copy_workers.specs.declared.copied.Look.{Look}
use Rattle.distcp_sync.specs.declared.report.SyncJob.{SyncJob}
use Rattle.distcp_sync.specs.declared.report.SyncReport.{SyncReport}
use Rattle.distcp_sync.specs.declared.start.SyncStart.{SyncStart}
use Rattle.distcp_sync.specs.Told.{ask_of, begun}
use Rattle.distcp_sync.specs.Steps.{SyncSides}
use Rattle.distcp_sync.specs.Synced.{IsNewDir, HasTrees}
use Rattle.distcp_sync.specs.Around.{IsAround}
use Rattle.distcp_sync.specs.inside.Trace.{AreRoots, IsListedDir}
use Rattle.distcp_sync.proofs.Heard.{Goes}
use Rattle.distcp_sync.proofs.Shown.{IsShown, shown, state_seen, told_live, IsBegunBy, begun_by}

-- the copied trees of both roots' directories, and that the directories that are listed are new in them
pub record KnowsTrees (ask : SyncAsk) (page : ℕ) (sides : SyncSides) (report : SyncReport) (start : SyncStart) (source : Known) (one two : Look) : Type 0 where
  pub trees : HasTrees ask page sides report start one two
  pub listed : (dir : InodeId) → IsListedDir start source dir → IsNewDir trees.from.tree trees.to.tree dir
  -- the source's are of one directory, in the state that its link has seen
  pub from_seen : member_with (plain_after source.seen).members start.from ≡ Ok trees.from
  pub to_seen : member_with (plain_after source.seen).members start.to ≡ Ok trees.to
  pub from_of : trees.from.directory ≡ start.source
  pub to_of : trees.to.directory ≡ start.source
  pub base_of : trees.base.directory ≡ start.target
  pub pair : IsPair trees.from.tree trees.to.tree

-- two snapshots of one directory in a state that was replayed
pub pair_of : (journal : List Entry) (dir : InodeId) (start : SyncStart) → (from : IsSnapshotOf (plain_after journal) dir start.from) (to : IsSnapshotOf (plain_after journal) dir start.to) → IsPair from.member.tree to.member.tree
pair_of journal dir start from to =
    let state : State (List ℕ) = plain_after journal in
    (members-pair state (valid-replay plain_files journal) (steady_stamps-replay plain_files journal) from.member to.member
    (contains-in state.members from.member (with-so state.members start.from from.member from.live).0)
    (contains-in state.members to.member (with-so state.members start.to to.member to.live).0) (from.own ∙ sym to.own)).0

abbrev pub TreesTold : Type 0
TreesTold = (job : SyncJob) (page : ℕ) (sides : SyncSides) (report : SyncReport) (start : SyncStart) (source source_now source_last target target_now target_last : Known) (one two : Look) →
    IsAround source source_last sides.source_tells sides.source → IsAround target target_last sides.target_tells sides.target →
    AreRoots job source source_now target target_now one two → Goes source_now source_last → Goes target_now target_last → begun (ask_of job) one.reply.reply two.reply.reply ≡ Ok start →
    KnowsTrees (ask_of job) page sides report start source_now one two

-- the replies' states are those that the links have seen
pub trees_told : TreesTold
trees_told job page sides report start s sn s2 t tn t2 one two around_s around_t roots gs gt is =
    let by : IsBegunBy (ask_of job) one.reply.reply two.reply.reply start = begun_by (ask_of job) one.reply.reply two.reply.reply start is in
    let at_s : IsShown s.tells sn (calls.Snaps job.source_root) one = shown Source s sn (calls.Snaps job.source_root) one refl roots.first in
    let at_t : IsShown t.tells tn (calls.Snaps job.target_root) two = shown Target t tn (calls.Snaps job.target_root) two refl roots.second in
    let valid_s : IsValid (plain_after sn.seen) = valid-replay plain_files sn.seen in
    let valid_t : IsValid (plain_after tn.seen) = valid-replay plain_files tn.seen in
    let from : IsSnapshotOf (plain_after sn.seen) start.source start.from = told_live s.tells sn job.source_root one start.source by.source_items job.from start.from valid_s at_s by.source_is by.from_is in
    let to : IsSnapshotOf (plain_after sn.seen) start.source start.to = told_live s.tells sn job.source_root one start.source by.source_items job.to start.to valid_s at_s by.source_is by.to_is in
    let base : IsSnapshotOf (plain_after tn.seen) start.target start.base = told_live t.tells tn job.target_root two start.target by.target_items job.from start.base valid_t at_t by.target_is by.base_is in
    let pair : IsPair from.member.tree to.member.tree = pair_of sn.seen start.source start from to in
    let here_s = state_seen s sn s2 sides.source_tells sides.source one around_s gs at_s.place in
    let here_t = state_seen t tn t2 sides.target_tells sides.target two around_t gt at_t.place in
    record {
      trees = record {
        from = from.member;
        to = to.member;
        base = base.member;
        from_is = ap (λ (seen : List Entry). member_with (plain_after seen).members start.from) here_s ∙ from.live;
        to_is = ap (λ (seen : List Entry). member_with (plain_after seen).members start.to) here_s ∙ to.live;
        base_is = ap (λ (seen : List Entry). member_with (plain_after seen).members start.base) here_t ∙ base.live;
      };
      listed = λ dir new. new from.member to.member from.live to.live pair from.own to.own;
      from_seen = from.live;
      to_seen = to.live;
      from_of = from.own;
      to_of = to.own;
      base_of = base.own;
      pair = pair;
    }
