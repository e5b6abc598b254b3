-- The way of a sync's code, step by step, over what its two links know. For proofs and private contracts alone.
use Rattle.std.specs.Prelude.{◌≡◌, ⊤, ℕ, ◌+◌, true, false, List, [], ◌∷◌, ◌++◌, map, Option, Some, None, Result, Ok, Err}
use Rattle.std.specs.List.{filter_map, AllByRecursion}
use Rattle.std.specs.Option.{option_to_list}
use Rattle.hs_types.specs.declared.ids.InodeId.{InodeId}
use Rattle.hs_types.specs.declared.ids.Side.{Side}
use Rattle.hs_types.specs.declared.ids.Side.TheVariants.{Source, Target}
use Rattle.hs_types.specs.declared.ids.SnapId.{SnapId}
use Rattle.hs_types.specs.declared.call.Call.{Call}
use Rattle.hs_types.specs.declared.call.Call.TheVariants as calls
use Rattle.hs_types.specs.declared.call.Place.TheVariants as places
use Rattle.hs_types.specs.declared.call.ReportCursor.{ReportCursor}
use Rattle.hs_types.specs.declared.reply.Line.{Line}
use Rattle.hs_plain.specs.declared.state.Member.{Member}
use Rattle.hs_plain.specs.declared.plan.CopyJob.{CopyJob}
use Rattle.hs_plain.specs.declared.plan.Listing.{Listing}
use Rattle.hs_plain.specs.declared.plan.Plan.{Plan}
use Rattle.hs_plain.specs.declared.plan.RootNames.{RootNames}
use Rattle.hs_plain.specs.State.{member_with}
use Rattle.hs_plain.specs.Answer.{is_ok_reply}
use Rattle.hs_plain.specs.Joined.{lines_shown}
use Rattle.hs_plain.specs.Legal.{Said, leaves_entry}
use Rattle.hs_plain.specs.Replay.{plain_after}
use Rattle.hs_plain.specs.Plan.{move_calls, last_call, root_names}
use Rattle.plan_laws.specs.Pair.{IsPair}
use Rattle.page_join.specs.Links.{Known, IsCall, said_by}
use Rattle.page_join.specs.Made.{AreMade}
use Rattle.distcp_plan.specs.Laws.{AreOfTrees, IsTheirPlan, HasNoBadPath, IsOfTheirPaths}
use Rattle.distcp_plan.specs.declared.planning.PlanFault.{PlanFault}
use Rattle.distcp_plan.specs.declared.planning.PlanFault.TheVariants as faults
use Rattle.copy_workers.specs.Calls.{made_by, look_at, EndsAt}
use Rattle.copy_workers.specs.Copying.{IsCopy}
use Rattle.copy_workers.specs.declared.copied.Made.{Made}
use Rattle.copy_workers.specs.declared.copied.Look.{Look}
use Rattle.copy_workers.specs.declared.copied.Copied.{Copied}
use Rattle.distcp_sync.specs.declared.answer.SyncAnswer.{SyncAnswer}
use Rattle.distcp_sync.specs.declared.answer.SyncAnswer.TheVariants as answers
use Rattle.distcp_sync.specs.declared.fetching.Fetched.{Fetched}
use Rattle.distcp_sync.specs.declared.report.SyncJob.{SyncJob}
use Rattle.distcp_sync.specs.declared.report.SyncReport.{SyncReport}
use Rattle.distcp_sync.specs.declared.start.SyncStart.{SyncStart}
use Rattle.distcp_sync.specs.Told.{ask_of, begun, unchanged_call, root_answer, answer_at, OrNoMemory}
use Rattle.distcp_sync.specs.Steps.{ended_copy}
use Rattle.distcp_sync.specs.Synced.{IsNewDir}

-- ---- one call that is looked at

-- a call was made, and this is its reply
pub record IsLooked (side : Side) (old new : Known) (call : Call) (look : Look) : Type 0 where
  pub look_is : look ≡ look_at side old.caller look.reply
  pub called : IsCall old new call look.reply

-- it was done
pub record IsLookedOk (side : Side) (old new : Known) (call : Call) (look : Look) : Type 0 where
  pub looked : IsLooked side old new call look
  pub ok : is_ok_reply look.reply.reply ≡ true

-- it was not
pub record IsLookedBad (side : Side) (old new : Known) (call : Call) (look : Look) : Type 0 where
  pub looked : IsLooked side old new call look
  pub bad : is_ok_reply look.reply.reply ≡ false

-- ---- the first steps: both roots, and whether the target was changed

-- the snapshots of both roots were told
pub record AreRoots (job : SyncJob) (source source_then target target_then : Known) (one two : Look) : Type 0 where
  pub first : IsLookedOk Source source source_then (calls.Snaps job.source_root) one
  pub second : IsLookedOk Target target target_then (calls.Snaps job.target_root) two

-- the first steps, up to where they ended or the sync begins; the looks are all that were kept
pub data IsBegun (job : SyncJob) (source source_then target target_then : Known) : List Look → Result SyncStart SyncAnswer → Type 0 where
  no_first : source_then ≡ source → target_then ≡ target → IsBegun job source source_then target target_then [] (Err answers.NoMemory)
  bad_first : (one : Look) (answer : SyncAnswer) → IsLookedBad Source source source_then (calls.Snaps job.source_root) one → target_then ≡ target →
      OrNoMemory (root_answer Source one.reply.reply) answer → IsBegun job source source_then target target_then (one ∷ []) (Err answer)
  no_second : (one : Look) → IsLookedOk Source source source_then (calls.Snaps job.source_root) one → target_then ≡ target → IsBegun job source source_then target target_then (one ∷ []) (Err answers.NoMemory)
  bad_second : (one two : Look) (answer : SyncAnswer) → IsLookedOk Source source source_then (calls.Snaps job.source_root) one → IsLookedBad Target target target_then (calls.Snaps job.target_root) two →
      OrNoMemory (root_answer Target two.reply.reply) answer → IsBegun job source source_then target target_then (one ∷ two ∷ []) (Err answer)
  not_begun : (one two : Look) (expected answer : SyncAnswer) → AreRoots job source source_then target target_then one two → begun (ask_of job) one.reply.reply two.reply.reply ≡ Err expected →
      OrNoMemory expected answer → IsBegun job source source_then target target_then (one ∷ two ∷ []) (Err answer)
  no_third : (one two : Look) → AreRoots job source source_then target target_then one two → IsBegun job source source_then target target_then (one ∷ two ∷ []) (Err answers.NoMemory)
  bad_third : (one two three : Look) (start : SyncStart) (now : Known) (answer : SyncAnswer) → AreRoots job source source_then target now one two → begun (ask_of job) one.reply.reply two.reply.reply ≡ Ok start →
      IsLookedBad Target now target_then (unchanged_call start) three → OrNoMemory (answer_at three) answer → IsBegun job source source_then target target_then (one ∷ two ∷ three ∷ []) (Err answer)
  changed : (one two three : Look) (start : SyncStart) (now : Known) (line : Line) (more : List Line) (answer : SyncAnswer) → AreRoots job source source_then target now one two → begun (ask_of job) one.reply.reply two.reply.reply ≡ Ok start →
      IsLookedOk Target now target_then (unchanged_call start) three → lines_shown three.reply.reply ≡ line ∷ more → OrNoMemory (answers.TargetChanged line) answer →
      IsBegun job source source_then target target_then (one ∷ two ∷ three ∷ []) (Err answer)
  begins : (one two three : Look) (start : SyncStart) (now : Known) → AreRoots job source source_then target now one two → begun (ask_of job) one.reply.reply two.reply.reply ≡ Ok start →
      IsLookedOk Target now target_then (unchanged_call start) three → lines_shown three.reply.reply ≡ [] → IsBegun job source source_then target target_then (one ∷ two ∷ three ∷ []) (Ok start)

-- ---- report and listings

-- calls without an entry
pub record AreUnentered (old new : Known) (calls : List Said) : Type 0 where
  pub made : AreMade old new calls
  pub unentered : AllByRecursion (λ said. leaves_entry said.call said.told.reply ≡ false) calls

-- a link made some calls that left no entry
pub record HasRead (old new : Known) : Type 0 where
  pub calls : List Said
  pub read : AreUnentered old new calls

-- the three copied trees, by the histories that the links had seen
pub record AreMembers (start : SyncStart) (source target : Known) (from to base : Member (List ℕ)) : Type 0 where
  pub from_is : member_with (plain_after source.seen).members start.from ≡ Ok from
  pub to_is : member_with (plain_after source.seen).members start.to ≡ Ok to
  pub base_is : member_with (plain_after target.seen).members start.base ≡ Ok base

-- what was fetched is the report of the source's copied trees, the listings of their new directories, and the names in both roots
abbrev pub IsOfMembers : SyncStart → Known → Known → Fetched → Type 0
IsOfMembers start source target fetched = (from to base : Member (List ℕ)) → AreMembers start source target from to base → IsPair from.tree to.tree → from.directory ≡ start.source → to.directory ≡ start.source → base.directory ≡ start.target →
    AreOfTrees fetched.lines fetched.listings fetched.roots from.tree to.tree × (fetched.roots.target ≡ root_names base.tree)

-- a directory whose listing was asked for
abbrev pub IsListedDir : SyncStart → Known → InodeId → Type 0
IsListedDir start source dir = (from to : Member (List ℕ)) → member_with (plain_after source.seen).members start.from ≡ Ok from → member_with (plain_after source.seen).members start.to ≡ Ok to →
    IsPair from.tree to.tree → from.directory ≡ start.source → to.directory ≡ start.source → IsNewDir from.tree to.tree dir

-- the call whose reply ended the fetching
pub data IsFetchCall (start : SyncStart) (page : ℕ) (source : Known) : Side → Call → Type 0 where
  lines : (cursor : ReportCursor) → cursor.root ≡ start.source → cursor.from ≡ start.from → cursor.to ≡ start.to → IsFetchCall start page source Source (calls.ReportNext cursor page)
  names : (after : Option (List ℕ)) → IsFetchCall start page source Target (calls.ListNext (record { place = places.Frozen start.target start.base; after = after }) page)
  root : (after : Option (List ℕ)) → IsFetchCall start page source Source (calls.ListNext (record { place = places.Frozen start.source start.to; after = after }) page)
  items : (dir : InodeId) (after : Option (List ℕ)) → IsListedDir start source dir → IsFetchCall start page source Source (calls.ListNext (record { place = places.Frozen dir start.to; after = after }) page)

-- all was fetched, or a reply or want of memory ended it
pub data IsFetched (start : SyncStart) (page : ℕ) (source source_then target target_then : Known) : List Look → Result Fetched SyncAnswer → Type 0 where
  fetched : (fetched : Fetched) → HasRead source source_then → HasRead target target_then → IsOfMembers start source target fetched → IsFetched start page source source_then target target_then [] (Ok fetched)
  wanting : HasRead source source_then → HasRead target target_then → IsFetched start page source source_then target target_then [] (Err answers.NoMemory)
  at_source : (call : Call) (look : Look) (now : Known) (answer : SyncAnswer) → HasRead source now → HasRead target target_then → IsFetchCall start page source Source call → IsLookedBad Source now source_then call look →
      OrNoMemory (answer_at look) answer → IsFetched start page source source_then target target_then (look ∷ []) (Err answer)
  at_target : (call : Call) (look : Look) (now : Known) (answer : SyncAnswer) → HasRead source source_then → HasRead target now → IsFetchCall start page source Target call → IsLookedBad Target now target_then call look →
      OrNoMemory (answer_at look) answer → IsFetched start page source source_then target target_then (look ∷ []) (Err answer)

-- the reply that ended the fetching is put to the looks
pub record IsFetchedWith (start : SyncStart) (page : ℕ) (source source_then target target_then : Known) (before after : List Look) (result : Result Fetched SyncAnswer) : Type 0 where
  pub later : List Look
  pub looks : after ≡ before ++ later
  pub fetched : IsFetched start page source source_then target target_then later result

-- ---- the calls of the plan

-- these calls were made at the target and done, and their entries are named
pub record AreDone (old new : Known) (planned : List Call) (made : List Made) : Type 0 where
  pub said : List Said
  pub written : AreMade old new said
  pub calls_are : map (λ one. one.call) said ≡ planned
  pub ok : AllByRecursion (λ one. is_ok_reply one.told.reply ≡ true) said
  pub named : made ≡ filter_map (made_by old.caller) said

-- the next call ended the sync: by its reply, or by want of memory before it
pub data StopsAt (old new : Known) (call : Call) (before : List Made) : List Made → List Look → SyncAnswer → Type 0 where
  by_reply : (look : Look) (answer : SyncAnswer) → IsLookedBad Target old new call look → OrNoMemory (answer_at look) answer →
      StopsAt old new call before (before ++ option_to_list (made_by old.caller (said_by new call look.reply))) (look ∷ []) answer
  by_memory : new ≡ old → StopsAt old new call before before [] answers.NoMemory

-- these calls were done, or the first of them and then one ended the sync
pub data AreTried (old new : Known) (planned : List Call) : List Made → List Look → Result (Unit {0}) SyncAnswer → Type 0 where
  all : (made : List Made) → AreDone old new planned made → AreTried old new planned made [] (Ok tt)
  some : (front rest : List Call) (call : Call) (now : Known) (before made : List Made) (looks : List Look) (answer : SyncAnswer) → planned ≡ front ++ call ∷ rest → AreDone old now front before →
      StopsAt now new call before made looks answer → AreTried old new planned made looks (Err answer)

-- copies of the jobs, from a number on: all are whole, or the last that was begun ended early
pub data AreCopied (snap : SnapId) (root : List ℕ) : ℕ → List CopyJob → Known → Known → Known → Known → List Copied → Option Look → Type 0 where
  all : (number : ℕ) (source target : Known) → AreCopied snap root number [] source source target target [] None
  ends : (number : ℕ) (job : CopyJob) (jobs : List CopyJob) (source source_then target target_then : Known) (copied : Copied) (look : Look) →
      IsCopy number job snap root source source_then target target_then copied → copied.ended ≡ Some look → AreCopied snap root number (job ∷ jobs) source source_then target target_then (copied ∷ []) (Some look)
  next : (number : ℕ) (job : CopyJob) (jobs : List CopyJob) (source source_now source_then target target_now target_then : Known) (copied : Copied) (more : List Copied) (ended : Option Look) →
      IsCopy number job snap root source source_now target target_now copied → copied.ended ≡ None → AreCopied snap root (number + 1) jobs source_now source_then target_now target_then more ended →
      AreCopied snap root number (job ∷ jobs) source source_then target target_then (copied ∷ more) ended

-- the calls of a plan, up to the one that ended the sync; the moves are named in their order, the last one behind the copies
pub data IsCarried (start : SyncStart) (root : List ℕ) (plan : Plan) (source source_then target target_then : Known) : List Made → List Copied → List Look → SyncAnswer → Type 0 where
  moving : (made : List Made) (looks : List Look) (answer : SyncAnswer) → AreTried target target_then (move_calls root plan) made looks (Err answer) → source_then ≡ source →
      IsCarried start root plan source source_then target target_then made [] looks answer
  no_copies : (made : List Made) → AreDone target target_then (move_calls root plan) made → source_then ≡ source → IsCarried start root plan source source_then target target_then made [] [] answers.NoMemory
  copying : (now : Known) (made : List Made) (copies : List Copied) (look : Look) (answer : SyncAnswer) → AreDone target now (move_calls root plan) made →
      AreCopied start.to root 0 plan.copies source source_then now target_then copies (Some look) → OrNoMemory (answer_at look) answer → IsCarried start root plan source source_then target target_then made copies [] answer
  deleting : (now then : Known) (made last : List Made) (copies : List Copied) (looks : List Look) (answer : SyncAnswer) → AreDone target now (move_calls root plan) made →
      AreCopied start.to root 0 plan.copies source source_then now then copies None → AreTried then target_then (last_call root plan ∷ []) last looks (Err answer) →
      IsCarried start root plan source source_then target target_then (made ++ last) copies looks answer
  done : (now then : Known) (made last : List Made) (copies : List Copied) → AreDone target now (move_calls root plan) made →
      AreCopied start.to root 0 plan.copies source source_then now then copies None → AreDone then target_then (last_call root plan ∷ []) last →
      IsCarried start root plan source source_then target target_then (made ++ last) copies [] answers.Done

-- ---- the whole

-- a plan that was made of what was fetched, with no path that passes a limit
pub record IsPlanned (root : List ℕ) (fetched : Fetched) (plan : Plan) : Type 0 where
  pub theirs : IsTheirPlan fetched.lines fetched.listings fetched.roots plan
  pub within : HasNoBadPath fetched.lines fetched.listings fetched.roots root

-- why there is no plan
abbrev pub fault_answer : PlanFault → SyncAnswer
fault_answer (faults.PathLimit path) = answers.PathLimit path
fault_answer faults.NoMemory = answers.NoMemory

-- what a sync's code did
pub data IsRun (job : SyncJob) (source source_then target target_then : Known) (report : SyncReport) : Type 0 where
  unbegun : IsBegun job source source_then target target_then report.looks (Err report.answer) → report.moves ≡ [] → report.copies ≡ [] → IsRun job source source_then target target_then report
  unfetched : (start : SyncStart) (source_now target_now : Known) (looks later : List Look) → IsBegun job source source_now target target_now looks (Ok start) →
      IsFetched start job.page source_now source_then target_now target_then later (Err report.answer) → report.looks ≡ looks ++ later → report.moves ≡ [] → report.copies ≡ [] → IsRun job source source_then target target_then report
  unplanned : (start : SyncStart) (source_now target_now : Known) (fetched : Fetched) (fault : PlanFault) → IsBegun job source source_now target target_now report.looks (Ok start) →
      IsFetched start job.page source_now source_then target_now target_then [] (Ok fetched) → IsOfTheirPaths fetched.lines fetched.listings fetched.roots job.target_root fault → report.answer ≡ fault_answer fault →
      report.moves ≡ [] → report.copies ≡ [] → IsRun job source source_then target target_then report
  carried : (start : SyncStart) (source_now source_read target_now target_read : Known) (fetched : Fetched) (plan : Plan) (looks later : List Look) → IsBegun job source source_now target target_now looks (Ok start) →
      IsFetched start job.page source_now source_read target_now target_read [] (Ok fetched) → IsPlanned job.target_root fetched plan →
      IsCarried start job.target_root plan source_read source_then target_read target_then report.moves report.copies later report.answer → report.looks ≡ looks ++ later → IsRun job source source_then target target_then report
