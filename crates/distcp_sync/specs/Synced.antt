-- What a sync did, as its report tells it and both journals show: each answer has its cause.
use Rattle.std.specs.Prelude.{◌≡◌, ◌≢◌, ◌⊎◌, ⊤, ℕ, ◌≤◌, Bool, true, false, List, [], ◌∷◌, ◌++◌, ◌+◌, length, map, slice_get, Option, Some, None, Result, Ok, Err}
use Rattle.hs_types.specs.declared.ids.InodeId.{InodeId}
use Rattle.hs_types.specs.declared.ids.Side.{Side}
use Rattle.hs_types.specs.declared.ids.Side.TheVariants.{Source, Target}
use Rattle.hs_types.specs.declared.call.Call.{Call}
use Rattle.hs_types.specs.declared.call.Call.TheVariants as calls
use Rattle.hs_types.specs.declared.call.Place.TheVariants as places
use Rattle.hs_types.specs.declared.call.ReportCursor.{ReportCursor}
use Rattle.hs_types.specs.declared.journal.Entry.{Entry}
use Rattle.hs_types.specs.declared.reply.Line.{Line}
use Rattle.hs_types.specs.Names.{Names}
use Rattle.hs_plain.specs.declared.state.Node.{Node}
use Rattle.hs_plain.specs.declared.state.Member.{Member}
use Rattle.hs_plain.specs.declared.plan.CopyJob.{CopyJob}
use Rattle.hs_plain.specs.Tree.{Tree, is_dir, place_of}
use Rattle.hs_plain.specs.State.{member_with}
use Rattle.hs_plain.specs.Answer.{is_ok_reply}
use Rattle.hs_plain.specs.Joined.{lines_shown}
use Rattle.hs_plain.specs.Legal.{reach_of}
use Rattle.hs_plain.specs.Premises.{SyncAsk}
use Rattle.hs_plain.specs.Plan.{plan_calls, bad_paths}
use Rattle.copy_workers.specs.Calls.{wanting_of}
use Rattle.copy_workers.specs.declared.copied.Made.{Made}
use Rattle.copy_workers.specs.declared.copied.Look.{Look}
use Rattle.copy_workers.specs.declared.copied.Copied.{Copied}
use Rattle.distcp_sync.specs.declared.answer.SyncAnswer.{SyncAnswer}
use Rattle.distcp_sync.specs.declared.answer.SyncAnswer.TheVariants as answers
use Rattle.distcp_sync.specs.declared.report.SyncReport.{SyncReport}
use Rattle.distcp_sync.specs.declared.start.SyncStart.{SyncStart}
use Rattle.distcp_sync.specs.Told.{begun, unchanged_call, root_answer, answer_at, OrNoMemory}
use Rattle.distcp_sync.specs.Steps.{SyncSides, IsHeard, state_at, AreAllMade, AreEntries, places_in, plan_between, IsNext, AreFaulted, AreFirst, ended_copy, are_numbered, up_to_last}

-- a directory of the source's `to` that isn't in its `from`
pub record IsNewDir (from to : Tree (List ℕ)) (dir : InodeId) : Type 0 where
  pub path : Names
  pub node : Node (List ℕ)
  pub there : place_of to dir ≡ Some (path, node)
  pub directory : is_dir node ≡ true
  pub new : place_of from dir ≡ None

-- a sync ended before it made a call of its plan
pub record EndsUnmade (sides : SyncSides) (report : SyncReport) (expected : SyncAnswer) : Type 0 where
  pub answer : OrNoMemory expected report.answer
  pub moves : report.moves ≡ []
  pub copies : report.copies ≡ []
  pub none : places_in sides.target ≡ []

module _ (ask : SyncAsk) (page : ℕ) (sides : SyncSides) (report : SyncReport) where
  -- ---- behind the replies of the first steps

  -- what a sync works with: the source's copied trees of `from` and `to` and the target's of `from`, by the ids that it was told
  pub record HasTrees (start : SyncStart) (one two : Look) : Type 0 where
    pub from : Member (List ℕ)
    pub to : Member (List ℕ)
    pub base : Member (List ℕ)
    pub from_is : member_with (state_at sides.source one).members start.from ≡ Ok from
    pub to_is : member_with (state_at sides.source one).members start.to ≡ Ok to
    pub base_is : member_with (state_at sides.target two).members start.base ≡ Ok base

  abbrev pub planned : (start : SyncStart) (one two : Look) → HasTrees start one two → List Call
  planned start one two trees = plan_calls ask.target_root (plan_between trees.from trees.to trees.base) trees.to.tree

  abbrev pub jobs : (start : SyncStart) (one two : Look) → HasTrees start one two → List CopyJob
  jobs start one two trees = (plan_between trees.from trees.to trees.base).copies

  -- the calls that a sync made are the first of its plan's, and its entries are theirs
  pub record HasMade (start : SyncStart) (one two : Look) (trees : HasTrees start one two) : Type 0 where
    pub made : List Made
    pub all : AreAllMade report made
    pub accepted : List Entry
    pub faulted : List Entry
    pub entries : AreEntries sides.target.journal sides.target.span.low made (accepted ++ faulted)
    -- the target has no other entry of the sync's callers in the span
    pub own : places_in sides.target ≡ map (λ one. one.position) made
    pub rest : List Call
    pub first : AreFirst sides.source_tells (planned start one two trees) accepted rest
    pub left : AreFaulted sides.source_tells rest faulted
    -- no call is made where a path of the plan's calls passes a limit
    pub within : made ≢ [] → bad_paths (planned start one two trees) ≡ []
    pub copies : are_numbered 0 report.copies ≡ true

  -- the reply that ended a sync, and that is no copy's: of a page of the source's report, of a listing, or of the next call of the plan, behind all that was made
  pub data IsLastLook (start : SyncStart) (one two : Look) (trees : HasTrees start one two) (made : HasMade start one two trees) (look : Look) : Type 0 where
    lines : (cursor : ReportCursor) → cursor.root ≡ start.source → cursor.from ≡ start.from → cursor.to ≡ start.to → made.made ≡ [] →
        IsHeard sides Source (calls.ReportNext cursor page) look → IsLastLook start one two trees made look
    names : (after : Option (List ℕ)) → made.made ≡ [] →
        IsHeard sides Target (calls.ListNext (record { place = places.Frozen start.target start.base; after = after }) page) look → IsLastLook start one two trees made look
    items : (dir : InodeId) (after : Option (List ℕ)) → (dir ≡ start.source) ⊎ IsNewDir trees.from.tree trees.to.tree dir → made.made ≡ [] →
        IsHeard sides Source (calls.ListNext (record { place = places.Frozen dir start.to; after = after }) page) look → IsLastLook start one two trees made look
    moved : (call : Call) → bad_paths (planned start one two trees) ≡ [] → IsNext sides.source_tells made.rest call → up_to_last made.made ≤ look.reply.position →
        IsHeard sides Target call look → IsLastLook start one two trees made look

  -- what ended the copies: want of memory for a call that wasn't made, a read of the file of the last job, or the next call of the plan, which knows all that was made, a fault's own entry too
  pub data IsCopyLook (start : SyncStart) (one two : Look) (trees : HasTrees start one two) (made : HasMade start one two trees) (look : Look) : Type 0 where
    by_memory : look ≡ wanting_of look.side look.caller → IsCopyLook start one two trees made look
    by_read : (number offset : ℕ) (job : CopyJob) → slice_get (jobs start one two trees) number ≡ Some job → length report.copies ≡ number + 1 →
        IsHeard sides Source (calls.ReadNext (record { place = places.Frozen job.id start.to; offset = offset }) 65536) look → IsCopyLook start one two trees made look
    by_write : (call : Call) → IsNext sides.source_tells made.rest call → up_to_last made.made ≤ reach_of call look.reply → IsHeard sides Target call look → IsCopyLook start one two trees made look

  -- a sync that no reply ended
  pub data EndsAlone (start : SyncStart) (one two : Look) (trees : HasTrees start one two) (made : HasMade start one two trees) : Type 0 where
    -- all calls of the plan were accepted, the one behind the copies too
    done : (deleted : Made) → made.all.last ≡ deleted ∷ [] → report.answer ≡ answers.Done → made.rest ≡ [] → made.faulted ≡ [] → length report.copies ≡ length (jobs start one two trees) → EndsAlone start one two trees made
    -- the first path of the plan's calls that passes a limit
    limit : (path : List ℕ) → report.answer ≡ answers.PathLimit path → made.made ≡ [] → slice_get (bad_paths (planned start one two trees)) 0 ≡ Some path → EndsAlone start one two trees made
    wanting : report.answer ≡ answers.NoMemory → EndsAlone start one two trees made

  -- the answer is that of the reply that ended the sync, or of the copy that ended badly
  abbrev pub Ended : (start : SyncStart) (one two : Look) (trees : HasTrees start one two) → HasMade start one two trees → List Look → Option Look → Type 0
  Ended start one two trees made [] None = EndsAlone start one two trees made
  Ended start one two trees made [] (Some look) = IsCopyLook start one two trees made look × (is_ok_reply look.reply.reply ≡ false) × OrNoMemory (answer_at look) report.answer
  Ended start one two trees made (look ∷ []) None = IsLastLook start one two trees made look × (is_ok_reply look.reply.reply ≡ false) × OrNoMemory (answer_at look) report.answer
  Ended start one two trees made looks ended = ⊥

  -- behind the first steps, with a target that is unchanged since its `from`
  pub record HasWorked (start : SyncStart) (one two : Look) (looks : List Look) : Type 0 where
    pub trees : HasTrees start one two
    pub made : HasMade start one two trees
    pub ended : Ended start one two trees made looks (ended_copy report.copies)

  -- ---- the first steps

  -- a reply that is no Ok reply, or that leaves nothing to do, was the last
  pub record EndsAtLast (looks : List Look) (expected : SyncAnswer) : Type 0 where
    pub last : looks ≡ []
    pub ends : EndsUnmade sides report expected

  -- a target that was changed since its `from` is left as it is
  abbrev pub ByChange : SyncStart → Look → Look → List Look → List Line → Type 0
  ByChange start one two looks [] = HasWorked start one two looks
  ByChange start one two looks (line ∷ others) = EndsAtLast looks (answers.TargetChanged line)

  abbrev pub AfterThird : SyncStart → Look → Look → Look → List Look → Bool → Type 0
  AfterThird start one two three looks true = ByChange start one two looks (lines_shown three.reply.reply)
  AfterThird start one two three looks false = EndsAtLast looks (answer_at three)

  -- the target's report from its `from` to now
  abbrev pub Third : Look → Look → List Look → Result SyncStart SyncAnswer → Type 0
  Third one two looks (Err answer) = EndsAtLast looks answer
  Third one two [] (Ok start) = EndsUnmade sides report answers.NoMemory
  Third one two (three ∷ looks) (Ok start) = IsHeard sides Target (unchanged_call start) three × AfterThird start one two three looks (is_ok_reply three.reply.reply)

  abbrev pub AfterSecond : Look → Look → List Look → Bool → Type 0
  AfterSecond one two looks true = Third one two looks (begun ask one.reply.reply two.reply.reply)
  AfterSecond one two looks false = EndsAtLast looks (root_answer Target two.reply.reply)

  -- the snapshots of the target's root
  abbrev pub Second : Look → List Look → Bool → Type 0
  Second one looks false = EndsAtLast looks (root_answer Source one.reply.reply)
  Second one [] true = EndsUnmade sides report answers.NoMemory
  Second one (two ∷ looks) true = IsHeard sides Target (calls.Snaps ask.target_root) two × AfterSecond one two looks (is_ok_reply two.reply.reply)

  -- the snapshots of the source's root come first
  abbrev pub First : List Look → Type 0
  First [] = EndsUnmade sides report answers.NoMemory
  First (one ∷ looks) = IsHeard sides Source (calls.Snaps ask.source_root) one × Second one looks (is_ok_reply one.reply.reply)

  -- a sync did what its report tells
  abbrev pub IsSynced : Type 0
  IsSynced = First report.looks
