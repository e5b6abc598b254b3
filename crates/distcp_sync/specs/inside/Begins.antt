-- The first calls of a sync, one by one. For proofs and private contracts alone.
use Rattle.std.specs.Prelude.{◌≡◌, ℕ, Bool, true, false, List, [], ◌∷◌, ◌++◌, Option, Some, None, Result, Ok, Err}
use Rattle.hs_types.specs.declared.ids.Side.{Side}
use Rattle.hs_types.specs.declared.ids.Side.TheVariants.{Target}
use Rattle.hs_types.specs.declared.ids.SnapId.{SnapId}
use Rattle.hs_types.specs.declared.call.Call.TheVariants as calls
use Rattle.hs_types.specs.declared.reply.Line.{Line}
use Rattle.hs_types.specs.declared.reply.Reply.{Reply}
use Rattle.hs_types.specs.declared.reply.Reply.TheVariants as replies
use Rattle.hs_plain.specs.Joined.{lines_shown, is_report}
use Rattle.page_join.specs.Links.{Known}
use Rattle.copy_workers.specs.declared.copied.Look.{Look}
use Rattle.distcp_sync.specs.declared.answer.SyncAnswer.{SyncAnswer}
use Rattle.distcp_sync.specs.declared.answer.SyncAnswer.TheVariants as answers
use Rattle.distcp_sync.specs.declared.beginning.Root.{Root}
use Rattle.distcp_sync.specs.declared.report.SyncJob.{SyncJob}
use Rattle.distcp_sync.specs.declared.start.SyncStart.{SyncStart}
use Rattle.distcp_sync.specs.Told.{ask_of, begun, unchanged_call, root_answer, answer_at, OrNoMemory}
use Rattle.distcp_sync.specs.inside.Trace.{IsLooked, AreRoots, IsBegun}

-- ---- outcomes

-- this outcome, where an error may be want of memory instead
abbrev pub Gives : {A : Type 0} → Result A SyncAnswer → Result A SyncAnswer → Type 0
Gives (Ok expected) result = result ≡ Ok expected
Gives (Err expected) (Ok value) = ⊥
Gives (Err expected) (Err answer) = OrNoMemory expected answer

-- the id of a snapshot, or that it isn't there
abbrev pub if_named : Side → List ℕ → Option SnapId → Result SnapId SyncAnswer
if_named side name None = Err (answers.NoSnapshot side name)
if_named side name (Some id) = Ok id

-- no line, or the first one says what was changed
abbrev pub if_unchanged : List Line → Result (Unit {0}) SyncAnswer
if_unchanged [] = Ok tt
if_unchanged (line ∷ lines) = Err (answers.TargetChanged line)

-- ---- a root

-- the snapshots of a root are those of its reply, or the reply says why there are none, or memory ran out
abbrev pub IsRoot : Side → Reply → Result Root SyncAnswer → Type 0
IsRoot side reply (Ok root) = reply ≡ replies.Snaps root.dir root.list
IsRoot side reply (Err answer) = OrNoMemory (root_answer side reply) answer

-- a root was asked for its snapshots, unless memory ran out before the call; the looks are those that were kept
pub data IsAsked (side : Side) (path : List ℕ) (old new : Known) : List Look → Result Root SyncAnswer → Type 0 where
  unasked : new ≡ old → IsAsked side path old new [] (Err answers.NoMemory)
  asked : (look : Look) (result : Result Root SyncAnswer) → IsLooked side old new (calls.Snaps path) look → IsRoot side look.reply.reply result → IsAsked side path old new (look ∷ []) result

-- the reply is put to the looks
pub record IsAskedWith (side : Side) (path : List ℕ) (old new : Known) (before after : List Look) (result : Result Root SyncAnswer) : Type 0 where
  pub later : List Look
  pub looks : after ≡ before ++ later
  pub asked : IsAsked side path old new later result

-- ---- where a sync begins

-- both roots were asked, and tell where the sync begins
pub record IsFound (job : SyncJob) (source source_then target target_then : Known) (looks : List Look) (start : SyncStart) : Type 0 where
  pub one : Look
  pub two : Look
  pub looks_are : looks ≡ one ∷ two ∷ []
  pub roots : AreRoots job source source_then target target_then one two
  pub begins : begun (ask_of job) one.reply.reply two.reply.reply ≡ Ok start

-- where the sync begins, or why it doesn't
abbrev pub IsFoundOrEnded : SyncJob → Known → Known → Known → Known → List Look → Result SyncStart SyncAnswer → Type 0
IsFoundOrEnded job source source_then target target_then looks (Ok start) = IsFound job source source_then target target_then looks start
IsFoundOrEnded job source source_then target target_then looks (Err answer) = IsBegun job source source_then target target_then looks (Err answer)

-- ---- whether the target was changed

-- what the reply about the target's changes tells
abbrev pub if_same : Look → Bool → Result (Unit {0}) SyncAnswer
if_same look true = if_unchanged (lines_shown look.reply.reply)
if_same look false = Err (answer_at look)

-- the target was asked for its changes, unless memory ran out before the call
pub data IsCompared (start : SyncStart) (old new : Known) : List Look → Result (Unit {0}) SyncAnswer → Type 0 where
  uncompared : new ≡ old → IsCompared start old new [] (Err answers.NoMemory)
  compared : (look : Look) (result : Result (Unit {0}) SyncAnswer) → IsLooked Target old new (unchanged_call start) look →
      Gives (if_same look (is_report look.reply.reply)) result → IsCompared start old new (look ∷ []) result

-- the reply is put to the looks
pub record IsComparedWith (start : SyncStart) (old new : Known) (before after : List Look) (result : Result (Unit {0}) SyncAnswer) : Type 0 where
  pub later : List Look
  pub looks : after ≡ before ++ later
  pub compared : IsCompared start old new later result
