-- Calls of a plan, with what is named and looked at before and after them. For proofs and private contracts alone.
use Rattle.std.specs.Prelude.{◌≡◌, ℕ, ◌+◌, true, false, List, [], ◌∷◌, ◌++◌, length, Option, Some, None, Result, Ok, Err}
use Rattle.hs_types.specs.declared.ids.CallerId.{CallerId}
use Rattle.hs_types.specs.declared.ids.Side.TheVariants.{Target}
use Rattle.hs_types.specs.declared.ids.SnapId.{SnapId}
use Rattle.hs_types.specs.declared.call.Call.{Call}
use Rattle.hs_types.specs.declared.reply.Answered.{Answered}
use Rattle.hs_plain.specs.declared.plan.CopyJob.{CopyJob}
use Rattle.hs_plain.specs.Answer.{is_ok_reply}
use Rattle.page_join.specs.Links.{Known}
use Rattle.copy_workers.specs.declared.copied.Made.{Made}
use Rattle.copy_workers.specs.declared.copied.Look.{Look}
use Rattle.copy_workers.specs.declared.copied.Copied.{Copied}
use Rattle.copy_workers.specs.Calls.{look_at}
use Rattle.distcp_sync.specs.declared.answer.SyncAnswer.{SyncAnswer}
use Rattle.distcp_sync.specs.Told.{answer_at, OrNoMemory}
use Rattle.distcp_sync.specs.inside.Trace.{AreTried, AreCopied}

-- calls were tried: what they made comes behind what was made before, and what ended them behind what was looked at before
pub record IsTried (old new : Known) (planned : List Call) (before after : List Made) (looked looks : List Look) (result : Result (Unit {0}) SyncAnswer) : Type 0 where
  pub added : List Made
  pub later : List Look
  pub made : after ≡ before ++ added
  pub looks_are : looks ≡ looked ++ later
  pub tried : AreTried old new planned added later result

-- a reply to a call at the target: an Ok reply leaves nothing, and any other is put to the looks
abbrev pub IsNoted : CallerId → Answered → List Look → List Look → Result (Unit {0}) SyncAnswer → Type 0
IsNoted caller told looked looks (Ok done) = (is_ok_reply told.reply ≡ true) × (looks ≡ looked)
IsNoted caller told looked looks (Err answer) = (is_ok_reply told.reply ≡ false) × (looks ≡ looked ++ look_at Target caller told ∷ []) × OrNoMemory (answer_at (look_at Target caller told)) answer

-- the first of some calls were done, and these are left
pub record IsDoneUpTo (old new : Known) (whole left : List Call) (before after : List Made) (looked looks : List Look) : Type 0 where
  pub front : List Call
  pub all : whole ≡ front ++ left
  pub tried : IsTried old new front before after looked looks (Ok tt)

-- how copies end: by the reply that ended the last one, if one did
abbrev pub EndsBy : Option Look → Result (Unit {0}) SyncAnswer → Type 0
EndsBy None result = result ≡ Ok tt
EndsBy (Some look) (Ok done) = ⊥
EndsBy (Some look) (Err answer) = OrNoMemory (answer_at look) answer

-- jobs were copied, and their copies come behind those of before
pub record AreCopiedWith (snap : SnapId) (root : List ℕ) (number : ℕ) (jobs : List CopyJob) (source source_then target target_then : Known) (before after : List Copied) (result : Result (Unit {0}) SyncAnswer) : Type 0 where
  pub more : List Copied
  pub ended : Option Look
  pub copies_are : after ≡ before ++ more
  pub copied : AreCopied snap root number jobs source source_then target target_then more ended
  pub ends : EndsBy ended result

-- the first of some jobs were copied whole, and these are left from this number on
pub record AreCopiedUpTo (snap : SnapId) (root : List ℕ) (first number : ℕ) (whole left : List CopyJob) (source source_then target target_then : Known) (before after : List Copied) : Type 0 where
  pub front : List CopyJob
  pub all : whole ≡ front ++ left
  pub counted : number ≡ first + length front
  pub more : List Copied
  pub copies_are : after ≡ before ++ more
  pub copied : AreCopied snap root first front source source_then target target_then more None
