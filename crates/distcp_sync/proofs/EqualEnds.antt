-- A sync that is done: its answer is that of no reply.
use Rattle.std.proofs.Common.{◌≡◌, inl, inr, ℕ, Bool, true, false, Option, Some, None, refl, ap, ◌∙◌}
use Rattle.hs_types.specs.declared.ids.Side.{Side}
use Rattle.hs_types.specs.declared.call.Call.{Call}
use Rattle.hs_types.specs.declared.refusal.Refusal.{Refusal}
use Rattle.hs_types.specs.declared.refusal.Refusal.TheVariants as refusals
use Rattle.hs_types.specs.declared.reply.Answered.{Answered}
use Rattle.hs_types.specs.declared.reply.Reply.{Reply}
use Rattle.hs_types.specs.declared.reply.Reply.TheVariants as replies
use Rattle.hs_plain.proofs.ValidShapes.{true_false}
use Rattle.copy_workers.specs.declared.copied.Look.{Look}
use Rattle.distcp_sync.specs.declared.answer.SyncAnswer.{SyncAnswer}
use Rattle.distcp_sync.specs.declared.answer.SyncAnswer.TheVariants as answers
use Rattle.distcp_sync.specs.Told.{root_answer, refused_answer, refusal_answer, answer_by, answer_at, OrNoMemory}

-- whether an answer says that a sync is done
abbrev pub is_done : SyncAnswer → Bool
is_done answers.Done = true
is_done answer = false

-- another answer, or that memory ran out, is not that of a sync that is done
pub not-done : (expected answer : SyncAnswer) → is_done expected ≡ false → OrNoMemory expected answer → answer ≡ answers.Done → ⊥
not-done expected answer other (inl so) done = true_false (ap is_done done) (ap is_done so ∙ other)
not-done expected answer other (inr so) done = true_false (ap is_done done) (ap is_done so)

-- a call that is handed back doesn't make a sync done
refused-other : (back : Option Call) (why : Refusal) (position : ℕ) → is_done (refused_answer back why position) ≡ false
refused-other None why position = refl
refused-other (Some call) why position = refl

-- nor does a refusal
refusal-other : (side : Side) (told : Answered) (why : Refusal) → is_done (refusal_answer side told why) ≡ false
refusal-other side told refusals.Gone = refl
refusal-other side told refusals.StoreFault = refl
refusal-other side told refusals.JournalFull = refl
refusal-other side told why = refused-other told.back why told.position

-- nor any reply
by-other : (side : Side) (told : Answered) (reply : Reply) → is_done (answer_by side told reply) ≡ false
by-other side told (replies.Refused why) = refusal-other side told why
by-other side told reply = refl

-- no reply makes a sync done
pub look-other : (look : Look) → is_done (answer_at look) ≡ false
look-other look = by-other look.side look.reply look.reply.reply

-- nor does one about a root
pub root-other : (side : Side) (reply : Reply) → is_done (root_answer side reply) ≡ false
root-other side (replies.Refused why) = refl
root-other side reply = refl
