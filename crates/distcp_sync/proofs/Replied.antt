-- One reply that a sync kept, where no fault is met and no journal comes to its limit: what the plain machine does, or NoMemory.
use Rattle.std.proofs.Common.{◌≡◌, ◌⊎◌, inl, inr, cond, ℕ, ◌+◌, ◌<◌, ◌≤◌, Bool, true, false, refl, ap, ◌∙◌, arith}
use Rattle.std.specs.Prelude.{◌&&◌, ◌||◌}
use Rattle.hs_types.specs.declared.ids.Side.{Side}
use Rattle.hs_types.specs.declared.call.Call.{Call}
use Rattle.hs_types.specs.declared.journal.EntryKind.TheVariants.{Accepted, Faulted}
use Rattle.hs_types.specs.declared.refusal.Refusal.{Refusal}
use Rattle.hs_types.specs.declared.refusal.Refusal.TheVariants as refusals
use Rattle.hs_types.specs.declared.reply.Reply.{Reply}
use Rattle.hs_types.specs.declared.reply.Reply.TheVariants as replies
use Rattle.hs_plain.specs.Answer.{Origin, machine, store, limit, memory, origin_of, origin_of_refusal, is_machine, is_store, is_limit, answer, is_ok_reply, is_store_fault, is_modifying, blanked, claimed}
use Rattle.hs_plain.specs.Change.{is_accepted}
use Rattle.hs_plain.specs.Joined.{lines_shown}
use Rattle.hs_plain.specs.Legal.{entry_of, reach_of}
use Rattle.hs_plain.specs.Premises.{MeetsNoFault, SyncSide}
use Rattle.hs_plain.proofs.Paged.{observed}
use Rattle.hs_plain.proofs.ValidShapes.{true_false}
use Rattle.sync_laws.specs.Lasting.{IsWithin}
use Rattle.copy_workers.specs.declared.copied.Look.{Look}
use Rattle.distcp_sync.specs.declared.answer.SyncAnswer.TheVariants as answers
use Rattle.distcp_sync.specs.Told.{answer_at}
use Rattle.distcp_sync.specs.Steps.{SyncSides, side_at, tells_at, state_at, IsHeard}

-- one side meets no fault, and its journal doesn't come to its limit
pub record IsFree (side : SyncSide) : Type 0 where
  pub faultless : MeetsNoFault side.journal side.span side.callers
  pub room : side.span.high < side.limit

no_memory_is : (reply : Reply) → origin_of reply ≡ memory → reply ≡ replies.NoMemory
no_memory_is replies.NoMemory e = refl
no_memory_is (replies.Refused why) e = absurd (other why e)
  where
    other : (why : Refusal) → origin_of_refusal why ≡ memory → ⊥
    other refusals.StoreFault e = cc
    other refusals.JournalFull e = cc
    other why e = cc
no_memory_is reply e = absurd (cc)

pub ok-blanked : (reply : Reply) → is_ok_reply (blanked reply) ≡ is_ok_reply reply
ok-blanked (replies.Made id) = refl
ok-blanked replies.Done = refl
ok-blanked (replies.SnapMade id) = refl
ok-blanked (replies.Bytes bytes next) = refl
ok-blanked (replies.Stat id is_dir mode stamp size) = refl
ok-blanked (replies.Page items next) = refl
ok-blanked (replies.Snaps dir list) = refl
ok-blanked (replies.Dirs list) = refl
ok-blanked (replies.Report lines next) = refl
ok-blanked (replies.Refused why) = refl
ok-blanked replies.NoMemory = refl

fault-accepted : (b : Bool) → b ≡ true → is_accepted (cond b Faulted Accepted) ≡ false
fault-accepted true e = refl
fault-accepted false e = absurd (true_false e refl)

behind : (position : ℕ) (left : Bool) → position ≤ position + cond left 1 0
behind position true = omega arith
behind position false = omega arith

-- its place is in the span
pub heard-within : (sides : SyncSides) (side : Side) (call : Call) (look : Look) → IsHeard sides side call look → IsWithin (side_at sides side).span look.reply.position
heard-within sides side call look heard =
    let up_to : reach_of call look.reply ≤ (side_at sides side).span.high = heard.to in
    let above : look.reply.position ≤ reach_of call look.reply = behind look.reply.position (is_store_fault look.reply.reply || (is_modifying call && is_ok_reply look.reply.reply)) in
    record { from = heard.from; up_to = omega (arith, up_to, above) }

-- the lines of a report are told, whether bytes are told or not
lines-blanked : (reply : Reply) → lines_shown (blanked reply) ≡ lines_shown reply
lines-blanked (replies.Report lines next) = refl
lines-blanked reply = refl

module _ (sides : SyncSides) (side : Side) (call : Call) (look : Look) (heard : IsHeard sides side call look) (free : IsFree (side_at sides side)) where
  -- no fault of the store
  no-fault : is_store_fault look.reply.reply ≡ true → ⊥
  no-fault fault =
      let left : (is_store_fault look.reply.reply || (is_modifying call && is_ok_reply look.reply.reply)) ≡ true = ap (λ b. b || (is_modifying call && is_ok_reply look.reply.reply)) fault in
      let reach : reach_of call look.reply ≡ look.reply.position + 1 = ap (λ b. look.reply.position + cond b 1 0) left in
      let up_to : reach_of call look.reply ≤ (side_at sides side).span.high = heard.to in
      true_false (free.faultless look.reply.position (entry_of look.caller heard.seq call look.reply.reply) (record { from = heard.from; below = omega (arith, reach, up_to); there = heard.legal.entered left }) heard.of_caller)
      (fault-accepted (is_store_fault look.reply.reply) fault)

  -- so a reply that is no Ok reply left no entry
  pub bad-reaches : is_ok_reply look.reply.reply ≡ false → reach_of call look.reply ≡ look.reply.position
  bad-reaches bad = by (is_store_fault look.reply.reply) refl
    where
      by : (b : Bool) → is_store_fault look.reply.reply ≡ b → reach_of call look.reply ≡ look.reply.position
      by true fault = absurd (no-fault fault)
      by false fault =
          ap (λ b. look.reply.position + cond (b || (is_modifying call && is_ok_reply look.reply.reply)) 1 0) fault
          ∙ ap (λ b. look.reply.position + cond (is_modifying call && b) 1 0) bad ∙ none (is_modifying call)
        where
          none : (m : Bool) → look.reply.position + cond (m && false) 1 0 ≡ look.reply.position
          none true = omega arith
          none false = omega arith

  -- the plain machine's reply, but for bytes that aren't told, or NoMemory
  pub heard-plainly : (claimed (tells_at sides side) look.reply.reply ≡ claimed (tells_at sides side) (answer (state_at (side_at sides side) look) call)) ⊎ (look.reply.reply ≡ replies.NoMemory)
  heard-plainly = by (origin_of look.reply.reply) refl
    where
      by : (o : Origin) → origin_of look.reply.reply ≡ o → (claimed (tells_at sides side) look.reply.reply ≡ claimed (tells_at sides side) (answer (state_at (side_at sides side) look) call)) ⊎ (look.reply.reply ≡ replies.NoMemory)
      by machine is = inl (heard.legal.answered (ap is_machine is))
      by store is = absurd (no-fault (ap is_store is))
      by limit is =
          let full : look.reply.position ≡ (side_at sides side).limit = (heard.legal.full (ap is_limit is)).at_limit in
          let up_to : reach_of call look.reply ≤ (side_at sides side).span.high = heard.to in
          let above : look.reply.position ≤ reach_of call look.reply = behind look.reply.position (is_store_fault look.reply.reply || (is_modifying call && is_ok_reply look.reply.reply)) in
          let room : (side_at sides side).span.high < (side_at sides side).limit = free.room in
          absurd (omega (arith, full, up_to, above, room))
      by memory is = inr (no_memory_is look.reply.reply is)

  -- an Ok reply where the plain machine gives one, or NoMemory
  pub heard-ok : is_ok_reply (answer (state_at (side_at sides side) look) call) ≡ true → (is_ok_reply look.reply.reply ≡ true) ⊎ (look.reply.reply ≡ replies.NoMemory)
  heard-ok ok = by heard-plainly
    where
      by : (claimed (tells_at sides side) look.reply.reply ≡ claimed (tells_at sides side) (answer (state_at (side_at sides side) look) call)) ⊎ (look.reply.reply ≡ replies.NoMemory) → (is_ok_reply look.reply.reply ≡ true) ⊎ (look.reply.reply ≡ replies.NoMemory)
      by (inl same) = inl (observed is_ok_reply ok-blanked (tells_at sides side) look.reply.reply (answer (state_at (side_at sides side) look) call) same ∙ ok)
      by (inr wants) = inr wants

  -- so a reply that is no Ok reply ends the sync for want of memory
  pub ends-wanting : is_ok_reply (answer (state_at (side_at sides side) look) call) ≡ true → is_ok_reply look.reply.reply ≡ false → answer_at look ≡ answers.NoMemory
  ends-wanting ok ends = by (heard-ok ok)
    where
      by : (is_ok_reply look.reply.reply ≡ true) ⊎ (look.reply.reply ≡ replies.NoMemory) → answer_at look ≡ answers.NoMemory
      by (inl so) = absurd (true_false so ends)
      by (inr wants) = ap (Rattle.distcp_sync.specs.Told.answer_by look.side look.reply) wants

  -- an Ok reply has the plain machine's lines
  pub heard-lines : is_ok_reply look.reply.reply ≡ true → lines_shown look.reply.reply ≡ lines_shown (answer (state_at (side_at sides side) look) call)
  heard-lines ok = by heard-plainly
    where
      by : (claimed (tells_at sides side) look.reply.reply ≡ claimed (tells_at sides side) (answer (state_at (side_at sides side) look) call)) ⊎ (look.reply.reply ≡ replies.NoMemory) → lines_shown look.reply.reply ≡ lines_shown (answer (state_at (side_at sides side) look) call)
      by (inl same) = observed lines_shown lines-blanked (tells_at sides side) look.reply.reply (answer (state_at (side_at sides side) look) call) same
      by (inr wants) = absurd (true_false ok (ap is_ok_reply wants))
