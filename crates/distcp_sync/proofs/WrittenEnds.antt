-- How a sync ended that made calls of its plan, in the journals around what its links have seen.
use Rattle.std.proofs.Common.{◌≡◌, ℕ, ◌+◌, ◌≤◌, Bool, true, false, cond, ◌&&◌, ◌||◌, Option, Some, None, List, [], ◌∷◌, length, slice_get, refl, ap, sym, ◌∙◌, subst, arith}
use Rattle.std.specs.Prelude.{IfSome}
use Rattle.hs_types.specs.declared.ids.Side.TheVariants.{Source, Target}
use Rattle.hs_types.specs.declared.call.Call.{Call}
use Rattle.hs_types.specs.declared.call.Call.TheVariants as calls
use Rattle.hs_types.specs.declared.call.Place.TheVariants as places
use Rattle.hs_types.specs.declared.journal.EntryKind.TheVariants.{Accepted, Faulted}
use Rattle.hs_types.specs.declared.reply.Answered.{Answered}
use Rattle.hs_plain.specs.declared.plan.CopyJob.{CopyJob}
use Rattle.hs_plain.specs.State.{start}
use Rattle.hs_plain.specs.Answer.{is_modifying, uses_store, is_ok_reply, is_store_fault}
use Rattle.hs_plain.specs.Legal.{Said, leaves_entry, entry_of}
use Rattle.hs_plain.specs.Plan.{bad_paths}
use Rattle.hs_plain.specs.Premises.{SyncAsk}
use Rattle.hs_plain.specs.Replay.{fits_kind}
use Rattle.page_join.specs.Links.{Known, IsCall}
use Rattle.copy_workers.specs.declared.copied.Made.{Made}
use Rattle.copy_workers.specs.declared.copied.Look.{Look}
use Rattle.distcp_sync.specs.declared.answer.SyncAnswer.{SyncAnswer}
use Rattle.distcp_sync.specs.declared.answer.SyncAnswer.TheVariants as answers
use Rattle.distcp_sync.specs.declared.report.SyncReport.{SyncReport}
use Rattle.distcp_sync.specs.declared.start.SyncStart.{SyncStart}
use Rattle.distcp_sync.specs.Told.{answer_at, OrNoMemory}
use Rattle.distcp_sync.specs.Steps.{SyncSides, IsHeard, IsNext, ended_copy, up_to_last}
use Rattle.distcp_sync.specs.Synced.{HasTrees, planned, jobs, IsLastLook, IsCopyLook, EndsAlone, Ended}
use Rattle.distcp_sync.specs.Around.{IsAround}
use Rattle.distcp_sync.proofs.Heard.{Goes, goes_self, goes_then, heard}
use Rattle.distcp_sync.proofs.Did.{fits_at}
use Rattle.distcp_sync.proofs.CopiesWrote.{IsLastLooked, IsCut}
use Rattle.distcp_sync.proofs.Written.{IsEnded}
use Rattle.distcp_sync.proofs.WrittenMade.{IsMadeSo}

differs : true ≡ false → ⊥
differs e = cc

-- a call that uses no store and was not done leaves no entry
undone_none : (old new : Known) (call : Call) (told : Answered) → IsCall old new call told → uses_store call ≡ false → is_ok_reply told.reply ≡ false → leaves_entry call told.reply ≡ false
undone_none old new call told called stores undone = by (is_store_fault told.reply) refl
  where
    none : (modifies ok : Bool) → ok ≡ false → (false || (modifies && ok)) ≡ false
    none true ok e = e
    none false ok e = refl

    by : (b : Bool) → is_store_fault told.reply ≡ b → leaves_entry call told.reply ≡ false
    by true fault =
        absurd (differs (sym (fits_at start new.seen told.position (entry_of old.caller new.calls call told.reply) called.lawful.proper
        (called.legal.entered (ap (λ b. b || (is_modifying call && is_ok_reply told.reply)) fault)))
        ∙ (ap (λ b. fits_kind (cond b Faulted Accepted) call) fault ∙ stores)))
    by false fault = ap (λ b. b || (is_modifying call && is_ok_reply told.reply)) fault ∙ none (is_modifying call) (is_ok_reply told.reply) undone

-- so all that was seen stands before its place
seen_before : (old new : Known) (call : Call) (told : Answered) → IsCall old new call told → uses_store call ≡ false → is_ok_reply told.reply ≡ false → length new.seen ≤ told.position
seen_before old new call told called stores undone =
    let reach : length new.seen ≡ told.position + 0 = called.reach ∙ ap (λ b. told.position + cond b 1 0) (undone_none old new call told called stores undone) in
    omega (arith, reach)

module _ (ask : SyncAsk) (page : ℕ) (sides : SyncSides) (report : SyncReport) (begin : SyncStart) (one two : Look) (trees : HasTrees ask page sides report begin one two)
    (source source_read source_then target target_read target_then : Known) (around_source : IsAround source source_then sides.source_tells sides.source) (around_target : IsAround target target_then sides.target_tells sides.target)
    (goes_source : Goes source source_read) (goes_target : Goes target target_read) where
  -- a call that was looked at as the last one
  last_heard_source : (call : Call) (look : Look) → IsLastLooked Source source_read source_then call look → IsHeard sides Source call look
  last_heard_source call look last = heard sides Source source last.now source_then source_then call look around_source (goes_then source source_read last.now goes_source last.before) last.looked (goes_self source_then)

  last_heard_target : (call : Call) (look : Look) → IsLastLooked Target target_read target_then call look → IsHeard sides Target call look
  last_heard_target call look last = heard sides Target target last.now target_then target_then call look around_target (goes_then target target_read last.now goes_target last.before) last.looked (goes_self target_then)

  module _ (failed : Option Said) (last : List Made) (nothing : Type 0) (so : IsMadeSo ask page sides report begin one two trees failed last (length target_then.seen) nothing) (within : bad_paths (planned ask page sides report begin one two trees) ≡ []) where
    copy_look : (index : ℕ) (job : CopyJob) (look : Look) (missed : Option Said) → missed ≡ failed → slice_get (jobs ask page sides report begin one two trees) index ≡ Some job → length report.copies ≡ index + 1 →
        IsCut begin.to job source_read source_then target_read target_then look missed → IsCopyLook ask page sides report begin one two trees so.made look
    copy_look index job look missed same job_is count (IsCut.by_memory is) = IsCopyLook.by_memory is
    copy_look index job look missed same job_is count (IsCut.by_read offset looked) = IsCopyLook.by_read index offset job job_is count (last_heard_source (calls.ReadNext (record { place = places.Frozen job.id begin.to; offset = offset }) 65536) look looked)
    copy_look index job look missed same job_is count (IsCut.by_write said told looked) =
        IsCopyLook.by_write said.call (subst (λ (o : Option Said). IfSome o (λ said. IsNext sides.source_tells so.made.rest said.call)) (sym same) so.next)
        (subst (λ n. up_to_last so.made.made ≤ n) looked.looked.called.reach so.up_to) (last_heard_target said.call look looked)

    pub ended_so : (looks : List Look) (answer : SyncAnswer) (missed : Option Said) → missed ≡ failed → answer ≡ report.answer → IsEnded begin (jobs ask page sides report begin one two trees) source_read source_then target_read target_then report.copies looks answer missed →
        Ended ask page sides report begin one two trees so.made looks (ended_copy report.copies)
    ended_so looks answer missed same told (IsEnded.wanting none) =
        subst (Ended ask page sides report begin one two trees so.made []) (sym none) (EndsAlone.wanting (sym told))
    ended_so looks answer missed same told (IsEnded.by_reply look answer_is said none reply looked stores bad or) =
        subst (Ended ask page sides report begin one two trees so.made (look ∷ [])) (sym none) (
          IsLastLook.moved said.call within (subst (λ (o : Option Said). IfSome o (λ said. IsNext sides.source_tells so.made.rest said.call)) (sym same) so.next)
              (omega (arith, so.up_to, seen_before looked.now target_then said.call look.reply looked.looked.called stores bad)) (last_heard_target said.call look looked),
          bad,
          subst (OrNoMemory (answer_at look)) told or,
        )
    ended_so looks answer missed same told (IsEnded.by_copy look answer_is undone_is index job some job_is count cut bad or) =
        subst (Ended ask page sides report begin one two trees so.made []) (sym some) (copy_look index job look missed same job_is count cut, bad, subst (OrNoMemory (answer_at look)) told or)

    -- all was done
    pub ended_all : (deleted : Made) → last ≡ deleted ∷ [] → failed ≡ None → nothing → report.answer ≡ answers.Done → ended_copy report.copies ≡ None → length report.copies ≡ length (jobs ask page sides report begin one two trees) →
        Ended ask page sides report begin one two trees so.made [] (ended_copy report.copies)
    ended_all deleted is none no_more told none_ended count =
        subst (Ended ask page sides report begin one two trees so.made []) (sym none_ended) (EndsAlone.done deleted (so.last_is ∙ is) told (so.no_rest none no_more) (so.no_fault none) count)
