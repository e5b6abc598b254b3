-- An undisturbed sync that nothing hinders, from its first reply on: it is done, or memory runs out.
use Rattle.std.proofs.Common.{◌≡◌, ◌⊎◌, inl, inr, ℕ, ◌<◌, ◌≤◌, nat_lt, cond, Bool, true, false, Option, Some, Result, Ok, Err, List, [], ◌∷◌, refl, ap, sym, subst, ◌∙◌, arith}
use borrow.Author.Tests.{ltb-false}
use Rattle.hs_types.specs.declared.ids.Side.TheVariants.{Source, Target}
use Rattle.hs_types.specs.declared.ids.SnapId.{SnapId}
use Rattle.hs_types.specs.declared.ids.InodeId.{InodeId}
use Rattle.hs_types.specs.declared.call.Call.TheVariants as calls
use Rattle.hs_types.specs.declared.reply.Line.{Line}
use Rattle.hs_types.specs.declared.reply.Reply.TheVariants as replies
use Rattle.hs_plain.specs.Answer.{is_ok_reply}
use Rattle.hs_plain.specs.Joined.{lines_shown}
use Rattle.hs_plain.specs.Premises.{SyncAsk, IsUndisturbed, IsUnhindered}
use Rattle.hs_plain.proofs.ValidAsked.{same_ok}
use Rattle.plan_laws.specs.Undisturbed.{AreWithinLimit}
use Rattle.sync_laws.specs.Lasting.{IsWithin}
use Rattle.copy_workers.specs.declared.copied.Look.{Look}
use Rattle.distcp_sync.specs.declared.answer.SyncAnswer.{SyncAnswer}
use Rattle.distcp_sync.specs.declared.answer.SyncAnswer.TheVariants as answers
use Rattle.distcp_sync.specs.declared.report.SyncReport.{SyncReport}
use Rattle.distcp_sync.specs.declared.start.SyncStart.{SyncStart}
use Rattle.distcp_sync.specs.Told.{begun, start_by, root_answer, answer_by, answer_at, unchanged_call, OrNoMemory}
use Rattle.distcp_sync.specs.Steps.{SyncSides, IsHeard}
use Rattle.distcp_sync.specs.Synced.{First, Second, Third, AfterSecond, AfterThird, ByChange}
use Rattle.distcp_sync.proofs.Premised.{leads-still}
use Rattle.distcp_sync.proofs.DonePremises.{HasDirs, third-ok, no-line}
use Rattle.distcp_sync.proofs.DonePremises as premises
use Rattle.distcp_sync.proofs.DoneWorked.{from-worked}
use Rattle.distcp_sync.proofs.Replied.{IsFree, heard-within, heard-ok}
use Rattle.distcp_sync.proofs.Started.{TellsRoot, told-root}

no_cons : (line : Line) (lines : List Line) → line ∷ lines ≡ [] → ⊥
no_cons line lines e = cc

less : (a b : ℕ) → a < b → nat_lt a b ≡ true
less a b h = by (nat_lt a b) (λ t. t) (λ f. let le : b ≤ a = ltb-false a b f in absurd (omega arith))
  where
    by : {P : Type 0} (t : Bool) → (t ≡ true → P) → (t ≡ false → P) → P
    by true one other = one refl
    by false one other = other refl

-- ids that rise are begun with
begun-so : (ask : SyncAsk) (start : SyncStart) (one two three : Option SnapId) → one ≡ Some start.from → two ≡ Some start.to → three ≡ Some start.base → start.from.0 < start.to.0 →
    start_by ask start.source start.target one two three ≡ Ok start
begun-so ask start one two three a b c rising =
    ap (λ o. start_by ask start.source start.target o two three) a ∙ ap (λ o. start_by ask start.source start.target (Some start.from) o three) b
    ∙ ap (λ o. start_by ask start.source start.target (Some start.from) (Some start.to) o) c
    ∙ ap (λ t. cond {A = Result SyncStart SyncAnswer} t (Ok start) (Err (answers.NotOlder start.from start.to))) (less start.from.0 start.to.0 rising)

module _ (ask : SyncAsk) (page : ℕ) (sides : SyncSides) (report : SyncReport) (tells : sides.source_tells ≡ true) (limits : AreWithinLimit sides.source sides.target)
    (undisturbed : IsUndisturbed ask sides.source sides.target) (unhindered : IsUnhindered ask sides.source sides.target undisturbed) where
  abbrev Kept : Type 0
  Kept = OrNoMemory answers.Done report.answer

  source-free : IsFree sides.source
  source-free = premises.source-free ask sides undisturbed unhindered

  target-free : IsFree sides.target
  target-free = premises.target-free ask sides undisturbed unhindered

  -- an end for want of memory
  wants : (expected : SyncAnswer) → expected ≡ answers.NoMemory → OrNoMemory expected report.answer → Kept
  wants expected is (inl so) = inr (so ∙ is)
  wants expected is (inr so) = inr so

  -- where the sync begins, by the premises' snapshots
  abbrev begins-at : InodeId → InodeId → SyncStart
  begins-at source target = premises.begins-at ask sides undisturbed unhindered source target

  -- the directories that were told are those of the premises' snapshots
  has-dirs : (one two : Look) → IsHeard sides Source (calls.Snaps ask.source_root) one → IsHeard sides Target (calls.Snaps ask.target_root) two → (source : TellsRoot sides.source ask.source_root one) →
      (target : TellsRoot sides.target ask.target_root two) → HasDirs ask sides undisturbed unhindered source.dir target.dir one two
  has-dirs one two first second source target =
      let first_within : IsWithin sides.source.span one.reply.position = heard-within sides Source (calls.Snaps ask.source_root) one first in
      let second_within : IsWithin sides.target.span two.reply.position = heard-within sides Target (calls.Snaps ask.target_root) two second in
      record {
        first_within = first_within;
        second_within = second_within;
        from_dir = same_ok (sym source.leads ∙ leads-still sides.source ask.source_root undisturbed.begins.from (premises.from-premised ask sides undisturbed unhindered) one.reply.position first_within);
        to_dir = same_ok (sym source.leads ∙ leads-still sides.source ask.source_root undisturbed.begins.to (premises.to-premised ask sides undisturbed unhindered) one.reply.position first_within);
        base_dir = same_ok (sym target.leads ∙ leads-still sides.target ask.target_root undisturbed.begins.base (premises.base-premised ask sides undisturbed unhindered) two.reply.position second_within);
      }

  module _ (one two : Look) (source target : InodeId) (dirs : HasDirs ask sides undisturbed unhindered source target one two) where
    -- a line would say that the sync made no entry; then there is none
    from-lines : (three : Look) (looks : List Look) → IsHeard sides Target (unchanged_call (begins-at source target)) three → is_ok_reply three.reply.reply ≡ true →
        ByChange ask page sides report (begins-at source target) one two looks (lines_shown three.reply.reply) → Kept
    from-lines three looks heard ok change = by (lines_shown three.reply.reply) refl change
      where
        by : (lines : List Line) → lines_shown three.reply.reply ≡ lines → ByChange ask page sides report (begins-at source target) one two looks lines → Kept
        by [] none worked = from-worked ask page sides report tells limits undisturbed unhindered source target one two dirs looks worked
        by (line ∷ lines) some ends = absurd (no_cons line lines (sym some ∙ no-line ask sides undisturbed unhindered source target dirs.base_dir three heard ends.ends.none ok))

    from-third : (looks : List Look) → Third ask page sides report one two looks (Ok (begins-at source target)) → Kept
    from-third [] ends = wants answers.NoMemory refl ends.answer
    from-third (three ∷ looks) third =
        by (heard-ok sides Target (unchanged_call (begins-at source target)) three third.0 target-free (third-ok ask sides undisturbed unhindered source target dirs.base_dir three third.0))
      where
        by : (is_ok_reply three.reply.reply ≡ true) ⊎ (three.reply.reply ≡ replies.NoMemory) → Kept
        by (inl so) = from-lines three looks third.0 so (subst (λ b. AfterThird ask page sides report (begins-at source target) one two three looks b) so third.1)
        by (inr wanting) =
            wants (answer_at three) (ap (answer_by three.side three.reply) wanting)
            (subst (λ b. AfterThird ask page sides report (begins-at source target) one two three looks b) (ap is_ok_reply wanting) third.1).ends.answer

  begins-so : (one two : Look) → (source : TellsRoot sides.source ask.source_root one) → (target : TellsRoot sides.target ask.target_root two) →
      begun ask one.reply.reply two.reply.reply ≡ Ok (begins-at source.dir target.dir)
  begins-so one two source target =
      ap (λ r. begun ask r two.reply.reply) source.reply_is ∙ ap (begun ask (replies.Snaps source.dir source.items)) target.reply_is
      ∙ begun-so ask (begins-at source.dir target.dir) _ _ _
      (source.ids ask.from undisturbed.begins.from undisturbed.begins.has_from undisturbed.from_stays)
      (source.ids ask.to undisturbed.begins.to undisturbed.begins.has_to undisturbed.to_stays)
      (target.ids ask.from undisturbed.begins.base undisturbed.begins.has_base undisturbed.base_stays)
      undisturbed.begins.rising

  from-second : (one : Look) (looks : List Look) → IsHeard sides Source (calls.Snaps ask.source_root) one → TellsRoot sides.source ask.source_root one → Second ask page sides report one looks true → Kept
  from-second one [] first source ends = wants answers.NoMemory refl ends.answer
  from-second one (two ∷ looks) first source second = by (told-root sides Target ask.target_root two second.0 target-free ask.from undisturbed.begins.base undisturbed.begins.has_base undisturbed.base_stays)
    where
      by : TellsRoot sides.target ask.target_root two ⊎ (two.reply.reply ≡ replies.NoMemory) → Kept
      by (inl target) =
          from-third one two source.dir target.dir (has-dirs one two first second.0 source target) looks (subst (λ begin. Third ask page sides report one two looks begin) (begins-so one two source target)
          (subst (λ b. AfterSecond ask page sides report one two looks b) (ap is_ok_reply target.reply_is) second.1))
      by (inr wanting) = wants (root_answer Target two.reply.reply) (ap (root_answer Target) wanting) (subst (λ b. AfterSecond ask page sides report one two looks b) (ap is_ok_reply wanting) second.1).ends.answer

  from-first : (looks : List Look) → First ask page sides report looks → Kept
  from-first [] ends = wants answers.NoMemory refl ends.answer
  from-first (one ∷ looks) first = by (told-root sides Source ask.source_root one first.0 source-free ask.from undisturbed.begins.from undisturbed.begins.has_from undisturbed.from_stays)
    where
      by : TellsRoot sides.source ask.source_root one ⊎ (one.reply.reply ≡ replies.NoMemory) → Kept
      by (inl source) = from-second one looks first.0 source (subst (λ b. Second ask page sides report one looks b) (ap is_ok_reply source.reply_is) first.1)
      by (inr wanting) = wants (root_answer Source one.reply.reply) (ap (root_answer Source) wanting) (subst (λ b. Second ask page sides report one looks b) (ap is_ok_reply wanting) first.1).ends.answer

  pub is-done : First ask page sides report report.looks → Kept
  is-done = from-first report.looks
