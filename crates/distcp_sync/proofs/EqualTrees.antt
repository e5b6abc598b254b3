-- An undisturbed sync that is done made all calls of its plan, so it leaves the target equal to the source's `to`.
use Rattle.std.proofs.Common.{◌≡◌, inl, ℕ, ◌+◌, Bool, true, false, Option, Some, None, Ok, List, [], ◌∷◌, ◌++◌, take, refl, ap, sym, subst, ◌∙◌, append_assoc, append-nil}
use Rattle.std.specs.List.{flat_map}
use Rattle.hs_types.specs.Names.{Names}
use Rattle.hs_types.specs.declared.ids.Side.TheVariants.{Source, Target}
use Rattle.hs_types.specs.declared.ids.InodeId.{InodeId}
use Rattle.hs_types.specs.declared.call.Call.{Call}
use Rattle.hs_types.specs.declared.journal.Entry.{Entry}
use Rattle.hs_types.specs.declared.reply.Reply.TheVariants as replies
use Rattle.hs_types.specs.declared.reply.Line.{Line}
use Rattle.hs_plain.specs.Tree.{subtree}
use Rattle.hs_plain.specs.Modifying.{live_path}
use Rattle.hs_plain.specs.Replay.{plain_after}
use Rattle.hs_plain.specs.Answer.{is_ok_reply}
use Rattle.hs_plain.specs.Joined.{lines_shown}
use Rattle.hs_plain.specs.Premises.{SyncAsk, IsUndisturbed, state_before}
use Rattle.hs_plain.specs.Plan.{AreEqual, plan_calls, bad_paths}
use Rattle.hs_plain.proofs.ValidAsked.{same_ok}
use Rattle.plan_laws.specs.Undisturbed.{AreWithinLimit, plan_begun}
use Rattle.copy_workers.specs.declared.copied.Made.{Made}
use Rattle.copy_workers.specs.declared.copied.Look.{Look}
use Rattle.distcp_sync.specs.declared.answer.SyncAnswer.{SyncAnswer}
use Rattle.distcp_sync.specs.declared.answer.SyncAnswer.TheVariants as answers
use Rattle.distcp_sync.specs.declared.report.SyncReport.{SyncReport}
use Rattle.distcp_sync.specs.declared.start.SyncStart.{SyncStart}
use Rattle.distcp_sync.specs.Told.{begun, root_answer, answer_at, OrNoMemory}
use Rattle.distcp_sync.specs.Steps.{SyncSides, AreEntries, AreFirst, ended_copy, plan_between, up_to_last}
use Rattle.distcp_sync.specs.Synced.{First, Second, Third, AfterSecond, AfterThird, ByChange, HasTrees, HasMade, Ended, EndsAlone, planned}
use Rattle.distcp_sync.proofs.EqualEnds.{is_done, not-done, look-other, root-other}
use Rattle.distcp_sync.proofs.EqualStart.{rising-begun, IsRootReply, root-replied}
use Rattle.distcp_sync.proofs.EqualMade.{all-equal}

-- the end of the last one
last-ends : (made : List Made) (last : Made) → up_to_last (made ++ last ∷ []) ≡ last.position + 1
last-ends [] last = refl
last-ends (one ∷ []) last = refl
last-ends (one ∷ other ∷ more) last = last-ends (other ∷ more) last

-- a list with a last one isn't empty
some-made : (made : List Made) (last : Made) → made ++ last ∷ [] ≡ [] → ⊥
some-made [] last e = cc
some-made (one ∷ made) last e = cc

module _ (ask : SyncAsk) (page : ℕ) (sides : SyncSides) (report : SyncReport) (tells : sides.source_tells ≡ true) (limits : AreWithinLimit sides.source sides.target)
    (undisturbed : IsUndisturbed ask sides.source sides.target) (done : report.answer ≡ answers.Done) where
  abbrev Equal : Type 0
  Equal = (root : Names) → live_path ask.target_root ≡ Ok root → AreEqual undisturbed.begins.to.tree (subtree (plain_after (take (up_to_last report.moves) sides.target.journal)).tree root)

  -- a sync that is done has no other end
  refuse : (expected : SyncAnswer) → is_done expected ≡ false → OrNoMemory expected report.answer → Equal
  refuse expected other ends = absurd (not-done expected report.answer other ends done)

  -- where the sync begins, by the premises' snapshots
  abbrev begins-at : InodeId → InodeId → SyncStart
  begins-at source target = record { source = source; target = target; from = undisturbed.begins.from.snapshot; to = undisturbed.begins.to.snapshot; base = undisturbed.begins.base.snapshot }

  -- the calls of the premises' plan
  abbrev plan-is : List Call
  plan-is = plan_calls ask.target_root (plan_begun ask (state_before sides.source) (state_before sides.target) undisturbed.begins) undisturbed.begins.to.tree

  module _ (one two : Look) (source : IsRootReply sides.source ask.source_root one) (target : IsRootReply sides.target ask.target_root two) where
    abbrev start : SyncStart
    start = begins-at source.dir target.dir

    -- the trees are those of the premises
    same-plan : (trees : HasTrees ask page sides report start one two) → planned ask page sides report start one two trees ≡ plan-is
    same-plan trees =
        let from : trees.from ≡ undisturbed.begins.from = same_ok (sym trees.from_is ∙ (source.tells ask.from undisturbed.begins.from undisturbed.begins.has_from undisturbed.from_stays).there) in
        let to : trees.to ≡ undisturbed.begins.to = same_ok (sym trees.to_is ∙ (source.tells ask.to undisturbed.begins.to undisturbed.begins.has_to undisturbed.to_stays).there) in
        let base : trees.base ≡ undisturbed.begins.base = same_ok (sym trees.base_is ∙ (target.tells ask.from undisturbed.begins.base undisturbed.begins.has_base undisturbed.base_stays).there) in
        λ i. plan_calls ask.target_root (plan_between (from i) (to i) (base i)) (to i).tree

    -- all calls of the plan were accepted
    from-whole : (trees : HasTrees ask page sides report start one two) (made : HasMade ask page sides report start one two trees) (deleted : Made) → made.all.last ≡ deleted ∷ [] → made.rest ≡ [] → made.faulted ≡ [] → Equal
    from-whole trees made deleted last rest faulted root leads =
        let copies : List Made = flat_map (λ copied. copied.made) report.copies in
        let whole : made.made ≡ (made.all.before ++ copies) ++ deleted ∷ [] = made.all.all ∙ (ap (λ (ms : List Made). made.all.before ++ (copies ++ ms)) last ∙ sym (append_assoc made.all.before copies (deleted ∷ []))) in
        let moves : report.moves ≡ made.all.before ++ deleted ∷ [] = made.all.moves ∙ ap (λ (ms : List Made). made.all.before ++ ms) last in
        let end : up_to_last made.made ≡ up_to_last report.moves =
        ap up_to_last whole ∙ (last-ends (made.all.before ++ copies) deleted ∙ (sym (last-ends made.all.before deleted) ∙ sym (ap up_to_last moves))) in
        let some : made.made ≡ [] → ⊥ = λ none. some-made (made.all.before ++ copies) deleted (sym whole ∙ none) in
        let are : AreEntries sides.target.journal sides.target.span.low made.made made.accepted =
        subst (AreEntries sides.target.journal sides.target.span.low made.made) (ap (λ (es : List Entry). made.accepted ++ es) faulted ∙ append-nil made.accepted) made.entries in
        let first : AreFirst true plan-is made.accepted [] =
        subst (λ (told : Bool). AreFirst told plan-is made.accepted []) tells
        (subst (λ (calls : List Call). AreFirst sides.source_tells calls made.accepted []) (same-plan trees)
        (subst (AreFirst sides.source_tells (planned ask page sides report start one two trees) made.accepted) rest made.first)) in
        let paths : bad_paths plan-is ≡ [] = ap bad_paths (sym (same-plan trees)) ∙ made.within some in
        subst (λ (n : ℕ). AreEqual undisturbed.begins.to.tree (subtree (plain_after (take n sides.target.journal)).tree root)) end
        (all-equal ask sides.source sides.target limits undisturbed made.made made.accepted some are made.own first paths root leads)

    -- a sync that no reply ended
    from-alone : (trees : HasTrees ask page sides report start one two) (made : HasMade ask page sides report start one two trees) → EndsAlone ask page sides report start one two trees made → Equal
    from-alone trees made (EndsAlone.done deleted last answer rest faulted copies) = from-whole trees made deleted last rest faulted
    from-alone trees made (EndsAlone.limit path answer none first) = refuse (answers.PathLimit path) refl (inl answer)
    from-alone trees made (EndsAlone.wanting answer) = refuse answers.NoMemory refl (inl answer)

    -- nor did any reply end it
    from-ended : (trees : HasTrees ask page sides report start one two) (made : HasMade ask page sides report start one two trees) (looks : List Look) (ended : Option Look) →
        Ended ask page sides report start one two trees made looks ended → Equal
    from-ended trees made [] None ends = from-alone trees made ends
    from-ended trees made [] (Some look) ends = refuse (answer_at look) (look-other look) ends.2
    from-ended trees made (look ∷ []) None ends = refuse (answer_at look) (look-other look) ends.2
    from-ended trees made (look ∷ []) (Some other) ends = absurd ends
    from-ended trees made (look ∷ next ∷ looks) None ends = absurd ends
    from-ended trees made (look ∷ next ∷ looks) (Some other) ends = absurd ends

    -- the target was not changed
    from-lines : (looks : List Look) (lines : List Line) → ByChange ask page sides report start one two looks lines → Equal
    from-lines looks [] worked = from-ended worked.trees worked.made looks (ended_copy report.copies) worked.ended
    from-lines looks (line ∷ lines) ends = refuse (answers.TargetChanged line) refl ends.ends.answer

    -- the target's report was answered Ok
    from-third : (looks : List Look) → Third ask page sides report one two looks (Ok start) → Equal
    from-third [] ends = refuse answers.NoMemory refl ends.answer
    from-third (three ∷ looks) third = by (is_ok_reply three.reply.reply) third.1
      where
        by : (ok : Bool) → AfterThird ask page sides report start one two three looks ok → Equal
        by true change = from-lines looks (lines_shown three.reply.reply) change
        by false ends = refuse (answer_at three) (look-other three) ends.ends.answer

    -- the sync begins with the premises' snapshots
    begins-so : begun ask one.reply.reply two.reply.reply ≡ Ok start
    begins-so =
        ap (λ r. begun ask r two.reply.reply) source.reply_is ∙ ap (begun ask (replies.Snaps source.dir source.items)) target.reply_is
        ∙ rising-begun ask start _ _ _
        (source.tells ask.from undisturbed.begins.from undisturbed.begins.has_from undisturbed.from_stays).named
        (source.tells ask.to undisturbed.begins.to undisturbed.begins.has_to undisturbed.to_stays).named
        (target.tells ask.from undisturbed.begins.base undisturbed.begins.has_base undisturbed.base_stays).named
        undisturbed.begins.rising

    -- from there on
    from-begun : (looks : List Look) → Third ask page sides report one two looks (begun ask one.reply.reply two.reply.reply) → Equal
    from-begun looks third = from-third looks (subst (λ begin. Third ask page sides report one two looks begin) begins-so third)

  -- the target's root was told of
  from-second : (one : Look) (looks : List Look) → IsRootReply sides.source ask.source_root one → Second ask page sides report one looks true → Equal
  from-second one [] source ends = refuse answers.NoMemory refl ends.answer
  from-second one (two ∷ looks) source second = by (is_ok_reply two.reply.reply) refl second.1
    where
      by : (ok : Bool) → is_ok_reply two.reply.reply ≡ ok → AfterSecond ask page sides report one two looks ok → Equal
      by true ok third = from-begun one two source (root-replied sides Target ask.target_root two second.0 ok ask.from undisturbed.begins.base undisturbed.begins.has_base undisturbed.base_stays) looks third
      by false ok ends = refuse (root_answer Target two.reply.reply) (root-other Target two.reply.reply) ends.ends.answer

  -- the source's root was told of
  from-first : (looks : List Look) → First ask page sides report looks → Equal
  from-first [] ends = refuse answers.NoMemory refl ends.answer
  from-first (one ∷ looks) first = by (is_ok_reply one.reply.reply) refl first.1
    where
      by : (ok : Bool) → is_ok_reply one.reply.reply ≡ ok → Second ask page sides report one looks ok → Equal
      by true ok second = from-second one looks (root-replied sides Source ask.source_root one first.0 ok ask.from undisturbed.begins.from undisturbed.begins.has_from undisturbed.from_stays) second
      by false ok ends = refuse (root_answer Source one.reply.reply) (root-other Source one.reply.reply) ends.ends.answer

  -- from its first reply on
  pub are-equal : First ask page sides report report.looks → Equal
  are-equal = from-first report.looks
