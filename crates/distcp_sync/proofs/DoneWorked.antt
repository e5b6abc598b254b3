-- An unhindered sync behind its first replies: whichever reply ended it says that memory ran out, or all calls of the plan were accepted.
use Rattle.std.proofs.Common.{◌≡◌, ◌⊎◌, inl, inr, ℕ, ◌≤◌, Bool, true, false, Option, Some, None, Ok, List, [], ◌∷◌, slice_get, ap, sym, subst, ◌∙◌}
use Rattle.hs_types.specs.declared.ids.InodeId.{InodeId}
use Rattle.hs_types.specs.declared.ids.SnapId.{SnapId}
use Rattle.hs_types.specs.declared.ids.Side.TheVariants.{Source, Target}
use Rattle.hs_types.specs.declared.call.Call.{Call}
use Rattle.hs_types.specs.declared.call.Call.TheVariants as calls
use Rattle.hs_types.specs.declared.call.ReportCursor.{ReportCursor}
use Rattle.hs_plain.specs.declared.plan.CopyJob.{CopyJob}
use Rattle.hs_plain.specs.declared.state.Member.{Member}
use Rattle.hs_plain.specs.State.{member_with}
use Rattle.hs_plain.specs.Tree.{place_of}
use Rattle.hs_plain.specs.Answer.{answer, is_ok_reply}
use Rattle.hs_plain.specs.Plan.{plan_calls, bad_paths}
use Rattle.hs_plain.specs.Premises.{SyncAsk, IsUndisturbed, IsUnhindered}
use Rattle.hs_plain.proofs.ValidShapes.{none_some}
use Rattle.hs_plain.proofs.ValidAsked.{same_ok}
use Rattle.plan_laws.specs.Pair.{IsTree}
use Rattle.plan_laws.specs.Undisturbed.{AreWithinLimit}
use Rattle.sync_laws.specs.Lasting.{IsWithin}
use Rattle.sync_laws.specs.Shown.{IsSnapshotOf, list_from, read_from}
use Rattle.sync_laws.proofs.Snapshots.{valid-at}
use Rattle.copy_workers.specs.declared.copied.Look.{Look}
use Rattle.distcp_sync.specs.declared.answer.SyncAnswer.{SyncAnswer}
use Rattle.distcp_sync.specs.declared.answer.SyncAnswer.TheVariants as answers
use Rattle.distcp_sync.specs.declared.report.SyncReport.{SyncReport}
use Rattle.distcp_sync.specs.declared.start.SyncStart.{SyncStart}
use Rattle.distcp_sync.specs.Told.{answer_at, OrNoMemory}
use Rattle.distcp_sync.specs.Steps.{SyncSides, state_at, IsHeard, IsNext, AreFirst, AreFaulted, plan_between, ended_copy, up_to_last}
use Rattle.distcp_sync.specs.Synced.{IsNewDir, HasTrees, HasMade, HasWorked, IsLastLook, IsCopyLook, EndsAlone, Ended, planned, jobs}
use Rattle.distcp_sync.proofs.Replied.{IsFree, heard-within, bad-reaches, ends-wanting}
use Rattle.distcp_sync.proofs.Premised.{IsPremised, lives}
use Rattle.distcp_sync.proofs.DonePremises.{begins-at, HasDirs}
use Rattle.distcp_sync.proofs.DonePremises as premises
use Rattle.distcp_sync.proofs.DoneReads.{IsFileOf, lines-ok, items-ok, job-file, read-ok}
use Rattle.distcp_sync.proofs.DonePlan.{plan-is, next-ok}

module _ (ask : SyncAsk) (page : ℕ) (sides : SyncSides) (report : SyncReport) (tells : sides.source_tells ≡ true) (limits : AreWithinLimit sides.source sides.target)
    (undisturbed : IsUndisturbed ask sides.source sides.target) (unhindered : IsUnhindered ask sides.source sides.target undisturbed) where
  module _ (source target : InodeId) (one two : Look) (dirs : HasDirs ask sides undisturbed unhindered source target one two) where
    source-free : IsFree sides.source
    source-free = premises.source-free ask sides undisturbed unhindered

    target-free : IsFree sides.target
    target-free = premises.target-free ask sides undisturbed unhindered

    from-premised : IsPremised sides.source ask.source_root undisturbed.begins.from
    from-premised = premises.from-premised ask sides undisturbed unhindered

    to-premised : IsPremised sides.source ask.source_root undisturbed.begins.to
    to-premised = premises.to-premised ask sides undisturbed unhindered

    base-premised : IsPremised sides.target ask.target_root undisturbed.begins.base
    base-premised = premises.base-premised ask sides undisturbed unhindered

    abbrev start : SyncStart
    start = begins-at ask sides undisturbed unhindered source target

    module _ (trees : HasTrees ask page sides report start one two) where
      -- the trees are those of the premises
      from-is : trees.from ≡ undisturbed.begins.from
      from-is = same_ok (sym trees.from_is ∙ lives sides.source ask.source_root undisturbed.begins.from from-premised one.reply.position dirs.first_within)

      to-is : trees.to ≡ undisturbed.begins.to
      to-is = same_ok (sym trees.to_is ∙ lives sides.source ask.source_root undisturbed.begins.to to-premised one.reply.position dirs.first_within)

      base-is : trees.base ≡ undisturbed.begins.base
      base-is = same_ok (sym trees.base_is ∙ lives sides.target ask.target_root undisturbed.begins.base base-premised two.reply.position dirs.second_within)

      -- so the calls of the plan are those of the premises' plan
      same-plan : planned ask page sides report start one two trees ≡ plan-is ask sides.source sides.target limits undisturbed unhindered
      same-plan = λ i. plan_calls ask.target_root (plan_between (from-is i) (to-is i) (base-is i)) (to-is i).tree

      -- ---- reads at the source and at the target

      from-lives : (look : Look) → IsWithin sides.source.span look.reply.position → member_with (state_at sides.source look).members undisturbed.begins.from.snapshot ≡ Ok undisturbed.begins.from
      from-lives look within = lives sides.source ask.source_root undisturbed.begins.from from-premised look.reply.position within

      to-lives : (look : Look) → IsWithin sides.source.span look.reply.position → member_with (state_at sides.source look).members undisturbed.begins.to.snapshot ≡ Ok undisturbed.begins.to
      to-lives look within = lives sides.source ask.source_root undisturbed.begins.to to-premised look.reply.position within

      base-lives : (look : Look) → IsWithin sides.target.span look.reply.position → member_with (state_at sides.target look).members undisturbed.begins.base.snapshot ≡ Ok undisturbed.begins.base
      base-lives look within = lives sides.target ask.target_root undisturbed.begins.base base-premised look.reply.position within

      report-ok : (look : Look) (cursor : ReportCursor) → IsWithin sides.source.span look.reply.position → cursor.root ≡ start.source → cursor.from ≡ start.from → cursor.to ≡ start.to →
          is_ok_reply (answer (state_at sides.source look) (calls.ReportNext cursor page)) ≡ true
      report-ok look cursor within root from to =
          let first : IsSnapshotOf (state_at sides.source look) cursor.root cursor.from = record {
            member = undisturbed.begins.from;
            live = ap (λ (s : SnapId). member_with (state_at sides.source look).members s) from ∙ from-lives look within;
            own = sym (root ∙ dirs.from_dir);
          } in
          let second : IsSnapshotOf (state_at sides.source look) cursor.root cursor.to = record {
            member = undisturbed.begins.to;
            live = ap (λ (s : SnapId). member_with (state_at sides.source look).members s) to ∙ to-lives look within;
            own = sym (root ∙ dirs.to_dir);
          } in
          lines-ok (state_at sides.source look) (valid-at sides.source.journal look.reply.position) cursor page first second

      names-ok : (look : Look) (after : Option (List ℕ)) → IsWithin sides.target.span look.reply.position → is_ok_reply (answer (state_at sides.target look) (calls.ListNext (list_from start.target start.base after) page)) ≡ true
      names-ok look after within =
          items-ok (state_at sides.target look) undisturbed.begins.base start.target ([], base-premised.top.root) after page (base-lives look within)
          (ap (place_of undisturbed.begins.base.tree) dirs.base_dir ∙ base-premised.top.place) base-premised.top.directory

      listed-ok : (look : Look) (dir : InodeId) (after : Option (List ℕ)) → IsWithin sides.source.span look.reply.position → (dir ≡ start.source) ⊎ IsNewDir trees.from.tree trees.to.tree dir →
          is_ok_reply (answer (state_at sides.source look) (calls.ListNext (list_from dir start.to after) page)) ≡ true
      listed-ok look dir after within (inl root) =
          items-ok (state_at sides.source look) undisturbed.begins.to dir ([], to-premised.top.root) after page (to-lives look within)
          (ap (place_of undisturbed.begins.to.tree) (root ∙ dirs.to_dir) ∙ to-premised.top.place) to-premised.top.directory
      listed-ok look dir after within (inr new) =
          items-ok (state_at sides.source look) undisturbed.begins.to dir (new.path, new.node) after page (to-lives look within)
          (ap (λ (m : Member (List ℕ)). place_of m.tree dir) (sym to-is) ∙ new.there) new.directory

      file-ok : (look : Look) (number offset : ℕ) (job : CopyJob) → IsWithin sides.source.span look.reply.position → slice_get (jobs ask page sides report start one two trees) number ≡ Some job →
          is_ok_reply (answer (state_at sides.source look) (calls.ReadNext (read_from job.id start.to offset) 65536)) ≡ true
      file-ok look number offset job within there =
          let tree : IsTree trees.to.tree = subst (λ (m : Member (List ℕ)). IsTree m.tree) (sym to-is) to-premised.top.tree in
          let file : IsFileOf trees.to.tree job.id = job-file trees.from.tree trees.to.tree tree number job there in
          read-ok (state_at sides.source look) undisturbed.begins.to job.id offset 65536 (to-lives look within) (subst (λ (m : Member (List ℕ)). IsFileOf m.tree job.id) to-is file)

      -- ---- the reply that ended the sync

      module _ (made : HasMade ask page sides report start one two trees) where
        move-ok : (call : Call) (look : Look) → IsHeard sides Target call look → IsNext sides.source_tells made.rest call → up_to_last made.made ≤ look.reply.position → is_ok_reply (answer (state_at sides.target look) call) ≡ true
        move-ok call look heard next behind =
            let within : IsWithin sides.target.span look.reply.position = heard-within sides Target call look heard in
            next-ok ask sides.source sides.target limits undisturbed unhindered made.made made.accepted made.faulted made.rest made.entries made.own
            (subst (λ (told : Bool). AreFirst told (plan-is ask sides.source sides.target limits undisturbed unhindered) made.accepted made.rest) tells (subst (λ (cs : List Call). AreFirst sides.source_tells cs made.accepted made.rest) same-plan made.first))
            (subst (λ (told : Bool). AreFaulted told made.rest made.faulted) tells made.left)
            call look.reply.position (subst (λ (told : Bool). IsNext told made.rest call) tells next) behind within.from within.up_to

        last-wants : (look : Look) → IsLastLook ask page sides report start one two trees made look → is_ok_reply look.reply.reply ≡ false → answer_at look ≡ answers.NoMemory
        last-wants look (IsLastLook.lines cursor root from to none heard) bad =
            ends-wanting sides Source (calls.ReportNext cursor page) look heard source-free (report-ok look cursor (heard-within sides Source (calls.ReportNext cursor page) look heard) root from to) bad
        last-wants look (IsLastLook.names after none heard) bad =
            ends-wanting sides Target (calls.ListNext (list_from start.target start.base after) page) look heard target-free (names-ok look after (heard-within sides Target (calls.ListNext (list_from start.target start.base after) page) look heard)) bad
        last-wants look (IsLastLook.items dir after listed none heard) bad =
            ends-wanting sides Source (calls.ListNext (list_from dir start.to after) page) look heard source-free (listed-ok look dir after (heard-within sides Source (calls.ListNext (list_from dir start.to after) page) look heard) listed) bad
        last-wants look (IsLastLook.moved call paths next behind heard) bad = ends-wanting sides Target call look heard target-free (move-ok call look heard next behind) bad

        copy-wants : (look : Look) → IsCopyLook ask page sides report start one two trees made look → is_ok_reply look.reply.reply ≡ false → answer_at look ≡ answers.NoMemory
        copy-wants look (IsCopyLook.by_memory wanting) bad = ap answer_at wanting
        copy-wants look (IsCopyLook.by_read number offset job there long heard) bad =
            ends-wanting sides Source (calls.ReadNext (read_from job.id start.to offset) 65536) look heard source-free
            (file-ok look number offset job (heard-within sides Source (calls.ReadNext (read_from job.id start.to offset) 65536) look heard) there) bad
        copy-wants look (IsCopyLook.by_write call next behind heard) bad =
            ends-wanting sides Target call look heard target-free (move-ok call look heard next (subst (λ n. up_to_last made.made ≤ n) (bad-reaches sides Target call look heard target-free bad) behind)) bad

        abbrev Kept : Type 0
        Kept = OrNoMemory answers.Done report.answer

        -- an end for want of memory
        wants : (expected : SyncAnswer) → expected ≡ answers.NoMemory → OrNoMemory expected report.answer → Kept
        wants expected is (inl so) = inr (so ∙ is)
        wants expected is (inr so) = inr so

        from-alone : EndsAlone ask page sides report start one two trees made → Kept
        from-alone (EndsAlone.done deleted last answer rest faulted copies) = inl answer
        from-alone (EndsAlone.limit path answer none first) =
            let paths : bad_paths (planned ask page sides report start one two trees) ≡ [] = ap bad_paths same-plan ∙ unhindered.paths in
            absurd (none_some (sym (ap (λ (texts : List (List ℕ)). slice_get texts 0) paths) ∙ first))
        from-alone (EndsAlone.wanting answer) = inr answer

        from-ended : (looks : List Look) (ended : Option Look) → Ended ask page sides report start one two trees made looks ended → Kept
        from-ended [] None ends = from-alone ends
        from-ended [] (Some look) ends = wants (answer_at look) (copy-wants look ends.0 ends.1) ends.2
        from-ended (look ∷ []) None ends = wants (answer_at look) (last-wants look ends.0 ends.1) ends.2
        from-ended (look ∷ []) (Some other) ends = absurd ends
        from-ended (look ∷ next ∷ looks) None ends = absurd ends
        from-ended (look ∷ next ∷ looks) (Some other) ends = absurd ends

    pub from-worked : (looks : List Look) → HasWorked ask page sides report start one two looks → OrNoMemory answers.Done report.answer
    from-worked looks worked = from-ended worked.trees worked.made looks (ended_copy report.copies) worked.ended
