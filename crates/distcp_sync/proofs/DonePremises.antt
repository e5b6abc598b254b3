-- What an unhindered sync's first replies tell of the premises' snapshots, and that its target is unchanged.
use Rattle.std.proofs.Common.{◌≡◌, ℕ, true, List, [], take, refl, ap, sym, subst, ◌∙◌, arith}
use Rattle.hs_types.specs.declared.ids.Side.TheVariants.{Target}
use Rattle.hs_types.specs.declared.ids.InodeId.{InodeId}
use Rattle.hs_plain.specs.Answer.{answer, is_ok_reply}
use Rattle.hs_plain.specs.Joined.{lines_shown}
use Rattle.hs_plain.specs.Reading.{lines_between}
use Rattle.hs_plain.specs.Span.{IsInSpan, touches}
use Rattle.hs_plain.specs.Premises.{SyncAsk, IsUndisturbed, IsUnhindered, now}
use Rattle.hs_plain.proofs.ValidLists.{In, by_test}
use Rattle.sync_laws.specs.Lasting.{IsWithin, IsUntouched, front_of}
use Rattle.sync_laws.specs.Shown.{IsSnapshotOf, ShowsLines}
use Rattle.sync_laws.proofs.Snapshots.{valid-at}
use Rattle.sync_laws.proofs.Shown.{first-to_now}
use Rattle.sync_laws.proofs.Untouched.{reports-stay}
use Rattle.copy_workers.specs.declared.copied.Look.{Look}
use Rattle.distcp_sync.specs.declared.start.SyncStart.{SyncStart}
use Rattle.distcp_sync.specs.Told.{unchanged_call}
use Rattle.distcp_sync.specs.Steps.{SyncSides, state_at, IsHeard, places_in}
use Rattle.distcp_sync.proofs.Replied.{IsFree, heard-within, heard-lines}
use Rattle.distcp_sync.proofs.SpanOwn.{place-there}
use Rattle.distcp_sync.proofs.Premised.{IsPremised, premised, lives}

module _ (ask : SyncAsk) (sides : SyncSides) (undisturbed : IsUndisturbed ask sides.source sides.target) (unhindered : IsUnhindered ask sides.source sides.target undisturbed) where
  pub source-free : IsFree sides.source
  source-free = record { faultless = unhindered.source_faults; room = unhindered.source_room }

  pub target-free : IsFree sides.target
  target-free = record { faultless = unhindered.target_faults; room = unhindered.target_room }

  pub from-premised : IsPremised sides.source ask.source_root undisturbed.begins.from
  from-premised = premised sides.source ask.source_root ask.from undisturbed.begins.from undisturbed.begins.has_from undisturbed.from_stays

  pub to-premised : IsPremised sides.source ask.source_root undisturbed.begins.to
  to-premised = premised sides.source ask.source_root ask.to undisturbed.begins.to undisturbed.begins.has_to undisturbed.to_stays

  pub base-premised : IsPremised sides.target ask.target_root undisturbed.begins.base
  base-premised = premised sides.target ask.target_root ask.from undisturbed.begins.base undisturbed.begins.has_base undisturbed.base_stays

  -- where the sync begins, by the premises' snapshots
  abbrev pub begins-at : InodeId → InodeId → SyncStart
  begins-at source target = record { source = source; target = target; from = undisturbed.begins.from.snapshot; to = undisturbed.begins.to.snapshot; base = undisturbed.begins.base.snapshot }

  -- the directories that were told are those of the premises' snapshots
  pub record HasDirs (source target : InodeId) (one two : Look) : Type 0 where
    pub first_within : IsWithin sides.source.span one.reply.position
    pub second_within : IsWithin sides.target.span two.reply.position
    pub from_dir : source ≡ undisturbed.begins.from.directory
    pub to_dir : source ≡ undisturbed.begins.to.directory
    pub base_dir : target ≡ undisturbed.begins.base.directory

  -- ---- the target's report from its `from` to now

  module _ (source target : InodeId) (is_dir : target ≡ undisturbed.begins.base.directory) (three : Look) (heard : IsHeard sides Target (unchanged_call (begins-at source target)) three) where
    within : IsWithin sides.target.span three.reply.position
    within = heard-within sides Target (unchanged_call (begins-at source target)) three heard

    base-here : IsSnapshotOf (state_at sides.target three) target undisturbed.begins.base.snapshot
    base-here = record {
      member = undisturbed.begins.base;
      live = lives sides.target ask.target_root undisturbed.begins.base base-premised three.reply.position within;
      own = sym is_dir;
    }

    shown : ShowsLines (answer (state_at sides.target three) (unchanged_call (begins-at source target))) (take 1 (lines_between (state_at sides.target three) target undisturbed.begins.base.snapshot now))
    shown = first-to_now (state_at sides.target three) target undisturbed.begins.base.snapshot 1 (valid-at sides.target.journal three.reply.position) base-here

    pub third-ok : is_ok_reply (answer (state_at sides.target three) (unchanged_call (begins-at source target))) ≡ true
    third-ok = shown.ok

    -- where the sync made no entry, no entry touches the target's root
    untouched : places_in sides.target ≡ [] → IsUntouched sides.target.journal (front_of sides.target.span three.reply.position) ask.target_root
    untouched none index entry at = by_test (touches ask.target_root entry)
        (λ near.
        let inside : IsInSpan sides.target.journal sides.target.span index entry = record { from = at.from; below = omega (arith, at.below, within.up_to); there = at.there } in
        absurd (subst (λ (places : List ℕ). In places index) none (place-there sides.target index entry inside (undisturbed.quiet index entry inside near))))
        (λ far. far)

    -- so its report has no line
    pub no-line : places_in sides.target ≡ [] → is_ok_reply three.reply.reply ≡ true → lines_shown three.reply.reply ≡ []
    no-line none ok =
        let stays : lines_between (state_at sides.target three) undisturbed.begins.base.directory undisturbed.begins.base.snapshot now ≡ [] =
        reports-stay sides.target.journal sides.target.span three.reply.position ask.target_root undisturbed.begins.base.directory undisturbed.begins.base.snapshot undisturbed.begins.base within undisturbed.base_stays (untouched none)
        base-premised.begins refl base-premised.leads ∙ undisturbed.unchanged in
        heard-lines sides Target (unchanged_call (begins-at source target)) three heard target-free ok
        ∙ (shown.shown ∙ ap (take 1) (ap (λ (dir : InodeId). lines_between (state_at sides.target three) dir undisturbed.begins.base.snapshot now) is_dir ∙ stays))
