use Rattle.std.proofs.Common.{◌+◌, List, ◌∷◌, length, drop, refl, ap, ◌∙◌, subst, arith}
use Rattle.hs_plain.specs.declared.plan.CopyJob.{CopyJob}
use Rattle.distcp_plan.proofs.Steps.{next}
use Rattle.distcp_sync.specs.inside.Tried.{AreCopiedWith, AreCopiedUpTo}
use Rattle.distcp_sync.proofs.Tries.{ends_with}
use Rattle.distcp_sync.proofs.CopiesSoFar.{copies_none, copies_more, copies_ended}
use Rattle.distcp_sync.proofs.copying_all.copy_all.Goals as goal

pub loop-number-init : goal.loop-number-init
loop-number-init g c =
    record {
      source_number = refl;
      target_number = refl;
      source_alone = refl;
      target_alone = refl;
      source_stays = g.met.L.NameLink.stays_first c.args.source.now;
      target_stays = g.met.L.NameLink.stays_first c.args.target.now;
      room = c.requires.room;
      copied = copies_none c.args.snap c.args.root.now 0 c.args.jobs.now (g.L.NameLink.known c.args.source.now) (g.L.NameLink.known c.args.target.now) c.args.copies.now.items;
    }

pub returns-in_err-note_copy-clause-stays : goal.returns-in_err-note_copy-clause-stays
returns-in_err-note_copy-clause-stays g c = (
  g.met.L.NameLink.stays_then c.args.source.now c.loop-number.source c.copy_one-copied.new.source c.loop-number.invariant.source_stays c.copy_one-copied.ensures.stays.0,
  g.met.L.NameLink.stays_then c.args.target.now c.loop-number.target c.copy_one-copied.new.target c.loop-number.invariant.target_stays c.copy_one-copied.ensures.stays.1,
)

pub returns-in_err-note_copy-clause-copied : goal.returns-in_err-note_copy-clause-copied
returns-in_err-note_copy-clause-copied g c =
    let first = g.L.NameLink.known c.args.source.now in
    let now = g.L.NameLink.known c.loop-number.source in
    let then = g.L.NameLink.known c.copy_one-copied.new.source in
    let target = g.L.NameLink.known c.args.target.now in
    let target_now = g.L.NameLink.known c.loop-number.target in
    let target_then = g.L.NameLink.known c.copy_one-copied.new.target in
    let snap = c.args.snap in
    let root = c.args.root.now in
    let jobs = c.args.jobs.now in
    let i = c.loop-number.number in
    let job = c.index-jobs-number.result in
    let left = drop (i + 1) jobs in
    let up : AreCopiedUpTo snap root 0 i jobs (job ∷ left) first now target target_now c.args.copies.now.items c.loop-number.copies.items =
    subst (λ (l : List CopyJob). AreCopiedUpTo snap root 0 i jobs l first now target target_now c.args.copies.now.items c.loop-number.copies.items) (next jobs i job c.loop-number-test.true c.index-jobs-number.is) c.loop-number.invariant.copied in
    ends_with c.from_residual.result c.in_err-note_copy.field-0.0 (AreCopiedWith snap root 0 jobs first then target target_then c.args.copies.now.items c.note_copy.new.copies.items) c.from_residual.ensures.1
    (copies_ended snap root 0 i jobs left job first now then target target_now target_then c.args.copies.now.items c.loop-number.copies.items c.note_copy.new.copies.items c.copy_one-copied.result up c.copy_one-copied.ensures.copy c.note_copy.ensures.items
    c.in_err-note_copy.field-0.0 c.in_err-note_copy.ensures.ends)

pub loop-number-preserved : goal.loop-number-preserved
loop-number-preserved g c =
    let first = g.L.NameLink.known c.args.source.now in
    let now = g.L.NameLink.known c.loop-number.source in
    let then = g.L.NameLink.known c.copy_one-copied.new.source in
    let target = g.L.NameLink.known c.args.target.now in
    let target_now = g.L.NameLink.known c.loop-number.target in
    let target_then = g.L.NameLink.known c.copy_one-copied.new.target in
    let snap = c.args.snap in
    let root = c.args.root.now in
    let jobs = c.args.jobs.now in
    let i = c.loop-number.number in
    let job = c.index-jobs-number.result in
    let left = drop (i + 1) jobs in
    let stepped = next jobs i job c.loop-number-test.true c.index-jobs-number.is in
    let up : AreCopiedUpTo snap root 0 i jobs (job ∷ left) first now target target_now c.args.copies.now.items c.loop-number.copies.items =
    subst (λ (l : List CopyJob). AreCopiedUpTo snap root 0 i jobs l first now target target_now c.args.copies.now.items c.loop-number.copies.items) stepped c.loop-number.invariant.copied in
    record {
      source_number = c.copy_one-copied.ensures.numbers.0 ∙ c.loop-number.invariant.source_number;
      target_number = c.copy_one-copied.ensures.numbers.1 ∙ c.loop-number.invariant.target_number;
      source_alone = c.copy_one-copied.ensures.alone.0 ∙ c.loop-number.invariant.source_alone;
      target_alone = c.copy_one-copied.ensures.alone.1 ∙ c.loop-number.invariant.target_alone;
      source_stays = g.met.L.NameLink.stays_then c.args.source.now c.loop-number.source c.copy_one-copied.new.source c.loop-number.invariant.source_stays c.copy_one-copied.ensures.stays.0;
      target_stays = g.met.L.NameLink.stays_then c.args.target.now c.loop-number.target c.copy_one-copied.new.target c.loop-number.invariant.target_stays c.copy_one-copied.ensures.stays.1;
      room = omega (arith, ap length stepped, c.loop-number.invariant.room, c.note_copy.ensures.len, c.note_copy.ensures.capacity);
      copied = copies_more snap root 0 i jobs left job first now then target target_now target_then c.args.copies.now.items c.loop-number.copies.items c.note_copy.new.copies.items c.copy_one-copied.result up c.copy_one-copied.ensures.copy
          c.note_copy.ensures.items c.in_ok-note_copy.ensures.ends;
    }
