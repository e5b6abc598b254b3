use Rattle.std.proofs.Common.{Ok, refl, sym, ◌∙◌}
use Rattle.hs_types.specs.declared.call.Call.TheVariants as calls
use Rattle.hs_types.specs.declared.reply.Reply.TheVariants as replies
use Rattle.hs_plain.specs.Modifying as tests
use Rattle.namenode_write.specs.Outcome.{tick_of}
use Rattle.namenode_write.specs.Rows.{held}
use Rattle.namenode_write.proofs.Causes.{fault-replied}
use Rattle.namenode_write.proofs.Outcomes.{refused-outcome, place-outcome, would-do, place-stands}
use Rattle.namenode_write.proofs.RenameOutcomes.{tick-due, light-enough, rename-outcome}
use Rattle.namenode_write.proofs.rows.renaming.rename.Goals as goal

pub returns-in_err-old : goal.returns-in_err-old
returns-in_err-old g c =
    refused-outcome g.B.BlockStore.blocks g.B.BlockStore.greatest g.B.BlockStore.faults c.args.space.now (calls.Rename c.args.old.now c.args.new.now) c.from_residual.result c.in_err-old.field-0.0 c.from_residual.ensures.1 c.requires.standing
    (λ state stands. fault-replied replies.Done (tests.rename_at state c.args.old.now c.args.new.now) c.in_err-old.field-0.0 (c.in_err-old.ensures state stands))

pub returns-in_err-tick : goal.returns-in_err-tick
returns-in_err-tick g c =
    place-outcome g.B.BlockStore.blocks g.B.BlockStore.greatest g.B.BlockStore.faults c.args.space.now c.make_place.new.space (calls.Rename c.args.old.now c.args.new.now) c.from_residual-in_err-tick.result c.in_err-tick.field-0.0
    c.from_residual-in_err-tick.ensures.1 c.in_err-tick.ensures.fault c.in_err-tick.ensures.refused c.make_place.ensures.kept c.make_place.ensures.journal
    (λ state stands. would-do replies.Done (tests.rename_at state c.args.old.now c.args.new.now) _ (c.in_ok-old.ensures state stands) refl)

pub move_node-requires-clause-may : goal.move_node-requires-clause-may
move_node-requires-clause-may g c =
    let before = c.args.space.now in
    let standing = c.requires.standing in
    let all = standing.1.stands in
    let due = tick-due (held g.B.BlockStore.blocks g.B.BlockStore.greatest before) (tick_of before) standing.0 standing.1 in (
      all.state,
      place-stands before c.make_place.new.space c.make_place.ensures.kept all.state all.stands,
      c.in_ok-tick.ensures.tick ∙ due,
      c.args.old.now,
      c.args.new.now,
      c.in_ok-old.ensures all.state all.stands ∙ (λ i. Ok (sym c.items.ensures i, sym c.items-2.ensures i)),
    )

pub move_node-requires-clause-light : goal.move_node-requires-clause-light
move_node-requires-clause-light g c =
    light-enough g.B.BlockStore.blocks g.B.BlockStore.greatest g.B.BlockStore.faults c.args.space.now c.make_place.new.space c.args.old.now c.args.new.now (c.in_ok-old.old, c.in_ok-old.new)
    c.make_place.ensures.kept c.make_place.ensures.journal c.in_ok-old.ensures c.in_ok-tick.ensures.place c.requires.standing.0 c.requires.standing.1

pub returns : goal.returns
returns g c =
    rename-outcome g.B.BlockStore.blocks g.B.BlockStore.greatest g.B.BlockStore.faults c.args.space.now c.make_place.new.space c.args.old.now c.args.new.now (c.items.result.now, c.items-2.result.now)
    c.make_place.ensures.kept c.make_place.ensures.journal
    (λ state stands. c.in_ok-old.ensures state stands ∙ (λ i. Ok (sym c.items.ensures i, sym c.items-2.ensures i)))
    c.move_node.new.table c.in_ok-tick.tick c.in_ok-tick.ensures.tick c.in_ok-move_node.ensures.moved c.in_ok-tick.ensures.place
