use Rattle.std.proofs.Common.{Ok, ap, sym, ◌∙◌, refl}
use Rattle.hs_types.specs.declared.call.Call.TheVariants as calls
use Rattle.hs_plain.specs.Answer.{made_reply}
use Rattle.hs_plain.specs.Modifying as tests
use Rattle.namenode_write.proofs.Causes.{fault-replied}
use Rattle.namenode_write.proofs.MadeOutcomes.{dir-asked, mkdir-outcome}
use Rattle.namenode_write.proofs.Outcomes.{refused-outcome, place-outcome, would-do}
use Rattle.namenode_write.proofs.rows.making_nodes.mkdir.Goals as goal

pub returns-in_err-path : goal.returns-in_err-path
returns-in_err-path g c =
    refused-outcome g.B.BlockStore.blocks g.B.BlockStore.greatest g.B.BlockStore.faults c.args.space.now (calls.Mkdir c.args.path.now) c.from_residual.result c.in_err-path.field-0.0 c.from_residual.ensures.1 c.requires.standing
    (λ state stands. fault-replied (made_reply state) (tests.mkdir_at state c.args.path.now) c.in_err-path.field-0.0 (c.in_err-path.ensures c.args.space.now.snaps state stands))

pub returns-in_err-tick : goal.returns-in_err-tick
returns-in_err-tick g c =
    place-outcome g.B.BlockStore.blocks g.B.BlockStore.greatest g.B.BlockStore.faults c.args.space.now c.make_place.new.space (calls.Mkdir c.args.path.now) c.from_residual-in_err-tick.result c.in_err-tick.field-0.0
    c.from_residual-in_err-tick.ensures.1 c.in_err-tick.ensures.fault c.in_err-tick.ensures.refused c.make_place.ensures.kept c.make_place.ensures.journal
    (λ state stands. would-do (made_reply state) (tests.mkdir_at state c.args.path.now) _ (c.in_ok-path.ensures c.args.space.now.snaps state stands) refl)

pub new_dir-requires-clause-asks : goal.new_dir-requires-clause-asks
new_dir-requires-clause-asks g c =
    dir-asked g.B.BlockStore.blocks g.B.BlockStore.greatest g.B.BlockStore.faults c.args.space.now c.make_place.new.space c.make_place.ensures.kept c.args.path.now c.items.result.now c.in_ok-tick.tick c.in_ok-tick.ensures.tick
    (λ state stands. c.in_ok-path.ensures c.args.space.now.snaps state stands ∙ ap Ok (sym c.items.ensures)) c.requires.standing

pub returns : goal.returns
returns g c =
    mkdir-outcome g.B.BlockStore.blocks g.B.BlockStore.greatest g.B.BlockStore.faults c.args.space.now c.make_place.new.space c.make_place.ensures.kept c.args.path.now c.items.result.now c.in_ok-tick.tick c.in_ok-tick.ensures.tick
    (λ state stands. c.in_ok-path.ensures c.args.space.now.snaps state stands ∙ ap Ok (sym c.items.ensures)) c.new_dir.new.table c.in_ok-id.id c.in_ok-id.ensures.called c.make_place.ensures.journal c.in_ok-tick.ensures.place
