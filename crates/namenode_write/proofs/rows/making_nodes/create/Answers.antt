use Rattle.std.proofs.Common.{Ok, ap, sym, ◌∙◌, refl}
use Rattle.hs_types.specs.declared.call.Call.TheVariants as calls
use Rattle.hs_plain.specs.Answer.{made_reply}
use Rattle.hs_plain.specs.Modifying as tests
use Rattle.namenode_write.specs.declared.rows.space.RowSpace.{RowSpace}
use Rattle.namenode_write.proofs.Causes.{fault-replied}
use Rattle.namenode_write.proofs.MadeOutcomes.{file-asked, create-outcome}
use Rattle.namenode_write.proofs.Outcomes.{refused-outcome, place-outcome, would-do}
use Rattle.namenode_write.proofs.rows.making_nodes.create.Goals as goal

pub returns-in_err-path : goal.returns-in_err-path
returns-in_err-path g c =
    refused-outcome g.B.BlockStore.blocks g.B.BlockStore.greatest g.B.BlockStore.faults c.args.space.now (calls.Create c.args.path.now c.args.over) c.from_residual.result c.in_err-path.field-0.0 c.from_residual.ensures.1 c.requires.standing
    (λ state stands. fault-replied (made_reply state) (tests.create_at state c.args.path.now c.args.over) c.in_err-path.field-0.0 (c.in_err-path.ensures c.args.space.now.snaps state stands))

pub returns-in_err-tick : goal.returns-in_err-tick
returns-in_err-tick g c =
    place-outcome g.B.BlockStore.blocks g.B.BlockStore.greatest g.B.BlockStore.faults c.args.space.now c.make_place.new.space (calls.Create c.args.path.now c.args.over) c.from_residual-in_err-tick.result c.in_err-tick.field-0.0
    c.from_residual-in_err-tick.ensures.1 c.in_err-tick.ensures.fault c.in_err-tick.ensures.refused c.make_place.ensures.kept c.make_place.ensures.journal
    (λ state stands. would-do (made_reply state) (tests.create_at state c.args.path.now c.args.over) _ (c.in_ok-path.ensures c.args.space.now.snaps state stands) refl)

pub put_file-requires-clause-asks : goal.put_file-requires-clause-asks
put_file-requires-clause-asks g c =
    file-asked g.B.BlockStore.blocks g.B.BlockStore.greatest g.B.BlockStore.faults c.args.space.now c.make_place.new.space c.make_place.ensures.kept c.args.path.now c.items.result.now c.in_ok-tick.tick c.in_ok-tick.ensures.tick c.args.over
    (λ state stands. c.in_ok-path.ensures c.args.space.now.snaps state stands ∙ ap Ok (sym c.items.ensures)) c.requires.standing

pub returns : goal.returns
returns g c =
    let middle : RowSpace g.row.B.Denot = record c.make_place.new.space { table = c.put_file.new.table; waiting = c.put_file.new.waiting } in
    let after : RowSpace g.row.B.Denot = record middle { store = c.free_waiting.new.store; waiting = c.free_waiting.new.waiting } in
    create-outcome g.B.BlockStore.blocks g.B.BlockStore.greatest g.B.BlockStore.faults c.args.space.now c.make_place.new.space c.make_place.ensures.kept c.args.path.now c.items.result.now c.in_ok-tick.tick c.in_ok-tick.ensures.tick c.args.over
    (λ state stands. c.in_ok-path.ensures c.args.space.now.snaps state stands ∙ ap Ok (sym c.items.ensures)) middle after c.in_ok-id.id refl c.in_ok-id.ensures.put c.make_place.ensures.journal c.in_ok-tick.ensures.place refl
    c.free_waiting.ensures.standing c.free_waiting.ensures.tells c.free_waiting.ensures.count c.free_waiting.ensures.freed
