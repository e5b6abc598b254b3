use Rattle.std.proofs.Common.{refl}
use Rattle.hs_types.specs.declared.call.Call.TheVariants as calls
use Rattle.hs_types.specs.declared.reply.Reply.TheVariants as replies
use Rattle.hs_plain.specs.Modifying.{delete_at}
use Rattle.namenode_write.specs.declared.rows.space.RowSpace.{RowSpace}
use Rattle.namenode_write.proofs.Causes.{fault-replied}
use Rattle.namenode_write.proofs.DeletedCalls.{below-root}
use Rattle.namenode_write.proofs.DeletedOutcomes.{IsReady, remove-can, remove-free, remove-store, remove-journal, remove-limit, remove-place, remove-done, remove-light}
use Rattle.namenode_write.proofs.FreedOutcomes.{freed-outcome}
use Rattle.namenode_write.proofs.Outcomes.{refused-outcome, place-outcome, would-do}
use Rattle.namenode_write.proofs.rows.deleting.delete.Goals as goal

pub returns-in_err-path : goal.returns-in_err-path
returns-in_err-path g c =
    refused-outcome g.B.BlockStore.blocks g.B.BlockStore.greatest g.B.BlockStore.faults c.args.space.now (calls.Delete c.args.path.now c.args.recursive) c.from_residual.result c.in_err-path.field-0.0 c.from_residual.ensures.1 c.requires.standing
    (λ state all. fault-replied replies.Done (delete_at state c.args.path.now c.args.recursive) c.in_err-path.field-0.0 (c.in_err-path.ensures state all))

pub returns-in_err-tick : goal.returns-in_err-tick
returns-in_err-tick g c =
    place-outcome g.B.BlockStore.blocks g.B.BlockStore.greatest g.B.BlockStore.faults c.args.space.now c.make_place.new.space (calls.Delete c.args.path.now c.args.recursive) c.from_residual-in_err-tick.result c.in_err-tick.field-0.0
    c.from_residual-in_err-tick.ensures.1 c.in_err-tick.ensures.fault c.in_err-tick.ensures.refused c.make_place.ensures.kept c.make_place.ensures.journal
    (λ state all. would-do replies.Done (delete_at state c.args.path.now c.args.recursive) _ (c.in_ok-path.ensures state all) refl)

pub going_at-requires : goal.going_at-requires
going_at-requires g c = let all = c.requires.standing.1.stands in below-root all.state c.args.path.now c.args.recursive c.in_ok-path.path (c.in_ok-path.ensures all.state all.stands)

pub remove-requires-clause-can : goal.remove-requires-clause-can
remove-requires-clause-can g c =
    let ready : IsReady g.B.BlockStore.blocks g.B.BlockStore.greatest c.args.space.now c.make_place.new.space c.make_ready.new.space c.args.path.now c.args.recursive c.in_ok-path.path c.in_ok-going.going = record {
      kept = c.make_place.ensures.kept;
      items = c.make_place.ensures.journal;
      same = c.make_ready.ensures.same;
      waiting = c.make_ready.ensures.waiting;
      rest = c.make_ready.ensures.rest;
      asked = c.in_ok-path.ensures;
      found = c.in_ok-going.ensures;
    } in
    remove-can ready c.requires.standing

pub remove-requires-clause-free : goal.remove-requires-clause-free
remove-requires-clause-free g c =
    let ready : IsReady g.B.BlockStore.blocks g.B.BlockStore.greatest c.args.space.now c.make_place.new.space c.make_ready.new.space c.args.path.now c.args.recursive c.in_ok-path.path c.in_ok-going.going = record {
      kept = c.make_place.ensures.kept;
      items = c.make_place.ensures.journal;
      same = c.make_ready.ensures.same;
      waiting = c.make_ready.ensures.waiting;
      rest = c.make_ready.ensures.rest;
      asked = c.in_ok-path.ensures;
      found = c.in_ok-going.ensures;
    } in
    remove-free ready c.requires.standing

pub returns : goal.returns
returns g c =
    let ready : IsReady g.B.BlockStore.blocks g.B.BlockStore.greatest c.args.space.now c.make_place.new.space c.make_ready.new.space c.args.path.now c.args.recursive c.in_ok-path.path c.in_ok-going.going = record {
      kept = c.make_place.ensures.kept;
      items = c.make_place.ensures.journal;
      same = c.make_ready.ensures.same;
      waiting = c.make_ready.ensures.waiting;
      rest = c.make_ready.ensures.rest;
      asked = c.in_ok-path.ensures;
      found = c.in_ok-going.ensures;
    } in
    let middle = c.remove.new.space in
    let after : RowSpace g.row.B.Denot = record middle { store = c.free_waiting.new.store; waiting = c.free_waiting.new.waiting } in
    let tick = c.in_ok-tick.tick in
    let now = c.in_ok-tick.ensures.tick in
    let step = c.remove.ensures in
    freed-outcome g.B.BlockStore.blocks g.B.BlockStore.greatest g.B.BlockStore.faults c.args.space.now middle after (calls.Delete c.args.path.now c.args.recursive) replies.Done (remove-done ready middle tick now step) (remove-light ready middle tick now step)
    (remove-store ready middle tick now step) (remove-journal ready middle tick now step) (remove-limit ready middle tick now step) (remove-place ready middle tick now step c.in_ok-tick.ensures.place) refl refl refl
    refl c.free_waiting.ensures.standing c.free_waiting.ensures.tells c.free_waiting.ensures.count c.free_waiting.ensures.freed
