use Rattle.std.proofs.Common.{refl}
use Rattle.hs_types.specs.declared.call.Call.TheVariants as calls
use Rattle.hs_types.specs.declared.reply.Reply.TheVariants as replies
use Rattle.hs_plain.specs.Snapshotting.{allow_at}
use Rattle.namenode_write.proofs.Causes.{fault-replied}
use Rattle.namenode_write.proofs.Outcomes.{refused-outcome, place-outcome, memory-outcome, would-do}
use Rattle.namenode_write.proofs.SnapCalls.{snaps-alike, allow-outcome}
use Rattle.namenode_write.proofs.rows.snapshots.allow.Goals as goal

pub returns-in_err-dir : goal.returns-in_err-dir
returns-in_err-dir g c =
    refused-outcome g.B.BlockStore.blocks g.B.BlockStore.greatest g.B.BlockStore.faults c.args.space.now (calls.Allow c.args.path.now) c.from_residual.result c.in_err-dir.field-0.0 c.from_residual.ensures.1 c.requires.standing
    (λ state stands. fault-replied replies.Done (allow_at state c.args.path.now) c.in_err-dir.field-0.0 (c.in_err-dir.ensures state stands))

pub returns-in_err-make_place : goal.returns-in_err-make_place
returns-in_err-make_place g c =
    place-outcome g.B.BlockStore.blocks g.B.BlockStore.greatest g.B.BlockStore.faults c.args.space.now c.make_place.new.space (calls.Allow c.args.path.now) c.from_residual-in_err-make_place.result c.in_err-make_place.field-0.0
    c.from_residual-in_err-make_place.ensures.1 c.in_err-make_place.ensures.fault c.in_err-make_place.ensures.refused c.make_place.ensures.kept c.make_place.ensures.journal
    (λ state stands. would-do replies.Done (allow_at state c.args.path.now) c.in_ok-dir.dir (c.in_ok-dir.ensures state stands) refl)

pub returns-in_err-allow : goal.returns-in_err-allow
returns-in_err-allow g c =
    memory-outcome g.B.BlockStore.blocks g.B.BlockStore.greatest g.B.BlockStore.faults c.args.space.now _ (calls.Allow c.args.path.now) c.from_residual-in_err-allow.result c.from_residual-in_err-allow.ensures.1
    (snaps-alike g.B.BlockStore.blocks g.B.BlockStore.greatest g.B.BlockStore.faults c.args.space.now c.make_place.new.space c.make_place.ensures.kept c.make_place.ensures.journal c.allow.new.self c.in_err-allow.ensures.err)

pub returns : goal.returns
returns g c = allow-outcome g.B.BlockStore.blocks g.B.BlockStore.greatest g.B.BlockStore.faults c.args.space.now c.make_place.new.space c.make_place.ensures.kept c.make_place.ensures.journal c.in_ok-make_place.ensures.place c.args.path.now c.in_ok-dir.dir c.allow.new.self c.always.ensures.proper c.in_ok-dir.ensures c.in_ok-allow.ensures.ok
