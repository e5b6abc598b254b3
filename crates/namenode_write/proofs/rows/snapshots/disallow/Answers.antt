use Rattle.std.proofs.Common.{refl, ap, ◌∙◌}
use Rattle.hs_types.specs.declared.call.Call.TheVariants as calls
use Rattle.hs_types.specs.declared.reply.Reply.TheVariants as replies
use Rattle.hs_plain.specs.Snapshotting.{disallow_at}
use Rattle.snapshot_manager.specs.Snapshots.{Snapshots, snaps_in}
use Rattle.inode_table.specs.Kept.{told}
use Rattle.namenode_write.proofs.Causes.{fault-replied}
use Rattle.namenode_write.proofs.Outcomes.{refused-outcome, place-outcome, would-do}
use Rattle.namenode_write.proofs.SnapCalls.{disallow-outcome, own-snaps}
use Rattle.namenode_write.proofs.SnapTests.{none-there}
use Rattle.namenode_write.proofs.rows.snapshots.disallow.Goals as goal

pub returns-in_err-dir : goal.returns-in_err-dir
returns-in_err-dir g c =
    refused-outcome g.B.BlockStore.blocks g.B.BlockStore.greatest g.B.BlockStore.faults c.args.space.now (calls.Disallow c.args.path.now) c.from_residual.result c.in_err-dir.field-0.0 c.from_residual.ensures.1 c.requires.standing
    (λ state stands. fault-replied replies.Done (disallow_at state c.args.path.now) c.in_err-dir.field-0.0 (c.in_err-dir.ensures state stands))

pub returns-in_err-make_place : goal.returns-in_err-make_place
returns-in_err-make_place g c =
    place-outcome g.B.BlockStore.blocks g.B.BlockStore.greatest g.B.BlockStore.faults c.args.space.now c.make_place.new.space (calls.Disallow c.args.path.now) c.from_residual-in_err-make_place.result c.in_err-make_place.field-0.0
    c.from_residual-in_err-make_place.ensures.1 c.in_err-make_place.ensures.fault c.in_err-make_place.ensures.refused c.make_place.ensures.kept c.make_place.ensures.journal
    (λ state stands. would-do replies.Done (disallow_at state c.args.path.now) c.in_ok-dir.dir (c.in_ok-dir.ensures state stands) refl)

pub disallow-requires : goal.disallow-requires
disallow-requires g c =
    let all = c.requires.standing.1.stands in
    ap (λ (s : Snapshots). snaps_in s c.in_ok-dir.dir) (own-snaps c.args.space.now c.make_place.new.space c.make_place.ensures.kept)
    ∙ none-there (told c.args.space.now.table) c.args.space.now.snaps all.state all.stands c.args.path.now c.in_ok-dir.dir (c.in_ok-dir.ensures all.state all.stands)

pub returns : goal.returns
returns g c = disallow-outcome g.B.BlockStore.blocks g.B.BlockStore.greatest g.B.BlockStore.faults c.args.space.now c.make_place.new.space c.make_place.ensures.kept c.make_place.ensures.journal c.in_ok-make_place.ensures.place c.args.path.now c.in_ok-dir.dir c.disallow.new.self c.in_ok-dir.ensures c.disallow.ensures
