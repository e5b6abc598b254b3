use Rattle.std.proofs.Common.{ℕ, List, refl, ap, ◌∙◌}
use Rattle.hs_types.specs.declared.call.Call.TheVariants as calls
use Rattle.hs_types.specs.declared.reply.Reply.TheVariants as replies
use Rattle.hs_plain.specs.Snapshotting.{snap_ren_at}
use Rattle.snapshot_manager.specs.Snapshots.{snaps_in, is_named, changed, renamed}
use Rattle.inode_table.specs.Kept.{told}
use Rattle.namenode_write.proofs.Causes.{fault-replied}
use Rattle.namenode_write.proofs.Outcomes.{refused-outcome, place-outcome, would-do}
use Rattle.namenode_write.proofs.SnapCalls.{snap_ren-outcome, placed-other}
use Rattle.namenode_write.proofs.SnapTests.{takes-other}
use Rattle.namenode_write.proofs.rows.snapshots.snap_ren.Goals as goal

pub returns-in_err-at : goal.returns-in_err-at
returns-in_err-at g c =
    refused-outcome g.B.BlockStore.blocks g.B.BlockStore.greatest g.B.BlockStore.faults c.args.space.now (calls.SnapRen c.args.path.now c.args.old.now c.args.new.now) c.from_residual.result c.in_err-at.field-0.0 c.from_residual.ensures.1 c.requires.standing
    (λ state stands. fault-replied replies.Done (snap_ren_at state c.args.path.now c.args.old.now c.args.new.now) c.in_err-at.field-0.0 (c.in_err-at.ensures.asked state stands))

pub returns-in_err-make_place : goal.returns-in_err-make_place
returns-in_err-make_place g c =
    place-outcome g.B.BlockStore.blocks g.B.BlockStore.greatest g.B.BlockStore.faults c.args.space.now c.make_place.new.space (calls.SnapRen c.args.path.now c.args.old.now c.args.new.now) c.from_residual-in_err-make_place.result c.in_err-make_place.field-0.0
    c.from_residual-in_err-make_place.ensures.1 c.in_err-make_place.ensures.fault c.in_err-make_place.ensures.refused c.make_place.ensures.kept c.make_place.ensures.journal
    (λ state stands. would-do replies.Done (snap_ren_at state c.args.path.now c.args.old.now c.args.new.now) c.in_ok-at.at.id (c.in_ok-at.ensures.asked state stands) refl)

pub rename_free-requires-clause-fresh : goal.rename_free-requires-clause-fresh
rename_free-requires-clause-fresh g c =
    let all = c.requires.standing.1.stands in
    ap (λ (n : List ℕ). is_named n (snaps_in c.make_place.new.space.snaps c.in_ok-at.at.dir)) c.in_ok-at.ensures.names.1
    ∙ (placed-other c.args.space.now c.make_place.new.space c.make_place.ensures.kept c.in_ok-at.at.dir c.args.old.now c.args.new.now
    (takes-other (told c.args.space.now.table) c.args.space.now.snaps all.state all.stands c.args.path.now c.args.old.now c.args.new.now c.in_ok-at.at.dir c.in_ok-at.at.id (c.in_ok-at.ensures.dir all.state all.stands) (c.in_ok-at.ensures.asked all.state all.stands))).fresh

pub rename_free-requires-clause-found : goal.rename_free-requires-clause-found
rename_free-requires-clause-found g c =
    let all = c.requires.standing.1.stands in
    ap (λ (n : List ℕ). is_named n (snaps_in c.make_place.new.space.snaps c.in_ok-at.at.dir)) c.in_ok-at.ensures.names.0
    ∙ (placed-other c.args.space.now c.make_place.new.space c.make_place.ensures.kept c.in_ok-at.at.dir c.args.old.now c.args.new.now
    (takes-other (told c.args.space.now.table) c.args.space.now.snaps all.state all.stands c.args.path.now c.args.old.now c.args.new.now c.in_ok-at.at.dir c.in_ok-at.at.id (c.in_ok-at.ensures.dir all.state all.stands) (c.in_ok-at.ensures.asked all.state all.stands))).found

pub returns : goal.returns
returns g c = snap_ren-outcome g.B.BlockStore.blocks g.B.BlockStore.greatest g.B.BlockStore.faults c.args.space.now c.make_place.new.space c.make_place.ensures.kept c.make_place.ensures.journal c.in_ok-make_place.ensures.place c.args.path.now c.args.old.now c.args.new.now c.in_ok-at.at.dir c.in_ok-at.at.id c.rename_free.new.snaps
    c.in_ok-at.ensures.dir c.in_ok-at.ensures.asked
    (c.in_ok-rename_free.ensures.ok ∙ ap (λ (n : List ℕ). changed c.in_ok-at.at.dir (renamed n c.in_ok-at.at.new) c.make_place.new.space.snaps) c.in_ok-at.ensures.names.0
    ∙ ap (λ (n : List ℕ). changed c.in_ok-at.at.dir (renamed c.args.old.now n) c.make_place.new.space.snaps) c.in_ok-at.ensures.names.1)
