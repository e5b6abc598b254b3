use Rattle.std.proofs.Common.{ℕ, List, length, refl, ap, ◌∙◌, arith}
use Rattle.hs_types.specs.declared.call.Call.TheVariants as calls
use Rattle.hs_plain.specs.Answer.{snap_made_reply}
use Rattle.hs_plain.specs.Snapshotting.{snap_at}
use Rattle.snapshot_manager.specs.Snapshots.{Snapshots, snaps_in, is_named, added}
use Rattle.inode_table.specs.Kept.{told}
use Rattle.namenode_write.specs.Outcome.{tick_of}
use Rattle.namenode_write.specs.Rows.{held}
use Rattle.namenode_write.proofs.Causes.{fault-replied}
use Rattle.namenode_write.proofs.Outcomes.{refused-outcome, place-outcome, would-do}
use Rattle.namenode_write.proofs.SnapCalls.{snap-outcome, own-snaps, placed-one, id-left}
use Rattle.namenode_write.proofs.SnapTests.{takes-one, dir-so}
use Rattle.namenode_write.proofs.rows.snapshots.snap.Goals as goal

pub returns-in_err-dir : goal.returns-in_err-dir
returns-in_err-dir g c =
    refused-outcome g.B.BlockStore.blocks g.B.BlockStore.greatest g.B.BlockStore.faults c.args.space.now (calls.Snap c.args.path.now c.args.name.now) c.from_residual.result c.in_err-dir.field-0.0 c.from_residual.ensures.1 c.requires.standing
    (λ state stands. fault-replied (snap_made_reply state) (snap_at state c.args.path.now c.args.name.now) c.in_err-dir.field-0.0 (c.in_err-dir.ensures.asked state stands))

pub returns-in_err-tick : goal.returns-in_err-tick
returns-in_err-tick g c =
    place-outcome g.B.BlockStore.blocks g.B.BlockStore.greatest g.B.BlockStore.faults c.args.space.now c.make_place.new.space (calls.Snap c.args.path.now c.args.name.now) c.from_residual-in_err-tick.result c.in_err-tick.field-0.0
    c.from_residual-in_err-tick.ensures.1 c.in_err-tick.ensures.fault c.in_err-tick.ensures.refused c.make_place.ensures.kept c.make_place.ensures.journal
    (λ state stands. let d = dir-so (snap_at state c.args.path.now c.args.name.now) c.in_ok-dir.dir (c.in_ok-dir.ensures.asked state stands) in
    would-do (snap_made_reply state) (snap_at state c.args.path.now c.args.name.now) d.0 d.1 refl)

pub add_free-requires-clause-snapshottable : goal.add_free-requires-clause-snapshottable
add_free-requires-clause-snapshottable g c =
    let all = c.requires.standing.1.stands in
    (placed-one c.args.space.now c.make_place.new.space c.make_place.ensures.kept c.in_ok-dir.dir c.args.name.now
    (takes-one (told c.args.space.now.table) c.args.space.now.snaps all.state all.stands c.args.path.now c.args.name.now c.in_ok-dir.dir (c.in_ok-dir.ensures.asked all.state all.stands))).snapshottable

pub add_free-requires-clause-fresh : goal.add_free-requires-clause-fresh
add_free-requires-clause-fresh g c =
    let all = c.requires.standing.1.stands in
    ap (λ (n : List ℕ). is_named n (snaps_in c.make_place.new.space.snaps c.in_ok-dir.dir)) c.in_ok-dir.ensures.name
    ∙ (placed-one c.args.space.now c.make_place.new.space c.make_place.ensures.kept c.in_ok-dir.dir c.args.name.now
    (takes-one (told c.args.space.now.table) c.args.space.now.snaps all.state all.stands c.args.path.now c.args.name.now c.in_ok-dir.dir (c.in_ok-dir.ensures.asked all.state all.stands))).fresh

pub add_free-requires-clause-below_limit : goal.add_free-requires-clause-below_limit
add_free-requires-clause-below_limit g c =
    let all = c.requires.standing.1.stands in
    (placed-one c.args.space.now c.make_place.new.space c.make_place.ensures.kept c.in_ok-dir.dir c.args.name.now
    (takes-one (told c.args.space.now.table) c.args.space.now.snaps all.state all.stands c.args.path.now c.args.name.now c.in_ok-dir.dir (c.in_ok-dir.ensures.asked all.state all.stands))).below_limit

pub add_free-requires-clause-room : goal.add_free-requires-clause-room
add_free-requires-clause-room g c =
    let few = id-left (held g.B.BlockStore.blocks g.B.BlockStore.greatest c.args.space.now) (tick_of c.args.space.now) c.requires.standing in
    let same = ap (λ (s : Snapshots). s.issued.0) (own-snaps c.args.space.now c.make_place.new.space c.make_place.ensures.kept) in
    let entries = ap length c.make_place.ensures.journal in
    let below = c.in_ok-tick.ensures.place.below in
    let most = c.in_ok-tick.ensures.place.most in
    omega (arith, few, same, entries, below, most)

pub returns : goal.returns
returns g c = snap-outcome g.B.BlockStore.blocks g.B.BlockStore.greatest g.B.BlockStore.faults c.args.space.now c.make_place.new.space c.make_place.ensures.kept c.make_place.ensures.journal c.in_ok-tick.ensures.place c.args.path.now c.args.name.now c.in_ok-dir.dir c.in_ok-id.id c.in_ok-tick.tick c.add_free.new.snaps
    c.in_ok-dir.ensures.asked c.in_ok-id.ensures.next_id c.in_ok-tick.ensures.tick
    (c.in_ok-id.ensures.ok ∙ ap (λ (n : List ℕ). added c.in_ok-dir.dir (record { id = c.in_ok-id.id; tick = c.in_ok-tick.tick; name = n }) c.make_place.new.space.snaps) c.in_ok-dir.ensures.name)
