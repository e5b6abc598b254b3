use Rattle.std.proofs.Common.{ℕ, not, List, sym, ap, subst, ◌∙◌}
use Rattle.hs_types.specs.Names.{is_name}
use Rattle.hs_types.specs.declared.ids.InodeId.{InodeId}
use Rattle.hs_types.specs.declared.refusal.Refusal.TheVariants.{NotSnapshotName}
use Rattle.hs_plain.specs.declared.resolve.AskFault.TheVariants.{Refused}
use Rattle.hs_plain.specs.Asked.{Asked, refuse_if}
use Rattle.hs_plain.specs.Snapshotting.{directory_at, snap_at}
use Rattle.hs_plain.specs.inside.Faults.{IsFaultOf}
use Rattle.inode_table.specs.Kept.{told}
use Rattle.namenode_write.specs.SnapTests.{takes_snapshot}
use Rattle.namenode_write.proofs.Causes.{fault-then}
use Rattle.namenode_write.proofs.RowTests.{match_err}
use Rattle.namenode_write.proofs.SnapTests.{then-ok, dir-fault, snap-is}
use Rattle.namenode_write.proofs.rows.snapshot_refusals.snap_at.Goals as goal

pub returns-in_err-dir-clause-asked : goal.returns-in_err-dir-clause-asked
returns-in_err-dir-clause-asked c = λ state all. match_err c.from_residual.result c.in_err-dir.field-0.0 _ (snap_at state c.args.text.now c.args.name.now) c.from_residual.ensures.1
    (fault-then (directory_at state c.args.text.now) _ c.in_err-dir.field-0.0 (c.in_err-dir.ensures c.args.snaps.now state all))

pub returns-in_err-name-clause-asked : goal.returns-in_err-name-clause-asked
returns-in_err-name-clause-asked c = λ state all.
    match_err c.from_residual-in_err-name.result c.in_err-name.field-0.0 _ (snap_at state c.args.text.now c.args.name.now) c.from_residual-in_err-name.ensures.1
    (dir-fault (snap_at state c.args.text.now c.args.name.now) c.in_err-name.field-0.0
    (subst (λ (a : Asked InodeId). IsFaultOf a c.in_err-name.field-0.0) (sym (snap-is state c.args.text.now c.in_ok-dir.field-0.0 c.in_ok-dir.field-0.1 (c.in_ok-dir.ensures c.args.snaps.now state all) c.args.name.now))
    (fault-then (refuse_if (not (is_name c.args.name.now)) NotSnapshotName) _ c.in_err-name.field-0.0 c.in_err-name.ensures.asked)))

pub returns-in_err-takes_snapshot-clause-asked : goal.returns-in_err-takes_snapshot-clause-asked
returns-in_err-takes_snapshot-clause-asked c = λ state all.
    let dir = c.in_ok-dir.field-0.1 in
    match_err c.from_residual-in_err-takes_snapshot.result (Refused c.in_err-takes_snapshot.field-0.0) _ (snap_at state c.args.text.now c.args.name.now) c.from_residual-in_err-takes_snapshot.ensures.1
    (dir-fault (snap_at state c.args.text.now c.args.name.now) (Refused c.in_err-takes_snapshot.field-0.0)
    (snap-is state c.args.text.now c.in_ok-dir.field-0.0 dir (c.in_ok-dir.ensures c.args.snaps.now state all) c.args.name.now
    ∙ then-ok (refuse_if (not (is_name c.args.name.now)) NotSnapshotName) _ tt c.in_ok-name.ensures.asked
    ∙ fault-then (takes_snapshot state dir c.args.name.now) _ (Refused c.in_err-takes_snapshot.field-0.0)
    (ap (λ (n : List ℕ). takes_snapshot state dir n) (sym c.in_ok-name.ensures.same) ∙ sym (c.takes_snapshot.ensures (told c.args.table.now) state all) ∙ c.in_err-takes_snapshot.was)))

pub returns-clause-asked : goal.returns-clause-asked
returns-clause-asked c = λ state all.
    let dir = c.in_ok-dir.field-0.1 in
    snap-is state c.args.text.now c.in_ok-dir.field-0.0 dir (c.in_ok-dir.ensures c.args.snaps.now state all) c.args.name.now
    ∙ then-ok (refuse_if (not (is_name c.args.name.now)) NotSnapshotName) _ tt c.in_ok-name.ensures.asked
    ∙ then-ok (takes_snapshot state dir c.args.name.now) _ c.in_ok-takes_snapshot.field-0
    (ap (λ (n : List ℕ). takes_snapshot state dir n) (sym c.in_ok-name.ensures.same) ∙ sym (c.takes_snapshot.ensures (told c.args.table.now) state all) ∙ c.in_ok-takes_snapshot.was)
