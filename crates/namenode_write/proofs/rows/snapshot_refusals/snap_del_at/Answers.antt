use Rattle.std.proofs.Common.{not, sym, ap, subst, ◌∙◌}
use Rattle.hs_types.specs.declared.ids.SnapId.{SnapId}
use Rattle.hs_types.specs.declared.refusal.Refusal.TheVariants.{NotSnapshottable}
use Rattle.hs_plain.specs.declared.resolve.AskFault.TheVariants.{Refused}
use Rattle.hs_plain.specs.Asked.{Asked, refuse_if}
use Rattle.hs_plain.specs.State.{is_snapshottable}
use Rattle.hs_plain.specs.Snapshotting.{directory_at, snap_del_at}
use Rattle.hs_plain.specs.inside.Faults.{IsFaultOf}
use Rattle.inode_table.specs.Kept.{told}
use Rattle.namenode_write.proofs.Causes.{fault-then}
use Rattle.namenode_write.proofs.RowTests.{match_err}
use Rattle.namenode_write.proofs.SnapTests.{then-ok, refuse-told, snap_del-is}
use Rattle.namenode_write.proofs.rows.snapshot_refusals.snap_del_at.Goals as goal

pub returns-in_err-dir : goal.returns-in_err-dir
returns-in_err-dir c = λ state all. match_err c.from_residual.result c.in_err-dir.field-0.0 _ (snap_del_at state c.args.text.now c.args.name.now) c.from_residual.ensures.1
    (fault-then (directory_at state c.args.text.now) _ c.in_err-dir.field-0.0 (c.in_err-dir.ensures c.args.snaps.now state all))

pub returns-in_err-refuse_if : goal.returns-in_err-refuse_if
returns-in_err-refuse_if c = λ state all.
    let dir = c.in_ok-dir.field-0.1 in
    match_err c.from_residual-in_err-refuse_if.result (Refused c.in_err-refuse_if.field-0.0) _ (snap_del_at state c.args.text.now c.args.name.now) c.from_residual-in_err-refuse_if.ensures.1
    (snap_del-is state c.args.text.now c.in_ok-dir.field-0.0 dir (c.in_ok-dir.ensures c.args.snaps.now state all) c.args.name.now
    ∙ fault-then (refuse_if (not (is_snapshottable state dir)) NotSnapshottable) _ (Refused c.in_err-refuse_if.field-0.0)
    (refuse-told _ _ NotSnapshottable c.refuse_if.result c.refuse_if.ensures (ap not (c.is_snapshottable.ensures (told c.args.table.now) state all)) ∙ c.in_err-refuse_if.was))

pub returns-in_err-snapshot_sought : goal.returns-in_err-snapshot_sought
returns-in_err-snapshot_sought c = λ state all.
    let dir = c.in_ok-dir.field-0.1 in
    match_err c.from_residual-in_err-snapshot_sought.result c.in_err-snapshot_sought.field-0.0 _ (snap_del_at state c.args.text.now c.args.name.now) c.from_residual-in_err-snapshot_sought.ensures.1
    (subst (λ (a : Asked SnapId). IsFaultOf a c.in_err-snapshot_sought.field-0.0)
    (sym (snap_del-is state c.args.text.now c.in_ok-dir.field-0.0 dir (c.in_ok-dir.ensures c.args.snaps.now state all) c.args.name.now
    ∙ then-ok (refuse_if (not (is_snapshottable state dir)) NotSnapshottable) _ c.in_ok-refuse_if.field-0
    (refuse-told _ _ NotSnapshottable c.refuse_if.result c.refuse_if.ensures (ap not (c.is_snapshottable.ensures (told c.args.table.now) state all)) ∙ c.in_ok-refuse_if.was)))
    (c.in_err-snapshot_sought.ensures.asked (told c.args.table.now) state all))

pub returns : goal.returns
returns c = λ state all.
    let dir = c.in_ok-dir.field-0.1 in
    snap_del-is state c.args.text.now c.in_ok-dir.field-0.0 dir (c.in_ok-dir.ensures c.args.snaps.now state all) c.args.name.now
    ∙ then-ok (refuse_if (not (is_snapshottable state dir)) NotSnapshottable) _ c.in_ok-refuse_if.field-0
    (refuse-told _ _ NotSnapshottable c.refuse_if.result c.refuse_if.ensures (ap not (c.is_snapshottable.ensures (told c.args.table.now) state all)) ∙ c.in_ok-refuse_if.was)
    ∙ c.in_ok-snapshot_sought.ensures.asked (told c.args.table.now) state all
