use Rattle.std.proofs.Common.{not, ap, ◌∙◌}
use Rattle.hs_types.specs.declared.refusal.Refusal.TheVariants.{HasSnapshots, NotSnapshottable}
use Rattle.hs_plain.specs.declared.resolve.AskFault.TheVariants.{Refused}
use Rattle.hs_plain.specs.Asked.{refuse_if}
use Rattle.hs_plain.specs.State.{has_snapshots, is_snapshottable}
use Rattle.hs_plain.specs.Snapshotting.{directory_at, disallow_at}
use Rattle.inode_table.specs.Kept.{told}
use Rattle.namenode_write.proofs.Causes.{fault-then}
use Rattle.namenode_write.proofs.RowTests.{match_err}
use Rattle.namenode_write.proofs.SnapTests.{then-ok, refuse-told, disallow-is}
use Rattle.namenode_write.proofs.rows.snapshot_refusals.disallow_at.Goals as goal

pub returns-in_err-id : goal.returns-in_err-id
returns-in_err-id c = λ state all. match_err c.from_residual.result c.in_err-id.field-0.0 _ (disallow_at state c.args.text.now) c.from_residual.ensures.1
    (fault-then (directory_at state c.args.text.now) _ c.in_err-id.field-0.0 (c.in_err-id.ensures c.args.snaps.now state all))

pub returns-in_err-refuse_if : goal.returns-in_err-refuse_if
returns-in_err-refuse_if c = λ state all.
    let dir = c.in_ok-id.field-0.1 in
    match_err c.from_residual-in_err-refuse_if.result (Refused c.in_err-refuse_if.field-0.0) _ (disallow_at state c.args.text.now) c.from_residual-in_err-refuse_if.ensures.1
    (disallow-is state c.args.text.now c.in_ok-id.field-0.0 dir (c.in_ok-id.ensures c.args.snaps.now state all)
    ∙ fault-then (refuse_if (has_snapshots state dir) HasSnapshots) _ (Refused c.in_err-refuse_if.field-0.0)
    (refuse-told _ _ HasSnapshots c.refuse_if.result c.refuse_if.ensures (c.has_snapshots.ensures (told c.args.table.now) state all) ∙ c.in_err-refuse_if.was))

pub returns-in_err-refuse_if-2 : goal.returns-in_err-refuse_if-2
returns-in_err-refuse_if-2 c = λ state all.
    let dir = c.in_ok-id.field-0.1 in
    match_err c.from_residual-in_err-refuse_if-2.result (Refused c.in_err-refuse_if-2.field-0.0) _ (disallow_at state c.args.text.now) c.from_residual-in_err-refuse_if-2.ensures.1
    (disallow-is state c.args.text.now c.in_ok-id.field-0.0 dir (c.in_ok-id.ensures c.args.snaps.now state all)
    ∙ then-ok (refuse_if (has_snapshots state dir) HasSnapshots) _ c.in_ok-refuse_if.field-0
    (refuse-told _ _ HasSnapshots c.refuse_if.result c.refuse_if.ensures (c.has_snapshots.ensures (told c.args.table.now) state all) ∙ c.in_ok-refuse_if.was)
    ∙ fault-then (refuse_if (not (is_snapshottable state dir)) NotSnapshottable) _ (Refused c.in_err-refuse_if-2.field-0.0)
    (refuse-told _ _ NotSnapshottable c.refuse_if-2.result c.refuse_if-2.ensures (ap not (c.is_snapshottable.ensures (told c.args.table.now) state all)) ∙ c.in_err-refuse_if-2.was))

pub returns : goal.returns
returns c = λ state all.
    let dir = c.in_ok-id.field-0.1 in
    disallow-is state c.args.text.now c.in_ok-id.field-0.0 dir (c.in_ok-id.ensures c.args.snaps.now state all)
    ∙ then-ok (refuse_if (has_snapshots state dir) HasSnapshots) _ c.in_ok-refuse_if.field-0
    (refuse-told _ _ HasSnapshots c.refuse_if.result c.refuse_if.ensures (c.has_snapshots.ensures (told c.args.table.now) state all) ∙ c.in_ok-refuse_if.was)
    ∙ then-ok (refuse_if (not (is_snapshottable state dir)) NotSnapshottable) _ c.in_ok-refuse_if-2.field-0
    (refuse-told _ _ NotSnapshottable c.refuse_if-2.result c.refuse_if-2.ensures (ap not (c.is_snapshottable.ensures (told c.args.table.now) state all)) ∙ c.in_ok-refuse_if-2.was)
