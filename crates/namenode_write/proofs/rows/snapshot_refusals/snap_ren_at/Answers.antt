use Rattle.std.proofs.Common.{◌≡◌, ℕ, not, List, Ok, sym, ap, subst, ◌∙◌}
use Rattle.std.specs.Prelude.{MatchResult}
use Rattle.hs_types.specs.Names.{is_name}
use Rattle.hs_types.specs.declared.ids.SnapId.{SnapId}
use Rattle.hs_types.specs.declared.refusal.Refusal.TheVariants.{NotSnapshotName}
use Rattle.hs_plain.specs.Asked.{Asked, refuse_if}
use Rattle.hs_plain.specs.Snapshotting.{directory_at, snap_ren_at}
use Rattle.hs_plain.specs.inside.Faults.{IsFaultOf}
use Rattle.inode_table.specs.Kept.{told}
use Rattle.namenode_write.specs.SnapTests.{renamed_id}
use Rattle.namenode_write.proofs.Causes.{fault-then}
use Rattle.namenode_write.proofs.RowTests.{match_err}
use Rattle.namenode_write.proofs.SnapTests.{then-ok, snap_ren-is}
use Rattle.namenode_write.proofs.rows.snapshot_refusals.snap_ren_at.Goals as goal

pub returns-in_err-dir-clause-asked : goal.returns-in_err-dir-clause-asked
returns-in_err-dir-clause-asked c = λ state all. match_err c.from_residual.result c.in_err-dir.field-0.0 _ (snap_ren_at state c.args.text.now c.args.old.now c.args.new.now) c.from_residual.ensures.1
    (fault-then (directory_at state c.args.text.now) _ c.in_err-dir.field-0.0 (c.in_err-dir.ensures c.args.snaps.now state all))

pub returns-in_err-new-clause-asked : goal.returns-in_err-new-clause-asked
returns-in_err-new-clause-asked c = λ state all.
    match_err c.from_residual-in_err-new.result c.in_err-new.field-0.0 _ (snap_ren_at state c.args.text.now c.args.old.now c.args.new.now) c.from_residual-in_err-new.ensures.1
    (subst (λ (a : Asked SnapId). IsFaultOf a c.in_err-new.field-0.0)
    (sym (snap_ren-is state c.args.text.now c.in_ok-dir.field-0.0 c.in_ok-dir.field-0.1 (c.in_ok-dir.ensures c.args.snaps.now state all) c.args.old.now c.args.new.now))
    (fault-then (refuse_if (not (is_name c.args.new.now)) NotSnapshotName) _ c.in_err-new.field-0.0 c.in_err-new.ensures.asked))

pub returns-clause-asked : goal.returns-clause-asked
returns-clause-asked c = λ state all.
    let dir = c.in_ok-dir.field-0.1 in
    subst (λ (a : Asked SnapId). MatchResult c.read_renaming.result (λ at. a ≡ Ok at.id) (IsFaultOf a))
    (ap (λ (n : List ℕ). renamed_id state dir c.args.old.now n) c.in_ok-new.ensures.same
    ∙ sym (snap_ren-is state c.args.text.now c.in_ok-dir.field-0.0 dir (c.in_ok-dir.ensures c.args.snaps.now state all) c.args.old.now c.args.new.now
    ∙ then-ok (refuse_if (not (is_name c.args.new.now)) NotSnapshotName) _ tt c.in_ok-new.ensures.asked))
    (c.read_renaming.ensures.asked (told c.args.table.now) state all)
