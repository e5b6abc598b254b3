use Rattle.std.proofs.Common.{◌<◌, length, ap, ◌∙◌, arith}
use Rattle.snapshot_manager.specs.Snapshots.{Snapshots, snaps_in}
use Rattle.namenode_write.proofs.GoneDirs.{none-disallowed, disallowed-next}
use Rattle.namenode_write.proofs.rows.deleting.disallow_all.Goals as goal

pub loop-dir-preserved : goal.loop-dir-preserved
loop-dir-preserved c =
    let within : c.loop-dir.dir-index < length c.args.dirs.now = omega (arith, c.loop-dir-test.true) in
    record {
      left = disallowed-next c.args.dirs.now c.loop-dir.dir-index _ c.loop-dir.snaps c.disallow.new.self within c.disallow.ensures ∙ c.loop-dir.invariant.left;
      free = λ dir at. ap (λ (s : Snapshots). snaps_in s dir) c.disallow.ensures ∙ none-disallowed c.loop-dir.snaps _ dir (c.loop-dir.invariant.free dir at);
    }
