use Rattle.std.specs.Prelude.{◌≡◌, drop, []}
use Rattle.std.specs.List.{Contains}
use Rattle.hs_types.specs.declared.ids.InodeId.{InodeId}
use Rattle.snapshot_manager.specs.Snapshots.{snaps_in}
use Rattle.table_laws.specs.WholeCalls.{all_disallowed}
use Rattle.namenode_write.proofs.rows.deleting.disallow_all.Given as goal

abbrev pub invariant-loop-dir : goal.invariant-loop-dir
invariant-loop-dir l = record {
  left : all_disallowed (drop l.dir-index l.dirs) l.snaps ≡ all_disallowed l.dirs l.initial.snaps;
  free : (dir : InodeId) → Contains l.dirs dir → snaps_in l.snaps dir ≡ [];
}
