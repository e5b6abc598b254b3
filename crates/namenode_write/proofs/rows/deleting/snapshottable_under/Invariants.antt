use Rattle.inode_table.specs.Kept.{told}
use Rattle.path_resolver.specs.Above.{left_from}
use Rattle.namenode_write.proofs.GoneDirs.{AreFound}
use Rattle.namenode_write.proofs.rows.deleting.snapshottable_under.Given as goal

abbrev pub invariant-loop-next : goal.invariant-loop-next
invariant-loop-next l = AreFound (told l.table) l.snaps l.id l.next l.gone

abbrev pub decreases-loop-next : goal.decreases-loop-next
decreases-loop-next l = left_from l.next l.snaps.dirs
