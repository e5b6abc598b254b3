use Rattle.std.proofs.Common.{length}
use Rattle.namenode_write.specs.Rows.{all_of}
use Rattle.namenode_write.proofs.RowFreed.{AreFreed}
use Rattle.namenode_write.proofs.rows.freeing.free_waiting.Given as goal

abbrev pub invariant-loop-blocks : goal.invariant-loop-blocks
invariant-loop-blocks g l =
    AreFreed (g.B.BlockStore.blocks l.initial.store) (g.B.BlockStore.blocks l.store) (g.B.BlockStore.greatest l.initial.store) (g.B.BlockStore.greatest l.store) (g.B.BlockStore.faults l.initial.store) (g.B.BlockStore.faults l.store)
    (all_of l.initial.waiting.items) (all_of l.waiting.items)

abbrev pub decreases-loop-blocks : goal.decreases-loop-blocks
decreases-loop-blocks g l = length l.waiting.items
