use Rattle.std.proofs.Common.{length}
use Rattle.namenode_write.proofs.RowFreed.{AreFreed}
use Rattle.namenode_write.proofs.rows.freeing.free_blocks.Given as goal

abbrev pub invariant-loop-block : goal.invariant-loop-block
invariant-loop-block g l =
    AreFreed (g.B.BlockStore.blocks l.initial.store) (g.B.BlockStore.blocks l.store) (g.B.BlockStore.greatest l.initial.store) (g.B.BlockStore.greatest l.store) (g.B.BlockStore.faults l.initial.store) (g.B.BlockStore.faults l.store)
    l.initial.blocks.items l.blocks.items

abbrev pub decreases-loop-block : goal.decreases-loop-block
decreases-loop-block g l = length l.blocks.items
