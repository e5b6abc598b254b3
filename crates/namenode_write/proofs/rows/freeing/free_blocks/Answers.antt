use Rattle.namenode_write.proofs.RowFreed.{one-freed, popped-last}
use Rattle.namenode_write.proofs.rows.freeing.free_blocks.Goals as goal

pub loop-block-preserved : goal.loop-block-preserved
loop-block-preserved g c =
    let split = popped-last _ c.pop.new.self.items c.deref.result.now c.in-Some.block.now c.pop.result _ c.deref.ensures.value c.deref.ensures.len c.in-Some.ensures.item.3.0 c.in-Some.ensures.item.1
    (c.pop.ensures.value c.in-Some.block.now) c.pop.ensures.items in
    one-freed _ _ _ _ _ _ _ _ _ _ _ c.pop.new.self.items c.in-Some.block.now c.loop-block.invariant split c.in_ok-free.ensures.freed c.in_ok-free.ensures.greatest c.in_ok-free.ensures.count
