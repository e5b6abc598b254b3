use Rattle.std.proofs.Common.{arith}
use Rattle.inode_table.proofs.Dropped.{next_saved}
use Rattle.inode_table.proofs.releasing.file_blocks.Goals as goal

pub overflow_add-blocks : goal.overflow_add-blocks
overflow_add-blocks c = let step = next_saved c.args.file.now.history.records c.loop-i.i in omega (arith, step, c.loop-i.invariant, c.saved_blocks-blocks.ensures, c.requires)

pub loop-i-preserved : goal.loop-i-preserved
loop-i-preserved c = let step = next_saved c.args.file.now.history.records c.loop-i.i in omega (arith, step, c.loop-i.invariant, c.saved_blocks-blocks.ensures)
