use Rattle.inode_table.proofs.Ahead.{insert-leaves}
use Rattle.inode_table.proofs.laws.insert_leaves.Goals as goal

pub returns : goal.returns
returns c = insert-leaves
