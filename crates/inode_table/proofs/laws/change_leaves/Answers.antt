use Rattle.inode_table.proofs.Ahead.{change-leaves}
use Rattle.inode_table.proofs.laws.change_leaves.Goals as goal

pub returns : goal.returns
returns c = change-leaves
