use Rattle.inode_table.proofs.Walking.{one-tree}
use Rattle.inode_table.proofs.laws.one_tree.Goals as goal

pub returns : goal.returns
returns c = one-tree
