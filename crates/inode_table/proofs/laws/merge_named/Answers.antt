use Rattle.inode_table.proofs.Naming.{merge-named}
use Rattle.inode_table.proofs.laws.merge_named.Goals as goal

pub returns : goal.returns
returns c = merge-named
