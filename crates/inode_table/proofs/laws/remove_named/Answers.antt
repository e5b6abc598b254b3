use Rattle.inode_table.proofs.Naming.{remove-named}
use Rattle.inode_table.proofs.laws.remove_named.Goals as goal

pub returns : goal.returns
returns c = remove-named
