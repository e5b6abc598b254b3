use Rattle.inode_table.proofs.Naming.{add-named}
use Rattle.inode_table.proofs.laws.add_named.Goals as goal

pub returns : goal.returns
returns c = add-named
