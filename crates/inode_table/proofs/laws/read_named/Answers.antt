use Rattle.inode_table.proofs.Naming.{read-named}
use Rattle.inode_table.proofs.laws.read_named.Goals as goal

pub returns : goal.returns
returns c = read-named
