use Rattle.inode_table.proofs.Starting.{start-stands}
use Rattle.inode_table.proofs.laws.start_stands.Goals as goal

pub returns : goal.returns
returns c = start-stands
