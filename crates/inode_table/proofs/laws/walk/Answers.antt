use Rattle.inode_table.proofs.Walking.{reads-walk}
use Rattle.inode_table.proofs.laws.walk.Goals as goal

pub returns : goal.returns
returns c = reads-walk
