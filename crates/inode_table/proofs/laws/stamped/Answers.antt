use Rattle.inode_table.proofs.Walking.{reads-stamp}
use Rattle.inode_table.proofs.laws.stamped.Goals as goal

pub returns : goal.returns
returns c = reads-stamp
