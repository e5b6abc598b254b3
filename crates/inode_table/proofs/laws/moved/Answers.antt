use Rattle.inode_table.proofs.Walking.{reads-move}
use Rattle.inode_table.proofs.laws.moved.Goals as goal

pub returns : goal.returns
returns c = reads-move
