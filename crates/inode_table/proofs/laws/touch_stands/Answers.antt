use Rattle.inode_table.proofs.Doing.{touch-stands}
use Rattle.inode_table.proofs.laws.touch_stands.Goals as goal

pub returns : goal.returns
returns c = touch-stands
