use Rattle.inode_table.proofs.Going.{released-stands}
use Rattle.inode_table.proofs.laws.released_stands.Goals as goal

pub returns : goal.returns
returns c = released-stands
