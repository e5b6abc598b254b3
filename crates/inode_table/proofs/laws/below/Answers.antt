use Rattle.inode_table.proofs.Reading.{reads-below}
use Rattle.inode_table.proofs.laws.below.Goals as goal

pub returns : goal.returns
returns c = reads-below
