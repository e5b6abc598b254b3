use Rattle.inode_table.proofs.Reading.{reads-touch}
use Rattle.inode_table.proofs.laws.touch.Goals as goal

pub returns : goal.returns
returns c = reads-touch
