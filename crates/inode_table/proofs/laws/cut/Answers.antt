use Rattle.inode_table.proofs.Reading.{reads-cut}
use Rattle.inode_table.proofs.laws.cut.Goals as goal

pub returns : goal.returns
returns c = reads-cut
