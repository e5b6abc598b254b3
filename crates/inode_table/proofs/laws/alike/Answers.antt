use Rattle.inode_table.proofs.Reading.{reads-alike}
use Rattle.inode_table.proofs.laws.alike.Goals as goal

pub returns : goal.returns
returns c = reads-alike
