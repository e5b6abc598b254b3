use Rattle.inode_table.proofs.Reading.{reads-graft}
use Rattle.inode_table.proofs.laws.graft.Goals as goal

pub returns : goal.returns
returns c = reads-graft
