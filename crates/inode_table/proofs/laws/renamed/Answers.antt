use Rattle.inode_table.proofs.Calling.{reads-renamed}
use Rattle.inode_table.proofs.laws.renamed.Goals as goal

pub returns : goal.returns
returns c = reads-renamed
