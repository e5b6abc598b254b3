use Rattle.inode_table.proofs.Recording.{merge-reads}
use Rattle.inode_table.proofs.laws.merge.Goals as goal

pub returns : goal.returns
returns c = merge-reads
