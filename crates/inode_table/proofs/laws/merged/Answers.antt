use Rattle.inode_table.proofs.Combining.{merged-one}
use Rattle.inode_table.proofs.laws.merged.Goals as goal

pub returns : goal.returns
returns c = merged-one
