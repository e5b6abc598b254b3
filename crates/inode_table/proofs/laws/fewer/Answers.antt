use Rattle.inode_table.proofs.Marked.{marks-fewer}
use Rattle.inode_table.proofs.laws.fewer.Goals as goal

pub returns : goal.returns
returns c = marks-fewer
