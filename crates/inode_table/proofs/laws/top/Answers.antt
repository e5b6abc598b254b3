use Rattle.inode_table.proofs.Giving.{top-valid}
use Rattle.inode_table.proofs.laws.top.Goals as goal

pub returns : goal.returns
returns c = top-valid
