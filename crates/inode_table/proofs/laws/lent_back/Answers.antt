use Rattle.inode_table.proofs.Lent.{lent-back}
use Rattle.inode_table.proofs.laws.lent_back.Goals as goal

pub returns : goal.returns
returns c = lent-back
