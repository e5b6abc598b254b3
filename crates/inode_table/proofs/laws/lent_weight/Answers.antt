use Rattle.inode_table.proofs.Lent.{lent-weight}
use Rattle.inode_table.proofs.laws.lent_weight.Goals as goal

pub returns : goal.returns
returns c = lent-weight
