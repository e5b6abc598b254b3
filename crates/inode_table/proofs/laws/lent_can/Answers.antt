use Rattle.inode_table.proofs.Lent.{lent-can}
use Rattle.inode_table.proofs.laws.lent_can.Goals as goal

pub returns : goal.returns
returns c = lent-can
