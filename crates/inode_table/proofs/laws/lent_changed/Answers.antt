use Rattle.inode_table.proofs.Lent.{lent-changed}
use Rattle.inode_table.proofs.laws.lent_changed.Goals as goal

pub returns : goal.returns
returns c = lent-changed
