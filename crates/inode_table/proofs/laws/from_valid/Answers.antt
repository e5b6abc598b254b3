use Rattle.inode_table.proofs.Giving.{from-valid}
use Rattle.inode_table.proofs.laws.from_valid.Goals as goal

pub returns : goal.returns
returns c = from-valid
