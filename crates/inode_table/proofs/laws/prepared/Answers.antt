use Rattle.inode_table.proofs.Ahead.{prepared-ahead}
use Rattle.inode_table.proofs.laws.prepared.Goals as goal

pub returns : goal.returns
returns c = prepared-ahead
