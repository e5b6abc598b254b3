use Rattle.inode_table.proofs.Snapping.{drop-stands}
use Rattle.inode_table.proofs.laws.drop_stands.Goals as goal

pub returns : goal.returns
returns c = drop-stands
