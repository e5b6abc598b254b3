use Rattle.inode_table.proofs.Doing.{delete-stands}
use Rattle.inode_table.proofs.laws.delete_stands.Goals as goal

pub returns : goal.returns
returns c = delete-stands
