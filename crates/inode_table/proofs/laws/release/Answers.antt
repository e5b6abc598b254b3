use Rattle.inode_table.proofs.Naming.{release-stands}
use Rattle.inode_table.proofs.laws.release.Goals as goal

pub returns : goal.returns
returns c = release-stands
