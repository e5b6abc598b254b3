use Rattle.inode_table.proofs.Naming.{put-named}
use Rattle.inode_table.proofs.laws.put_named.Goals as goal

pub returns : goal.returns
returns c = put-named
