use Rattle.inode_table.proofs.Stepping.{changed-named}
use Rattle.inode_table.proofs.laws.changed_named.Goals as goal

pub returns : goal.returns
returns c = changed-named
