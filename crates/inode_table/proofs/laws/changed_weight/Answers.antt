use Rattle.inode_table.proofs.Stepping.{changed-weight}
use Rattle.inode_table.proofs.laws.changed_weight.Goals as goal

pub returns : goal.returns
returns c = changed-weight
