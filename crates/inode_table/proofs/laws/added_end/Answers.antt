use Rattle.inode_table.proofs.Ending.{add-end}
use Rattle.inode_table.proofs.laws.added_end.Goals as goal

pub returns : goal.returns
returns c = add-end
