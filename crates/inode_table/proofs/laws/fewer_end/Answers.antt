use Rattle.inode_table.proofs.Ending.{fewer-end}
use Rattle.inode_table.proofs.laws.fewer_end.Goals as goal

pub returns : goal.returns
returns c = fewer-end
