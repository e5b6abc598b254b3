use Rattle.inode_table.proofs.Recording.{lose}
use Rattle.inode_table.proofs.laws.lose.Goals as goal

pub returns : goal.returns
returns c = lose
