use Rattle.inode_table.proofs.Marked.{marks-arrive}
use Rattle.inode_table.proofs.laws.arrive.Goals as goal

pub returns : goal.returns
returns c = marks-arrive
