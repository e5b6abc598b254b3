use Rattle.inode_table.proofs.Telling.{marks-told}
use Rattle.inode_table.proofs.laws.marks_told.Goals as goal

pub returns : goal.returns
returns c = marks-told
