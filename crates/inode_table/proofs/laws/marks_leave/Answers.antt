use Rattle.inode_table.proofs.Ahead.{marks-leave}
use Rattle.inode_table.proofs.laws.marks_leave.Goals as goal

pub returns : goal.returns
returns c = marks-leave
