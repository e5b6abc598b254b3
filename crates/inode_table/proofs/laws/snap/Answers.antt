use Rattle.inode_table.proofs.Marked.{marks-snap}
use Rattle.inode_table.proofs.laws.snap.Goals as goal

pub returns : goal.returns
returns c = marks-snap
