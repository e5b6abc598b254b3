use Rattle.inode_table.proofs.Snapping.{snap-stands}
use Rattle.inode_table.proofs.laws.snap_stands.Goals as goal

pub returns : goal.returns
returns c = snap-stands
