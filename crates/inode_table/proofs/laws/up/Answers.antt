use Rattle.inode_table.proofs.Climbing.{climbs}
use Rattle.inode_table.proofs.laws.up.Goals as goal

pub returns : goal.returns
returns c = climbs
