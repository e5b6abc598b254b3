use Rattle.inode_table.proofs.Covers.{cover-bound}
use Rattle.inode_table.proofs.laws.cover.Goals as goal

pub returns : goal.returns
returns c = cover-bound
