use Rattle.inode_table.proofs.BlocksOnce.{blocks-once}
use Rattle.inode_table.proofs.laws.blocks_once.Goals as goal

pub returns : goal.returns
returns c = blocks-once
