use Rattle.inode_table.proofs.Kept.{frozen-kept}
use Rattle.inode_table.proofs.laws.frozen_kept.Goals as goal

pub returns : goal.returns
returns c = frozen-kept
