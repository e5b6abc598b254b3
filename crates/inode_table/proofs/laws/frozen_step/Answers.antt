use Rattle.inode_table.proofs.Kept.{frozen-step}
use Rattle.inode_table.proofs.laws.frozen_step.Goals as goal

pub returns : goal.returns
returns c = frozen-step
