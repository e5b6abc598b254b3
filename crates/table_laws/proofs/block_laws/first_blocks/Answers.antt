use Rattle.table_laws.proofs.BlockSteps.{start-blocks}
use Rattle.table_laws.proofs.block_laws.first_blocks.Goals as goal

pub returns : goal.returns
returns c = start-blocks
