use Rattle.table_laws.proofs.BlockSteps.{mark-blocks}
use Rattle.table_laws.proofs.block_laws.row_marked.Goals as goal

pub returns : goal.returns
returns c = mark-blocks
