use Rattle.table_laws.proofs.BlockSteps.{insert-blocks}
use Rattle.table_laws.proofs.block_laws.row_inserted.Goals as goal

pub returns : goal.returns
returns c = insert-blocks
