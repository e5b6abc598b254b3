use Rattle.table_laws.proofs.BlockBodies.{free-blocks}
use Rattle.table_laws.proofs.block_laws.block_freed.Goals as goal

pub returns : goal.returns
returns c = free-blocks
