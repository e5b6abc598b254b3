use Rattle.table_laws.proofs.BlockBodies.{grow-blocks}
use Rattle.table_laws.proofs.block_laws.store_grown.Goals as goal

pub returns : goal.returns
returns c = grow-blocks
