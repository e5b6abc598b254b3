use Rattle.table_laws.proofs.BlockBodies.{body-blocks}
use Rattle.table_laws.proofs.block_laws.body_grown.Goals as goal

pub returns : goal.returns
returns c = body-blocks
