use Rattle.table_laws.proofs.BlockGoing.{release-blocks}
use Rattle.table_laws.proofs.block_laws.rows_released.Goals as goal

pub returns : goal.returns
returns c = release-blocks
