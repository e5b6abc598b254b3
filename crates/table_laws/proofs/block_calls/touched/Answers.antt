use Rattle.table_laws.proofs.BlockCalls.{touch-blocks}
use Rattle.table_laws.proofs.block_calls.touched.Goals as goal

pub returns : goal.returns
returns c = touch-blocks
