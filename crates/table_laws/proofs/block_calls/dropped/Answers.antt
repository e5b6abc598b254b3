use Rattle.table_laws.proofs.BlockCalls.{drop-blocks}
use Rattle.table_laws.proofs.block_calls.dropped.Goals as goal

pub returns : goal.returns
returns c = drop-blocks
