use Rattle.table_laws.proofs.BlockCalls.{delete-blocks}
use Rattle.table_laws.proofs.block_calls.deleted.Goals as goal

pub returns : goal.returns
returns c = delete-blocks
