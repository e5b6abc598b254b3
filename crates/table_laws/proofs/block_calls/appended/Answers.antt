use Rattle.table_laws.proofs.BlockCalls.{appended-blocks}
use Rattle.table_laws.proofs.block_calls.appended.Goals as goal

pub returns : goal.returns
returns c = appended-blocks
