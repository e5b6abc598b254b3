use Rattle.table_laws.proofs.BlockCalls.{replace-blocks}
use Rattle.table_laws.proofs.block_calls.replaced.Goals as goal

pub returns : goal.returns
returns c = replace-blocks
