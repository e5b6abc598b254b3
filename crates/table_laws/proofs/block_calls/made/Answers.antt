use Rattle.table_laws.proofs.BlockCalls.{make-blocks}
use Rattle.table_laws.proofs.block_calls.made.Goals as goal

pub returns : goal.returns
returns c = make-blocks
