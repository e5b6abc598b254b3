use Rattle.table_laws.proofs.BlockCalls.{rename-blocks}
use Rattle.table_laws.proofs.block_calls.renamed.Goals as goal

pub returns : goal.returns
returns c = rename-blocks
