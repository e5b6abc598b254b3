use Rattle.table_laws.proofs.BlockGoing.{merge-blocks}
use Rattle.table_laws.proofs.block_laws.record_merged.Goals as goal

pub returns : goal.returns
returns c = merge-blocks
