use Rattle.table_laws.proofs.BlockBytes.{free-bytes}
use Rattle.table_laws.proofs.block_bytes.block_freed.Goals as goal

pub returns : goal.returns
returns c = free-bytes
