use Rattle.table_laws.proofs.BlockBytes.{grow-bytes}
use Rattle.table_laws.proofs.block_bytes.store_grown.Goals as goal

pub returns : goal.returns
returns c = grow-bytes
