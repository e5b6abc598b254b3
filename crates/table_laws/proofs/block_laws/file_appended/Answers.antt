use Rattle.table_laws.proofs.BlockBodies.{append-blocks}
use Rattle.table_laws.proofs.block_laws.file_appended.Goals as goal

pub returns : goal.returns
returns c = append-blocks
