use Rattle.table_laws.proofs.BlockSteps.{quiet-blocks}
use Rattle.table_laws.proofs.block_laws.bodiless_change.Goals as goal

pub returns : goal.returns
returns c = quiet-blocks
