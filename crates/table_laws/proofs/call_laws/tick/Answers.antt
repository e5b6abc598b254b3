use Rattle.table_laws.proofs.WholeNodes.{whole-ticked}
use Rattle.table_laws.proofs.call_laws.tick.Goals as goal

pub returns : goal.returns
returns c = whole-ticked
