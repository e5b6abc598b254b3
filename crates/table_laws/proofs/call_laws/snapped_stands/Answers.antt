use Rattle.table_laws.proofs.WholeMoves.{snapped-stands}
use Rattle.table_laws.proofs.call_laws.snapped_stands.Goals as goal

pub returns : goal.returns
returns c = snapped-stands
