use Rattle.table_laws.proofs.WholeMoves.{unlink-stands}
use Rattle.table_laws.proofs.call_laws.unlink_stands.Goals as goal

pub returns : goal.returns
returns c = unlink-stands
