use Rattle.table_laws.proofs.WholeMoves.{renamed-stands}
use Rattle.table_laws.proofs.call_laws.renamed_stands.Goals as goal

pub returns : goal.returns
returns c = renamed-stands
