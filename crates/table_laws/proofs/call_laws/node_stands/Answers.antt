use Rattle.table_laws.proofs.WholeDeeds.{node-stands}
use Rattle.table_laws.proofs.call_laws.node_stands.Goals as goal

pub returns : goal.returns
returns c = node-stands
