use Rattle.table_laws.proofs.NamedCalls.{drop-names}
use Rattle.table_laws.proofs.name_calls.dropped.Goals as goal

pub returns : goal.returns
returns c = drop-names
