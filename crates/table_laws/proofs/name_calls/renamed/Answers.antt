use Rattle.table_laws.proofs.NamedCalls.{rename-names}
use Rattle.table_laws.proofs.name_calls.renamed.Goals as goal

pub returns : goal.returns
returns c = rename-names
