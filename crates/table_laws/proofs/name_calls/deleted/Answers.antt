use Rattle.table_laws.proofs.NamedCalls.{delete-names}
use Rattle.table_laws.proofs.name_calls.deleted.Goals as goal

pub returns : goal.returns
returns c = delete-names
