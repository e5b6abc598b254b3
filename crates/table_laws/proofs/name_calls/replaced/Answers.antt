use Rattle.table_laws.proofs.NamedCalls.{replace-names}
use Rattle.table_laws.proofs.name_calls.replaced.Goals as goal

pub returns : goal.returns
returns c = replace-names
