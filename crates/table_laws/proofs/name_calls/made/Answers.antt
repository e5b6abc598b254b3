use Rattle.table_laws.proofs.NamedCalls.{make-names}
use Rattle.table_laws.proofs.name_calls.made.Goals as goal

pub returns : goal.returns
returns c = make-names
