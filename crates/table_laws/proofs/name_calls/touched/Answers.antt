use Rattle.table_laws.proofs.NamedCalls.{touch-names}
use Rattle.table_laws.proofs.name_calls.touched.Goals as goal

pub returns : goal.returns
returns c = touch-names
