use Rattle.table_laws.proofs.RecordFound.{found}
use Rattle.table_laws.proofs.record_laws.found.Goals as goal

pub returns : goal.returns
returns c = found
