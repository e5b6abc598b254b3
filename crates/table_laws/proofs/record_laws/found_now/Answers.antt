use Rattle.table_laws.proofs.RecordFound.{found-now}
use Rattle.table_laws.proofs.record_laws.found_now.Goals as goal

pub returns : goal.returns
returns c = found-now
