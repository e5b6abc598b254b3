use Rattle.table_laws.proofs.RecordDropping.{none-lost}
use Rattle.table_laws.proofs.record_laws.none_lost.Goals as goal

pub returns : goal.returns
returns c = none-lost
