use Rattle.table_laws.proofs.RecordIndex.{few-between}
use Rattle.table_laws.proofs.record_laws.between.Goals as goal

pub returns : goal.returns
returns c = few-between
