use Rattle.table_laws.proofs.RecordDropping.{records-left}
use Rattle.table_laws.proofs.record_laws.left_records.Goals as goal

pub returns : goal.returns
returns c = records-left
