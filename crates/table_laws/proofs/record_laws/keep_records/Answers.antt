use Rattle.table_laws.proofs.RecordDropping.{records-kept}
use Rattle.table_laws.proofs.record_laws.keep_records.Goals as goal

pub returns : goal.returns
returns c = records-kept
