use Rattle.table_laws.proofs.RecordDropping.{records-merged}
use Rattle.table_laws.proofs.record_laws.merge_records.Goals as goal

pub returns : goal.returns
returns c = records-merged
