use Rattle.table_laws.proofs.RecordDropped.{dropped-records}
use Rattle.table_laws.proofs.record_laws.dropped_records.Goals as goal

pub returns : goal.returns
returns c = dropped-records
