use Rattle.table_laws.proofs.RecordCalls.{call-records}
use Rattle.table_laws.proofs.record_laws.call_records.Goals as goal

pub returns : goal.returns
returns c = call-records
