use Rattle.table_laws.proofs.RecordDropping.{records-gone}
use Rattle.table_laws.proofs.record_laws.gone_records.Goals as goal

pub returns : goal.returns
returns c = records-gone
