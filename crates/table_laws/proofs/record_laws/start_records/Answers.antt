use Rattle.table_laws.proofs.Recording.{records-first}
use Rattle.table_laws.proofs.record_laws.start_records.Goals as goal

pub returns : goal.returns
returns c = records-first
