use Rattle.table_laws.proofs.Recording.{records-inserted}
use Rattle.table_laws.proofs.record_laws.insert_records.Goals as goal

pub returns : goal.returns
returns c = records-inserted
