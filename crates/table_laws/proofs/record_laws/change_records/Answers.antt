use Rattle.table_laws.proofs.Recording.{records-changed}
use Rattle.table_laws.proofs.record_laws.change_records.Goals as goal

pub returns : goal.returns
returns c = records-changed
