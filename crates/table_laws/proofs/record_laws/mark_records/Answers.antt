use Rattle.table_laws.proofs.Recording.{records-marked}
use Rattle.table_laws.proofs.record_laws.mark_records.Goals as goal

pub returns : goal.returns
returns c = records-marked
