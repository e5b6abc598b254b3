use Rattle.table_laws.proofs.Recording.{records-plain}
use Rattle.table_laws.proofs.record_laws.snapped_records.Goals as goal

pub returns : goal.returns
returns c = records-plain
