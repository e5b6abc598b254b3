use Rattle.table_laws.proofs.RecordDropping.{merge-index}
use Rattle.table_laws.proofs.record_laws.merge_index.Goals as goal

pub returns : goal.returns
returns c = merge-index
