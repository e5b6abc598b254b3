use Rattle.table_laws.proofs.RecordIndex.{merged-found}
use Rattle.table_laws.proofs.record_laws.merged_found.Goals as goal

pub returns : goal.returns
returns c = merged-found
