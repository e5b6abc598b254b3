use Rattle.table_laws.proofs.RecordIndex.{filled-noted}
use Rattle.table_laws.proofs.record_laws.noted.Goals as goal

pub returns : goal.returns
returns c = filled-noted
