use Rattle.table_laws.proofs.RecordTold.{number-told}
use Rattle.table_laws.proofs.record_laws.number_told.Goals as goal

pub returns : goal.returns
returns c = number-told
