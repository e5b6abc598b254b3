use Rattle.table_laws.proofs.RecordTold.{no-number-told}
use Rattle.table_laws.proofs.record_laws.no_number_told.Goals as goal

pub returns : goal.returns
returns c = no-number-told
