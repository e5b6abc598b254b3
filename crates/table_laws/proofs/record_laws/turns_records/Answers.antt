use Rattle.table_laws.proofs.RecordTurns.{turns-records}
use Rattle.table_laws.proofs.record_laws.turns_records.Goals as goal

pub returns : goal.returns
returns c = turns-records
