use Rattle.table_laws.proofs.RecordTurns.{turns-filled}
use Rattle.table_laws.proofs.record_laws.turns_filled.Goals as goal

pub returns : goal.returns
returns c = turns-filled
