use Rattle.table_laws.proofs.RecordTold.{live-told}
use Rattle.table_laws.proofs.record_laws.live_told.Goals as goal

pub returns : goal.returns
returns c = live-told
