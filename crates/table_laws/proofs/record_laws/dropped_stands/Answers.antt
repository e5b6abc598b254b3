use Rattle.table_laws.proofs.RecordDropped.{dropped-stands}
use Rattle.table_laws.proofs.record_laws.dropped_stands.Goals as goal

pub returns : goal.returns
returns c = dropped-stands
