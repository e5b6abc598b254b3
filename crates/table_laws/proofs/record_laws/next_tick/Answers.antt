use Rattle.table_laws.proofs.RecordIndex.{filled-next}
use Rattle.table_laws.proofs.record_laws.next_tick.Goals as goal

pub returns : goal.returns
returns c = filled-next
