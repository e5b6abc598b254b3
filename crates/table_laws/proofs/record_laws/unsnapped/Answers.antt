use Rattle.table_laws.proofs.RecordDropping.{is-gone}
use Rattle.table_laws.proofs.record_laws.unsnapped.Goals as goal

pub returns : goal.returns
returns c = is-gone
