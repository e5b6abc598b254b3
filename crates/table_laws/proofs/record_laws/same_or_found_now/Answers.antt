use Rattle.table_laws.proofs.RecordFound.{same-or-found-now}
use Rattle.table_laws.proofs.record_laws.same_or_found_now.Goals as goal

pub returns : goal.returns
returns c = same-or-found-now
