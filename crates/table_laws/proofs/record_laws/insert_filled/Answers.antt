use Rattle.table_laws.proofs.Recording.{filled-inserted}
use Rattle.table_laws.proofs.record_laws.insert_filled.Goals as goal

pub returns : goal.returns
returns c = filled-inserted
