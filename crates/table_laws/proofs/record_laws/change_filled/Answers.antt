use Rattle.table_laws.proofs.Recording.{filled-changed}
use Rattle.table_laws.proofs.record_laws.change_filled.Goals as goal

pub returns : goal.returns
returns c = filled-changed
