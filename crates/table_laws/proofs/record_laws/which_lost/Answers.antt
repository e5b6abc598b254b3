use Rattle.table_laws.proofs.RecordDropping.{which-lost}
use Rattle.table_laws.proofs.record_laws.which_lost.Goals as goal

pub returns : goal.returns
returns c = which-lost
