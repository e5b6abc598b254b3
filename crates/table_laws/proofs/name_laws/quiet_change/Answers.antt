use Rattle.table_laws.proofs.NamedSteps.{quiet-names}
use Rattle.table_laws.proofs.name_laws.quiet_change.Goals as goal

pub returns : goal.returns
returns c = quiet-names
