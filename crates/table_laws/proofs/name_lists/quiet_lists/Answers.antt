use Rattle.table_laws.proofs.NamedSteps.{quiet-lists}
use Rattle.table_laws.proofs.name_lists.quiet_lists.Goals as goal

pub returns : goal.returns
returns c = quiet-lists
