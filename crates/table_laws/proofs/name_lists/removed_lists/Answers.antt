use Rattle.table_laws.proofs.NamedSteps.{remove-lists}
use Rattle.table_laws.proofs.name_lists.removed_lists.Goals as goal

pub returns : goal.returns
returns c = remove-lists
