use Rattle.table_laws.proofs.NamedSteps.{add-lists}
use Rattle.table_laws.proofs.name_lists.added_lists.Goals as goal

pub returns : goal.returns
returns c = add-lists
