use Rattle.table_laws.proofs.NamedAlike.{mark-lists}
use Rattle.table_laws.proofs.name_lists.marked_lists.Goals as goal

pub returns : goal.returns
returns c = mark-lists
