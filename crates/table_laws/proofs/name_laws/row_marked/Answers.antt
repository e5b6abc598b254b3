use Rattle.table_laws.proofs.NamedRows.{mark-names}
use Rattle.table_laws.proofs.name_laws.row_marked.Goals as goal

pub returns : goal.returns
returns c = mark-names
