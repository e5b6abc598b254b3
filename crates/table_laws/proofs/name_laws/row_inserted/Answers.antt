use Rattle.table_laws.proofs.NamedRows.{insert-names}
use Rattle.table_laws.proofs.name_laws.row_inserted.Goals as goal

pub returns : goal.returns
returns c = insert-names
