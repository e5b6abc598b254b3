use Rattle.table_laws.proofs.NamedRows.{start-names}
use Rattle.table_laws.proofs.name_laws.first_named.Goals as goal

pub returns : goal.returns
returns c = start-names
