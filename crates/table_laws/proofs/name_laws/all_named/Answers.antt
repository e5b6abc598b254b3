use Rattle.table_laws.proofs.NamedRows.{all-names}
use Rattle.table_laws.proofs.name_laws.all_named.Goals as goal

pub returns : goal.returns
returns c = all-names
