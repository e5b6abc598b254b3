use Rattle.table_laws.proofs.NamedRows.{release-names}
use Rattle.table_laws.proofs.name_laws.rows_released.Goals as goal

pub returns : goal.returns
returns c = release-names
