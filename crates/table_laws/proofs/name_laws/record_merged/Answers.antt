use Rattle.table_laws.proofs.NamedRows.{merge-names}
use Rattle.table_laws.proofs.name_laws.record_merged.Goals as goal

pub returns : goal.returns
returns c = merge-names
