use Rattle.table_laws.proofs.NamedAlike.{changed-rows}
use Rattle.table_laws.proofs.name_lists.changed_rows.Goals as goal

pub returns : goal.returns
returns c = changed-rows
