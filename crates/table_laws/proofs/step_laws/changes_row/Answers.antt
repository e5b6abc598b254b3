use Rattle.table_laws.proofs.StepRows.{changes-row}
use Rattle.table_laws.proofs.step_laws.changes_row.Goals as goal

pub returns : goal.returns
returns c = changes-row
