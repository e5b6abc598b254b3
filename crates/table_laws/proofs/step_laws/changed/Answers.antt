use Rattle.table_laws.proofs.StepTables.{changed-step}
use Rattle.table_laws.proofs.step_laws.changed.Goals as goal

pub returns : goal.returns
returns c = changed-step
