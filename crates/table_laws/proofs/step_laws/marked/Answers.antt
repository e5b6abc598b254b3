use Rattle.table_laws.proofs.StepTables.{marked-step}
use Rattle.table_laws.proofs.step_laws.marked.Goals as goal

pub returns : goal.returns
returns c = marked-step
