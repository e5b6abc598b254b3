use Rattle.table_laws.proofs.StepTables.{inserted-step}
use Rattle.table_laws.proofs.step_laws.inserted.Goals as goal

pub returns : goal.returns
returns c = inserted-step
