use Rattle.table_laws.proofs.WholeNew.{whole-create, may-create}
use Rattle.table_laws.proofs.call_laws.create.Goals as goal

pub returns-clause-stands : goal.returns-clause-stands
returns-clause-stands c = whole-create

pub returns-clause-may : goal.returns-clause-may
returns-clause-may c = may-create
