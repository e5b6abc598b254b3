use Rattle.table_laws.proofs.WholeOver.{whole-over, may-over}
use Rattle.table_laws.proofs.call_laws.create_over.Goals as goal

pub returns-clause-stands : goal.returns-clause-stands
returns-clause-stands c = whole-over

pub returns-clause-may : goal.returns-clause-may
returns-clause-may c = may-over
