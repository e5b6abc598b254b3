use Rattle.table_laws.proofs.WholeNew.{whole-mkdir, may-mkdir}
use Rattle.table_laws.proofs.call_laws.mkdir.Goals as goal

pub returns-clause-stands : goal.returns-clause-stands
returns-clause-stands c = whole-mkdir

pub returns-clause-may : goal.returns-clause-may
returns-clause-may c = may-mkdir
