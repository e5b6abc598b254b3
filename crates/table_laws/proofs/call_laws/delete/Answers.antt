use Rattle.table_laws.proofs.WholeGone.{whole-delete}
use Rattle.table_laws.proofs.WholeMay.{may-delete}
use Rattle.table_laws.proofs.call_laws.delete.Goals as goal

pub returns-clause-stands : goal.returns-clause-stands
returns-clause-stands c = whole-delete

pub returns-clause-may : goal.returns-clause-may
returns-clause-may c = may-delete
