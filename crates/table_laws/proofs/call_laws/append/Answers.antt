use Rattle.table_laws.proofs.WholeNodes.{whole-append}
use Rattle.table_laws.proofs.WholeMay.{may-append}
use Rattle.table_laws.proofs.call_laws.append.Goals as goal

pub returns-clause-stands : goal.returns-clause-stands
returns-clause-stands c = λ files t snaps state text bytes path chain node old new before asked same reach. whole-append t snaps state path chain node before reach files text bytes old new asked same

pub returns-clause-may : goal.returns-clause-may
returns-clause-may c = may-append
