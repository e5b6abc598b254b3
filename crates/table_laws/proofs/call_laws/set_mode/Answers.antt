use Rattle.table_laws.proofs.WholeNodes.{whole-mode, can-mode}
use Rattle.table_laws.proofs.call_laws.set_mode.Goals as goal

pub returns-clause-stands : goal.returns-clause-stands
returns-clause-stands c = λ files t snaps state text mode path chain node before asked reach. whole-mode t snaps state path chain node before reach files text mode asked

pub returns-clause-may : goal.returns-clause-may
returns-clause-may c = λ t snaps state path chain node mode before reach. can-mode t snaps state path chain node before reach mode
