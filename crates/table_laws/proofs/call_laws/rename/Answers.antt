use Rattle.table_laws.proofs.WholeRename.{whole-rename}
use Rattle.table_laws.proofs.WholeMay.{may-move}
use Rattle.table_laws.proofs.call_laws.rename.Goals as goal

pub returns-clause-stands : goal.returns-clause-stands
returns-clause-stands c = whole-rename

pub returns-clause-may : goal.returns-clause-may
returns-clause-may c = may-move
