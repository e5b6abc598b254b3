use Rattle.table_laws.proofs.WholeDirs.{whole-disallow}
use Rattle.table_laws.proofs.call_laws.disallow.Goals as goal

pub returns : goal.returns
returns c = whole-disallow
