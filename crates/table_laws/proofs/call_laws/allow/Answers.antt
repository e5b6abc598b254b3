use Rattle.table_laws.proofs.WholeDirs.{whole-allow}
use Rattle.table_laws.proofs.call_laws.allow.Goals as goal

pub returns : goal.returns
returns c = whole-allow
