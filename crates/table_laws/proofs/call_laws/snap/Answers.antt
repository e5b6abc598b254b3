use Rattle.table_laws.proofs.WholeDirs.{whole-snap}
use Rattle.table_laws.proofs.call_laws.snap.Goals as goal

pub returns : goal.returns
returns c = whole-snap
