use Rattle.table_laws.proofs.WholeDropped.{whole-snap_del}
use Rattle.table_laws.proofs.call_laws.snap_del.Goals as goal

pub returns : goal.returns
returns c = whole-snap_del
