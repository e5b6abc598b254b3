use Rattle.table_laws.proofs.WholeNaming.{whole-snap_ren}
use Rattle.table_laws.proofs.call_laws.snap_ren.Goals as goal

pub returns : goal.returns
returns c = whole-snap_ren
