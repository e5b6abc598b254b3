use Rattle.hs_plain.proofs.Frozen.{only_snap_del}
use Rattle.hs_plain.proofs.laws.frozen.only_snap_del.Goals as goal

pub returns : goal.returns
returns c = only_snap_del
