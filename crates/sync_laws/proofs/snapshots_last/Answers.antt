use Rattle.sync_laws.proofs.Shown.{never-gone}
use Rattle.sync_laws.proofs.Snapshots.{snapshots-last, names-last, ids-last}
use Rattle.sync_laws.proofs.snapshots_last.Goals as goal

pub returns : goal.returns
returns c = record { by_id = snapshots-last; never_gone = never-gone; by_name = names-last; name = ids-last }
