use Rattle.snapshot_manager.proofs.Found.{last_stays_after_remove}
use Rattle.snapshot_manager.proofs.laws.last_stays_after_remove.Goals as goal

pub returns : goal.returns
returns c = last_stays_after_remove
