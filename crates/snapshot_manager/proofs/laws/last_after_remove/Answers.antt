use Rattle.snapshot_manager.proofs.Found.{last_after_remove}
use Rattle.snapshot_manager.proofs.laws.last_after_remove.Goals as goal

pub returns : goal.returns
returns c = last_after_remove
