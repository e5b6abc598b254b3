use Rattle.snapshot_manager.proofs.Found.{after_remove}
use Rattle.snapshot_manager.proofs.laws.named_after_remove.Goals as goal

pub returns : goal.returns
returns c = after_remove
