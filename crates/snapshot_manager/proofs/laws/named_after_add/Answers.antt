use Rattle.snapshot_manager.proofs.Found.{after_add}
use Rattle.snapshot_manager.proofs.laws.named_after_add.Goals as goal

pub returns : goal.returns
returns c = after_add
