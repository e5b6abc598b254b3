use Rattle.snapshot_manager.proofs.Found.{after_rename}
use Rattle.snapshot_manager.proofs.laws.named_after_rename.Goals as goal

pub returns : goal.returns
returns c = after_rename
