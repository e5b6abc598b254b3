use Rattle.snapshot_manager.proofs.Found.{last_after_rename}
use Rattle.snapshot_manager.proofs.laws.last_after_rename.Goals as goal

pub returns : goal.returns
returns c = last_after_rename
