use Rattle.copy_workers.proofs.CopyCalls.{calls_of_copy}
use Rattle.copy_workers.proofs.laws.calls_of_copy.Goals as goal

pub returns : goal.returns
returns c = calls_of_copy
