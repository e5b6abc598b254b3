use Rattle.copy_workers.proofs.CopyFronts.{copy_of_frozen_is_front}
use Rattle.copy_workers.proofs.laws.copy_of_frozen_is_front.Goals as goal

pub returns : goal.returns
returns c = copy_of_frozen_is_front
