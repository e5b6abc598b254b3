use Rattle.distcp_sync.proofs.Runs.{runs_are_told}
use Rattle.distcp_sync.proofs.laws.runs_are_told.Goals as goal

pub returns : goal.returns
returns c = runs_are_told c.calls_of_copy.ensures c.copy_of_frozen_is_front.ensures
