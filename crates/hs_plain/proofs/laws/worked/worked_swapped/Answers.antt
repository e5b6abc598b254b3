use Rattle.hs_plain.proofs.WorkedSyncs.{swapped}
use Rattle.hs_plain.proofs.laws.worked.worked_swapped.Goals as goal

pub returns : goal.returns
returns c = swapped
