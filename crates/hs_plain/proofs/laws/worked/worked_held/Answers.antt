use Rattle.hs_plain.proofs.WorkedMoves.{held}
use Rattle.hs_plain.proofs.laws.worked.worked_held.Goals as goal

pub returns : goal.returns
returns c = held
