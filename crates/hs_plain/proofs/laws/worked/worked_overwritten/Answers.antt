use Rattle.hs_plain.proofs.WorkedMoves.{overwritten}
use Rattle.hs_plain.proofs.laws.worked.worked_overwritten.Goals as goal

pub returns : goal.returns
returns c = overwritten
