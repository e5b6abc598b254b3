use Rattle.hs_plain.proofs.WorkedMoves.{moved_out}
use Rattle.hs_plain.proofs.laws.worked.worked_moved_out.Goals as goal

pub returns : goal.returns
returns c = moved_out
