use Rattle.hs_plain.proofs.WorkedMoves.{nested_nowhere}
use Rattle.hs_plain.proofs.laws.worked.worked_nested.Goals as goal

pub returns : goal.returns
returns c = nested_nowhere
