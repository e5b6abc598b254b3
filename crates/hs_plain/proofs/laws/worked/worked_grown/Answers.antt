use Rattle.hs_plain.proofs.WorkedRefusals.{grown_behind}
use Rattle.hs_plain.proofs.laws.worked.worked_grown.Goals as goal

pub returns : goal.returns
returns c = grown_behind
