use Rattle.hs_plain.proofs.WorkedRefusals.{refused_calls}
use Rattle.hs_plain.proofs.laws.worked.worked_refused.Goals as goal

pub returns : goal.returns
returns c = refused_calls
