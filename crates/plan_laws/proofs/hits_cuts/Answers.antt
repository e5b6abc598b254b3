use Rattle.plan_laws.proofs.Cuts.{hits-cuts}
use Rattle.plan_laws.proofs.hits_cuts.Goals as goal

pub returns : goal.returns
returns c = hits-cuts
