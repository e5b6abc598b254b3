use Rattle.plan_laws.proofs.Outs.{outs-outside}
use Rattle.plan_laws.proofs.outs_outside.Goals as goal

pub returns : goal.returns
returns c = outs-outside
