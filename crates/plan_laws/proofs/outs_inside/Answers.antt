use Rattle.plan_laws.proofs.Outs.{outs-inside}
use Rattle.plan_laws.proofs.outs_inside.Goals as goal

pub returns : goal.returns
returns c = outs-inside
