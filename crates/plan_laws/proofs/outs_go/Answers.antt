use Rattle.plan_laws.proofs.Outs.{outs-go}
use Rattle.plan_laws.proofs.outs_go.Goals as goal

pub returns : goal.returns
returns c = outs-go
