use Rattle.plan_laws.proofs.Unchanged.{outs-lines}
use Rattle.plan_laws.proofs.outs_by_lines.Goals as goal

pub returns : goal.returns
returns c = outs-lines
