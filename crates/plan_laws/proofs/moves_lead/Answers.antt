use Rattle.plan_laws.proofs.Moves.{all-outs-go, all-puts-go, puts-stand-all}
use Rattle.plan_laws.proofs.moves_lead.Goals as goal

pub returns : goal.returns
returns c = record { outs = all-outs-go; puts = all-puts-go; stand = puts-stand-all }
