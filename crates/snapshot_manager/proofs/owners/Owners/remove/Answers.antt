use Rattle.std.proofs.Common.{arith}
use Rattle.std.proofs.lemmas.Grind.{common_steps}
use Rattle.snapshot_manager.proofs.owners.Owners.remove.Goals as goal

pub returns : goal.returns
returns c = λ q. grind (arith, common_steps, c.remove.ensures.updates.0 q, c.self.view_is)
