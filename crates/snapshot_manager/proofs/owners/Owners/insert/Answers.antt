use Rattle.std.proofs.Common.{arith}
use Rattle.std.proofs.lemmas.Grind.{common_steps}
use Rattle.snapshot_manager.proofs.owners.Owners.insert.Goals as goal

pub returns-clause-ok : goal.returns-clause-ok
returns-clause-ok c = λ q. grind (arith, common_steps, c.in_ok-insert.ensures.updates.0 q, c.self.view_is)
