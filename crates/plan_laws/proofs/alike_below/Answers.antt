use Rattle.std.proofs.Common.{◌≡◌, true}
use Rattle.plan_laws.proofs.Alike.{alike-below}
use Rattle.plan_laws.proofs.alike_below.Goals as goal

pub returns : goal.returns
returns c = λ alike. alike-below (λ a b. alike a b ≡ true)
