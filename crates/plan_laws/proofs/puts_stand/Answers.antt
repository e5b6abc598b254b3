use Rattle.std.proofs.Common.{◌≡◌, true}
use Rattle.plan_laws.proofs.Puts.{puts-stand}
use Rattle.plan_laws.proofs.puts_stand.Goals as goal

pub returns : goal.returns
returns c = λ alike. puts-stand (λ a b. alike a b ≡ true)
