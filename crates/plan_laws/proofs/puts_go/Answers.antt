use Rattle.std.proofs.Common.{◌≡◌, true}
use Rattle.plan_laws.proofs.Puts.{puts-go}
use Rattle.plan_laws.proofs.puts_go.Goals as goal

pub returns : goal.returns
returns c = λ alike. puts-go (λ a b. alike a b ≡ true)
