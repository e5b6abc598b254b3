use Rattle.plan_laws.proofs.Equal.{equal-from}
use Rattle.plan_laws.proofs.Unchanged.{unchanged}
use Rattle.plan_laws.proofs.no_line_no_change.Goals as goal

pub returns : goal.returns
returns c from to is bytes none = equal-from from to is.from_tree.sorted is.to_tree.sorted (λ q. unchanged from to is bytes none q)
