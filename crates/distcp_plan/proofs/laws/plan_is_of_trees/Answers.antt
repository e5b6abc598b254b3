use Rattle.distcp_plan.proofs.Placed.{plan-is}
use Rattle.distcp_plan.proofs.laws.plan_is_of_trees.Goals as goal

pub returns : goal.returns
returns c = plan-is
