use Rattle.distcp_plan.proofs.Texts.{first-is-of-calls}
use Rattle.distcp_plan.proofs.laws.first_bad_is_of_calls.Goals as goal

pub returns : goal.returns
returns c = first-is-of-calls
