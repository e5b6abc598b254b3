use Rattle.hs_plain.proofs.PlanCalls.{in_turn_are_merged}
use Rattle.hs_plain.proofs.laws.plan_calls.copies_in_turn_are_merged.Goals as goal

pub returns : goal.returns
returns c = in_turn_are_merged
