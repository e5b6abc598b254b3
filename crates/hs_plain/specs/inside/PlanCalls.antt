-- The calls of a plan, copy after copy, are its calls in one of the ways that they may be merged.
use Rattle.std.specs.Prelude.{ℕ, List}
use Rattle.hs_plain.specs.declared.plan.Plan.{Plan}
use Rattle.hs_plain.specs.Tree.{Tree}
use Rattle.hs_plain.specs.Plan.{ArePlanCalls, plan_calls}

abbrev pub InTurnAreMerged : Type 0
InTurnAreMerged = (root : List ℕ) (plan : Plan) (to : Tree (List ℕ)) → ArePlanCalls root plan to (plan_calls root plan to)
