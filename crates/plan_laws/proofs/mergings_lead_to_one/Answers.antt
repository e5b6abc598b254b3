use Rattle.plan_laws.proofs.TriedPlans.{mergings-equal}
use Rattle.plan_laws.proofs.mergings_lead_to_one.Goals as goal

pub returns : goal.returns
returns c = λ from to is from_named to_named names root_text root one two are_one are_two a b has_a has_b equal.
    mergings-equal from to is from_named to_named names root_text root has_a.leads one two are_one are_two a b has_a has_b equal
