use Rattle.std.proofs.Common.{ap, sym, subst, ◌∙◌}
use Rattle.distcp_plan.specs.Planned.{planned}
use Rattle.distcp_plan.specs.Limits.{first_bad, plan_texts, IsPlanFault}
use Rattle.distcp_plan.proofs.Theirs.{none-left, their-plan, their-bad}
use Rattle.distcp_plan.proofs.planning.plan.Goals as goal

pub returns-in-Ok-clause-of_trees : goal.returns-in-Ok-clause-of_trees
returns-in-Ok-clause-of_trees c = λ from to are.
    c.in_ok-plan.ensures
    ∙ (λ i. planned (c.items.ensures i) (c.items-2.ensures i) c.args.roots.now)
    ∙ their-plan c.args.lines.now c.args.listings.now c.args.roots.now from to are

pub returns-in-Ok-clause-paths_keep : goal.returns-in-Ok-clause-paths_keep
returns-in-Ok-clause-paths_keep c = λ from to are.
    let plan_is = c.in_ok-plan.ensures ∙ (λ i. planned (c.items.ensures i) (c.items-2.ensures i) c.args.roots.now) in
    none-left _ (sym (their-bad c.args.lines.now c.args.listings.now c.args.roots.now from to are c.args.target_root.now)
    ∙ ap (λ plan. first_bad (plan_texts c.args.target_root.now plan)) (sym plan_is)
    ∙ c.in-Ok.ensures.ok)

pub returns-in-Err-clause-first_path : goal.returns-in-Err-clause-first_path
returns-in-Err-clause-first_path c = λ from to are.
    let plan_is = c.in_ok-plan.ensures ∙ (λ i. planned (c.items.ensures i) (c.items-2.ensures i) c.args.roots.now) in
    subst (λ bad. IsPlanFault bad c.in-Err.fault)
    (ap (λ plan. first_bad (plan_texts c.args.target_root.now plan)) plan_is
    ∙ their-bad c.args.lines.now c.args.listings.now c.args.roots.now from to are c.args.target_root.now)
    c.in-Err.ensures.err
