use Rattle.std.proofs.Common.{◌+◌, drop, ap, sym, subst, ◌∙◌}
use Rattle.std.specs.List.{flat_map}
use Rattle.std.proofs.lemmas.Result.{err_from_is_err_and}
use Rattle.distcp_plan.specs.Limits.{first_bad, put_texts, IsPlanFault}
use Rattle.distcp_plan.proofs.Steps.{next}
use Rattle.distcp_plan.proofs.Bad.{fault-first, none-first, passed-on}
use Rattle.distcp_plan.proofs.limits.check_puts.Goals as goal

pub returns-in_err-check_put-clause-err : goal.returns-in_err-check_put-clause-err
returns-in_err-check_put-clause-err c =
    let p = err_from_is_err_and c.from_residual.result c.from_residual.ensures.1 in
    let one = put_texts c.args.root.now c.args.plan.now in
    let puts = c.items-put-items.result.now in
    let i = c.loop-put.put-index in
    let fault = c.in_err-check_put.field-0.0 in
    passed-on c.from_residual.result p.0 fault (first_bad (flat_map one c.args.plan.now.puts)) p.1 p.2
    (subst (λ bad. IsPlanFault bad fault) (ap (λ puts. first_bad (flat_map one puts)) (sym (next puts i c.put-item.result c.loop-put-test.true c.put-item.is)) ∙ c.loop-put.invariant)
    (fault-first (one c.put-item.result) (flat_map one (drop (i + 1) puts)) fault c.in_err-check_put.ensures.err))

pub loop-put-preserved : goal.loop-put-preserved
loop-put-preserved c =
    let one = put_texts c.args.root.now c.args.plan.now in
    let puts = c.items-put-items.result.now in
    let i = c.loop-put.put-index in
    sym (none-first (one c.put-item.result) (flat_map one (drop (i + 1) puts)) c.in_ok-check_put.ensures.ok)
    ∙ ap (λ puts. first_bad (flat_map one puts)) (sym (next puts i c.put-item.result c.loop-put-test.true c.put-item.is))
    ∙ c.loop-put.invariant
