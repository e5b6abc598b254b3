use Rattle.std.proofs.Common.{◌+◌, ◌∷◌, [], map, drop, ap, sym, subst, ◌∙◌}
use Rattle.std.proofs.lemmas.Result.{err_from_is_err_and}
use Rattle.hs_plain.specs.Plan.{text_below}
use Rattle.distcp_plan.specs.Limits.{first_bad, copy_text, IsPlanFault}
use Rattle.distcp_plan.proofs.Steps.{next}
use Rattle.distcp_plan.proofs.Bad.{fault-first, none-first, passed-on}
use Rattle.distcp_plan.proofs.limits.check_copies.Goals as goal

pub returns-in_err-check_path-clause-err : goal.returns-in_err-check_path-clause-err
returns-in_err-check_path-clause-err c =
    let p = err_from_is_err_and c.from_residual.result c.from_residual.ensures.1 in
    let texts = map (copy_text c.args.root.now) in
    let i = c.loop-job.job-index in
    let fault = c.in_err-check_path.field-0.0 in
    passed-on c.from_residual.result p.0 fault (first_bad (texts c.args.copies.now)) p.1 p.2
    (subst (λ bad. IsPlanFault bad fault) (ap (λ jobs. first_bad (texts jobs)) (sym (next c.args.copies.now i c.job-item.result c.loop-job-test.true c.job-item.is)) ∙ c.loop-job.invariant)
    (fault-first (copy_text c.args.root.now c.job-item.result ∷ []) (texts (drop (i + 1) c.args.copies.now)) fault
    (subst (λ names. IsPlanFault (first_bad (text_below c.args.root.now names ∷ [])) fault) c.items.ensures c.in_err-check_path.ensures.err)))

pub loop-job-preserved : goal.loop-job-preserved
loop-job-preserved c =
    let texts = map (copy_text c.args.root.now) in
    let i = c.loop-job.job-index in
    sym (none-first (copy_text c.args.root.now c.job-item.result ∷ []) (texts (drop (i + 1) c.args.copies.now)) (ap (λ names. first_bad (text_below c.args.root.now names ∷ [])) (sym c.items.ensures) ∙ c.in_ok-check_path.ensures.ok))
    ∙ ap (λ jobs. first_bad (texts jobs)) (sym (next c.args.copies.now i c.job-item.result c.loop-job-test.true c.job-item.is))
    ∙ c.loop-job.invariant
