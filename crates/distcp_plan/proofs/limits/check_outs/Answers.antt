use Rattle.std.proofs.Common.{◌+◌, ◌∷◌, [], drop, ap, sym, subst, ◌∙◌}
use Rattle.std.proofs.lemmas.Result.{err_from_is_err_and}
use Rattle.hs_plain.specs.Plan.{text_below, out_place}
use Rattle.distcp_plan.specs.Limits.{first_bad, out_texts, IsPlanFault}
use Rattle.distcp_plan.proofs.Steps.{next}
use Rattle.distcp_plan.proofs.Bad.{fault-first, none-first, passed-on}
use Rattle.distcp_plan.proofs.limits.check_outs.Goals as goal

pub returns-in_err-check_moved-clause-err : goal.returns-in_err-check_moved-clause-err
returns-in_err-check_moved-clause-err c =
    let p = err_from_is_err_and c.from_residual.result c.from_residual.ensures.1 in
    let root = c.args.root.now in
    let plan = c.args.plan.now in
    let paths = c.items-path-items.result.now in
    let i = c.loop-index.index in
    let fault = c.in_err-check_moved.field-0.0 in
    passed-on c.from_residual.result p.0 fault (first_bad (out_texts root plan 0 plan.outs)) p.1 p.2
    (subst (λ bad. IsPlanFault bad fault) (ap (λ paths. first_bad (out_texts root plan i paths)) (sym (next paths i c.path-item.result c.loop-index-test.true c.path-item.is)) ∙ c.loop-index.invariant)
    (fault-first (text_below root c.path-item.result ∷ text_below root (out_place plan i) ∷ []) (out_texts root plan (i + 1) (drop (i + 1) paths)) fault
    (subst (λ path. IsPlanFault (first_bad (text_below root path ∷ text_below root (out_place plan i) ∷ [])) fault) c.items.ensures c.in_err-check_moved.ensures.err)))

pub loop-index-preserved : goal.loop-index-preserved
loop-index-preserved c =
    let root = c.args.root.now in
    let plan = c.args.plan.now in
    let paths = c.items-path-items.result.now in
    let i = c.loop-index.index in
    sym (none-first (text_below root c.path-item.result ∷ text_below root (out_place plan i) ∷ []) (out_texts root plan (i + 1) (drop (i + 1) paths))
    (ap (λ path. first_bad (text_below root path ∷ text_below root (out_place plan i) ∷ [])) (sym c.items.ensures) ∙ c.in_ok-check_moved.ensures.ok))
    ∙ ap (λ paths. first_bad (out_texts root plan i paths)) (sym (next paths i c.path-item.result c.loop-index-test.true c.path-item.is))
    ∙ c.loop-index.invariant
