use Rattle.std.proofs.Common.{◌≡◌, ◌∷◌, [], None, OnOk, map, subst}
use Rattle.std.specs.List.{flat_map}
use Rattle.std.proofs.lemmas.Result.{err_from_is_err_and, on_ok_weaker, MatchResult-weaker}
use Rattle.hs_plain.specs.Plan.{text_below}
use Rattle.distcp_plan.specs.Limits.{first_bad, out_texts, put_texts, copy_text, plan_texts, IsPlanFault}
use Rattle.distcp_plan.proofs.Bad.{in-outs, in-puts, in-copies, in-none, passed-on}
use Rattle.distcp_plan.proofs.limits.check_plan.Goals as goal

pub returns-in_err-check_outs-clause-err : goal.returns-in_err-check_outs-clause-err
returns-in_err-check_outs-clause-err c =
    let p = err_from_is_err_and c.from_residual-in_err-check_outs.result c.from_residual-in_err-check_outs.ensures.1 in
    let root = c.args.root.now in
    let plan = c.args.plan.now in
    let fault = c.in_err-check_outs.field-0.0 in
    passed-on c.from_residual-in_err-check_outs.result p.0 fault (first_bad (plan_texts root plan)) p.1 p.2
    (in-outs (text_below root (plan.tmp ∷ [])) (out_texts root plan 0 plan.outs) (flat_map (put_texts root plan) plan.puts) (map (copy_text root) plan.copies) fault c.in_ok-check_tmp.ensures.ok c.in_err-check_outs.ensures.err)

pub returns-in_err-check_puts-clause-err : goal.returns-in_err-check_puts-clause-err
returns-in_err-check_puts-clause-err c =
    let p = err_from_is_err_and c.from_residual-in_err-check_puts.result c.from_residual-in_err-check_puts.ensures.1 in
    let root = c.args.root.now in
    let plan = c.args.plan.now in
    let fault = c.in_err-check_puts.field-0.0 in
    passed-on c.from_residual-in_err-check_puts.result p.0 fault (first_bad (plan_texts root plan)) p.1 p.2
    (in-puts (text_below root (plan.tmp ∷ [])) (out_texts root plan 0 plan.outs) (flat_map (put_texts root plan) plan.puts) (map (copy_text root) plan.copies) fault c.in_ok-check_tmp.ensures.ok c.in_ok-check_outs.ensures.ok c.in_err-check_puts.ensures.err)

pub returns-clause-ok : goal.returns-clause-ok
returns-clause-ok c =
    let root = c.args.root.now in
    let plan = c.args.plan.now in
    on_ok_weaker c.check_copies.result
    (in-none (text_below root (plan.tmp ∷ [])) (out_texts root plan 0 plan.outs) (flat_map (put_texts root plan) plan.puts) (map (copy_text root) plan.copies) c.in_ok-check_tmp.ensures.ok c.in_ok-check_outs.ensures.ok c.in_ok-check_puts.ensures.ok)
    (subst (λ copies. OnOk c.check_copies.result (first_bad (map (copy_text root) copies) ≡ None)) c.items.ensures c.check_copies.ensures.ok)

pub returns-clause-err : goal.returns-clause-err
returns-clause-err c =
    let root = c.args.root.now in
    let plan = c.args.plan.now in
    MatchResult-weaker c.check_copies.result c.check_copies.ensures.err (λ done h. h)
    (λ fault h. in-copies (text_below root (plan.tmp ∷ [])) (out_texts root plan 0 plan.outs) (flat_map (put_texts root plan) plan.puts) (map (copy_text root) plan.copies) fault c.in_ok-check_tmp.ensures.ok c.in_ok-check_outs.ensures.ok c.in_ok-check_puts.ensures.ok (subst (λ copies. IsPlanFault (first_bad (map (copy_text root) copies)) fault) c.items.ensures h))
