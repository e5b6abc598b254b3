use Rattle.std.proofs.Common.{◌-◌, ◌++◌, ap, sym, ◌∙◌, arith, append-nil}
use Rattle.std.proofs.lemmas.Result.{IfOk-weaker}
use Rattle.distcp_plan.specs.inside.Leads.{lead_table}
use Rattle.distcp_plan.proofs.Lead.{led-translates, led-next, led-here, led-none, take-rest}
use Rattle.distcp_plan.proofs.moves.translated.Goals as goal

pub loop-left-preserved : goal.loop-left-preserved
loop-left-preserved c = record {
  within = omega arith;
  led = led-next (lead_table c.args.moves.now) c.args.path.now c.loop-left.left c.loop-left-test.true (sym c.in_default.ensures) ∙ c.loop-left.invariant.led;
}

pub returns-in-Some : goal.returns-in-Some
returns-in-Some c =
    let table = lead_table c.args.moves.now in
    let path = c.args.path.now in
    let left = c.loop-left.left in
    let target = c.in-Some.target.now in
    IfOk-weaker c.joined.result _ _
    (λ whole e. e
    ∙ ap (λ rest. target ++ rest) (take-rest (left - 1) path)
    ∙ sym (led-here table path target left c.loop-left-test.true (sym c.in-Some.ensures))
    ∙ c.loop-left.invariant.led
    ∙ led-translates c.args.moves.now path)
    c.joined.ensures

pub returns : goal.returns
returns c =
    let path = c.args.path.now in
    IfOk-weaker c.joined-2.result _ _
    (λ whole e. e
    ∙ append-nil path
    ∙ sym (led-none (lead_table c.args.moves.now) path c.loop-left.left c.loop-left-test.false)
    ∙ c.loop-left.invariant.led
    ∙ led-translates c.args.moves.now path)
    c.joined-2.ensures
