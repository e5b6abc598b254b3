use Rattle.std.proofs.Common.{Err, [], ◌∷◌, ◌++◌, map}
use Rattle.hs_types.specs.declared.call.Call.TheVariants as calls
use Rattle.hs_plain.specs.Plan.{text_below, out_calls, put_call, move_calls}
use Rattle.distcp_sync.specs.inside.Tried.{IsTried}
use Rattle.distcp_sync.proofs.Tries.{tries_then, tries_ended, ends_with}
use Rattle.distcp_sync.proofs.moving.make_moves.Goals as goal

pub returns-in_err-make_tmp-clause-tried : goal.returns-in_err-make_tmp-clause-tried
returns-in_err-make_tmp-clause-tried g c =
    let first = g.L.NameLink.known c.args.target.now in
    let then = g.L.NameLink.known c.make_tmp.new.target in
    let root = c.args.root.now in
    let plan = c.args.plan.now in
    ends_with c.from_residual.result c.in_err-make_tmp.field-0.0 (IsTried first then (move_calls root plan) c.args.made.now.items c.make_tmp.new.made.items c.args.looks.now.items c.make_tmp.new.looks.items) c.from_residual.ensures.1
    (tries_ended first then (calls.Mkdir (text_below root (plan.tmp ∷ [])) ∷ []) (out_calls root plan 0 plan.outs ++ map (put_call root plan) plan.puts)
    c.args.made.now.items c.make_tmp.new.made.items c.args.looks.now.items c.make_tmp.new.looks.items c.in_err-make_tmp.field-0.0 c.in_err-make_tmp.ensures.tried)

pub returns-in_err-make_outs-clause-tried : goal.returns-in_err-make_outs-clause-tried
returns-in_err-make_outs-clause-tried g c =
    let first = g.L.NameLink.known c.args.target.now in
    let now = g.L.NameLink.known c.make_tmp.new.target in
    let then = g.L.NameLink.known c.make_outs.new.target in
    let root = c.args.root.now in
    let plan = c.args.plan.now in
    let outs = out_calls root plan 0 plan.outs in
    let puts = map (put_call root plan) plan.puts in
    ends_with c.from_residual-in_err-make_outs.result c.in_err-make_outs.field-0.0 (IsTried first then (move_calls root plan) c.args.made.now.items c.make_outs.new.made.items c.args.looks.now.items c.make_outs.new.looks.items) c.from_residual-in_err-make_outs.ensures.1
    (tries_then first now then (calls.Mkdir (text_below root (plan.tmp ∷ [])) ∷ []) (outs ++ puts)
    c.args.made.now.items c.make_tmp.new.made.items c.make_outs.new.made.items c.args.looks.now.items c.make_tmp.new.looks.items c.make_outs.new.looks.items (Err c.in_err-make_outs.field-0.0) c.in_ok-make_tmp.ensures.tried
    (tries_ended now then outs puts c.make_tmp.new.made.items c.make_outs.new.made.items c.make_tmp.new.looks.items c.make_outs.new.looks.items c.in_err-make_outs.field-0.0 c.in_err-make_outs.ensures.tried))

pub returns-clause-tried : goal.returns-clause-tried
returns-clause-tried g c =
    let first = g.L.NameLink.known c.args.target.now in
    let now = g.L.NameLink.known c.make_tmp.new.target in
    let then = g.L.NameLink.known c.make_outs.new.target in
    let last = g.L.NameLink.known c.make_puts.new.target in
    let root = c.args.root.now in
    let plan = c.args.plan.now in
    let outs = out_calls root plan 0 plan.outs in
    let puts = map (put_call root plan) plan.puts in
    tries_then first now last (calls.Mkdir (text_below root (plan.tmp ∷ [])) ∷ []) (outs ++ puts)
    c.args.made.now.items c.make_tmp.new.made.items c.make_puts.new.made.items c.args.looks.now.items c.make_tmp.new.looks.items c.make_puts.new.looks.items c.make_puts.result c.in_ok-make_tmp.ensures.tried
    (tries_then now then last outs puts c.make_tmp.new.made.items c.make_outs.new.made.items c.make_puts.new.made.items c.make_tmp.new.looks.items c.make_outs.new.looks.items c.make_puts.new.looks.items c.make_puts.result
    c.in_ok-make_outs.ensures.tried c.make_puts.ensures.tried)
