use Rattle.std.proofs.Common.{◌+◌, List, [], ◌∷◌, ◌++◌, drop, refl, sym, ◌∙◌, subst}
use Rattle.hs_types.specs.Names.{Names}
use Rattle.hs_types.specs.declared.call.Call.TheVariants as calls
use Rattle.hs_plain.specs.Plan.{text_below, out_place, out_calls}
use Rattle.distcp_plan.proofs.Steps.{next}
use Rattle.distcp_sync.specs.inside.Tried.{IsTried, IsDoneUpTo}
use Rattle.distcp_sync.proofs.Tries.{upto_none, upto_more, upto_ended, ends_with}
use Rattle.distcp_sync.proofs.moving.make_outs.Goals as goal

pub loop-index-init : goal.loop-index-init
loop-index-init g c =
    let known = g.L.NameLink.known c.args.target.now in
    let root = c.args.root.now in
    let plan = c.args.plan.now in
    let whole = out_calls root plan 0 plan.outs in
    record {
      number = refl;
      alone = refl;
      stays = g.met.L.NameLink.stays_first c.args.target.now;
      room = c.requires.room;
      done = subst (λ (l : List Names). IsDoneUpTo known known whole (out_calls root plan 0 l) c.args.made.now.items c.args.made.now.items c.args.looks.now.items c.args.looks.now.items) (sym c.items-path-items.ensures)
          (upto_none known whole c.args.made.now.items c.args.looks.now.items);
    }

pub returns-in_err-make_out-clause-tried : goal.returns-in_err-make_out-clause-tried
returns-in_err-make_out-clause-tried g c =
    let first = g.L.NameLink.known c.args.target.now in
    let now = g.L.NameLink.known c.loop-index.target in
    let then = g.L.NameLink.known c.make_out.new.target in
    let root = c.args.root.now in
    let plan = c.args.plan.now in
    let those = c.items-path-items.result.now in
    let i = c.loop-index.index in
    let whole = out_calls root plan 0 plan.outs in
    let step = calls.Rename (text_below root c.path-item.result) (text_below root (out_place plan i)) ∷ [] in
    let left = out_calls root plan (i + 1) (drop (i + 1) those) in
    let up : IsDoneUpTo first now whole (step ++ left) c.args.made.now.items c.loop-index.made.items c.args.looks.now.items c.loop-index.looks.items =
    subst (λ (l : List Names). IsDoneUpTo first now whole (out_calls root plan i l) c.args.made.now.items c.loop-index.made.items c.args.looks.now.items c.loop-index.looks.items)
    (next those i c.path-item.result c.loop-index-test.true c.path-item.is) c.loop-index.invariant.done in
    ends_with c.from_residual.result c.in_err-make_out.field-0.0 (IsTried first then whole c.args.made.now.items c.make_out.new.made.items c.args.looks.now.items c.make_out.new.looks.items) c.from_residual.ensures.1
    (upto_ended first now then whole step left c.args.made.now.items c.loop-index.made.items c.make_out.new.made.items c.args.looks.now.items c.loop-index.looks.items c.make_out.new.looks.items c.in_err-make_out.field-0.0 up c.in_err-make_out.ensures.tried)

pub loop-index-preserved : goal.loop-index-preserved
loop-index-preserved g c =
    let first = g.L.NameLink.known c.args.target.now in
    let now = g.L.NameLink.known c.loop-index.target in
    let then = g.L.NameLink.known c.make_out.new.target in
    let root = c.args.root.now in
    let plan = c.args.plan.now in
    let those = c.items-path-items.result.now in
    let i = c.loop-index.index in
    let whole = out_calls root plan 0 plan.outs in
    let step = calls.Rename (text_below root c.path-item.result) (text_below root (out_place plan i)) ∷ [] in
    let left = out_calls root plan (i + 1) (drop (i + 1) those) in
    let up : IsDoneUpTo first now whole (step ++ left) c.args.made.now.items c.loop-index.made.items c.args.looks.now.items c.loop-index.looks.items =
    subst (λ (l : List Names). IsDoneUpTo first now whole (out_calls root plan i l) c.args.made.now.items c.loop-index.made.items c.args.looks.now.items c.loop-index.looks.items)
    (next those i c.path-item.result c.loop-index-test.true c.path-item.is) c.loop-index.invariant.done in
    record {
      number = c.make_out.ensures.number ∙ c.loop-index.invariant.number;
      alone = c.make_out.ensures.alone ∙ c.loop-index.invariant.alone;
      stays = g.met.L.NameLink.stays_then c.args.target.now c.loop-index.target c.make_out.new.target c.loop-index.invariant.stays c.make_out.ensures.stays;
      room = c.in_ok-make_out.ensures.room;
      done = upto_more first now then whole step left c.args.made.now.items c.loop-index.made.items c.make_out.new.made.items c.args.looks.now.items c.loop-index.looks.items c.make_out.new.looks.items up c.in_ok-make_out.ensures.tried;
    }
