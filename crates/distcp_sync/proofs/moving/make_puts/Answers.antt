use Rattle.std.proofs.Common.{◌+◌, List, [], ◌∷◌, ◌++◌, drop, map, refl, sym, ◌∙◌, subst}
use Rattle.hs_plain.specs.declared.plan.Put.{Put}
use Rattle.hs_plain.specs.Plan.{put_call}
use Rattle.distcp_plan.proofs.Steps.{next}
use Rattle.distcp_sync.specs.inside.Tried.{IsTried, IsDoneUpTo}
use Rattle.distcp_sync.proofs.Tries.{upto_none, upto_more, upto_ended, ends_with}
use Rattle.distcp_sync.proofs.moving.make_puts.Goals as goal

pub loop-put-init : goal.loop-put-init
loop-put-init g c =
    let known = g.L.NameLink.known c.args.target.now in
    let root = c.args.root.now in
    let plan = c.args.plan.now in
    let whole = map (put_call root plan) plan.puts in
    record {
      number = refl;
      alone = refl;
      stays = g.met.L.NameLink.stays_first c.args.target.now;
      room = c.requires.room;
      done = subst (λ (l : List Put). IsDoneUpTo known known whole (map (put_call root plan) l) c.args.made.now.items c.args.made.now.items c.args.looks.now.items c.args.looks.now.items) (sym c.items-put-items.ensures)
          (upto_none known whole c.args.made.now.items c.args.looks.now.items);
    }

pub returns-in_err-make_put-clause-tried : goal.returns-in_err-make_put-clause-tried
returns-in_err-make_put-clause-tried g c =
    let first = g.L.NameLink.known c.args.target.now in
    let now = g.L.NameLink.known c.loop-put.target in
    let then = g.L.NameLink.known c.make_put.new.target in
    let root = c.args.root.now in
    let plan = c.args.plan.now in
    let those = c.items-put-items.result.now in
    let i = c.loop-put.put-index in
    let whole = map (put_call root plan) plan.puts in
    let step = put_call root plan c.put-item.result ∷ [] in
    let left = map (put_call root plan) (drop (i + 1) those) in
    let up : IsDoneUpTo first now whole (step ++ left) c.args.made.now.items c.loop-put.made.items c.args.looks.now.items c.loop-put.looks.items =
    subst (λ (l : List Put). IsDoneUpTo first now whole (map (put_call root plan) l) c.args.made.now.items c.loop-put.made.items c.args.looks.now.items c.loop-put.looks.items)
    (next those i c.put-item.result c.loop-put-test.true c.put-item.is) c.loop-put.invariant.done in
    ends_with c.from_residual.result c.in_err-make_put.field-0.0 (IsTried first then whole c.args.made.now.items c.make_put.new.made.items c.args.looks.now.items c.make_put.new.looks.items) c.from_residual.ensures.1
    (upto_ended first now then whole step left c.args.made.now.items c.loop-put.made.items c.make_put.new.made.items c.args.looks.now.items c.loop-put.looks.items c.make_put.new.looks.items c.in_err-make_put.field-0.0 up c.in_err-make_put.ensures.tried)

pub loop-put-preserved : goal.loop-put-preserved
loop-put-preserved g c =
    let first = g.L.NameLink.known c.args.target.now in
    let now = g.L.NameLink.known c.loop-put.target in
    let then = g.L.NameLink.known c.make_put.new.target in
    let root = c.args.root.now in
    let plan = c.args.plan.now in
    let those = c.items-put-items.result.now in
    let i = c.loop-put.put-index in
    let whole = map (put_call root plan) plan.puts in
    let step = put_call root plan c.put-item.result ∷ [] in
    let left = map (put_call root plan) (drop (i + 1) those) in
    let up : IsDoneUpTo first now whole (step ++ left) c.args.made.now.items c.loop-put.made.items c.args.looks.now.items c.loop-put.looks.items =
    subst (λ (l : List Put). IsDoneUpTo first now whole (map (put_call root plan) l) c.args.made.now.items c.loop-put.made.items c.args.looks.now.items c.loop-put.looks.items)
    (next those i c.put-item.result c.loop-put-test.true c.put-item.is) c.loop-put.invariant.done in
    record {
      number = c.make_put.ensures.number ∙ c.loop-put.invariant.number;
      alone = c.make_put.ensures.alone ∙ c.loop-put.invariant.alone;
      stays = g.met.L.NameLink.stays_then c.args.target.now c.loop-put.target c.make_put.new.target c.loop-put.invariant.stays c.make_put.ensures.stays;
      room = c.in_ok-make_put.ensures.room;
      done = upto_more first now then whole step left c.args.made.now.items c.loop-put.made.items c.make_put.new.made.items c.args.looks.now.items c.loop-put.looks.items c.make_put.new.looks.items up c.in_ok-make_put.ensures.tried;
    }
