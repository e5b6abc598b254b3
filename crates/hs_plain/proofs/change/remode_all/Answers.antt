use Rattle.std.proofs.Common.{◌≡◌, ◌<◌, length, set, ap, sym, ◌∙◌, arith}
use Rattle.std.proofs.lemmas.List.Edits.{map_over_more}
use Rattle.hs_plain.specs.Change.{remode}
use Rattle.hs_plain.proofs.change.remode_all.Goals as goal

pub loop-place-preserved : goal.loop-place-preserved
loop-place-preserved g c =
    let path = c.args.path.now in
    let mode = c.args.mode in
    let tick = c.args.tick in
    let all = c.args.places.now.items in
    let so_far = c.loop-place.place-items in
    let at_place = c.loop-place.place-index in
    let place = c.place-item.result in
    let moded : c.remode.new.place ≡ remode path mode tick place = c.remode.ensures ∙ ap (remode path mode tick) (sym c.place-item.is) in
    let lt : at_place < length all = omega (arith, ap length c.deref_mut-place-items.ensures.value) in
    ap (λ (p : _). set so_far at_place p) moded
    ∙ map_over_more (remode path mode tick) all so_far at_place place lt c.loop-place.invariant c.place-item.is
