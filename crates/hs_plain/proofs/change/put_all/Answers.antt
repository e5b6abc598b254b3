use Rattle.std.proofs.Common.{length, ap, ◌∙◌, arith}
use Rattle.std.specs.FinMap.Entries.{is_sorted}
use Rattle.hs_plain.specs.Tree.{path_cmp}
use Rattle.hs_plain.specs.Change.{put_all}
use Rattle.hs_plain.proofs.Moves.{at_new_paths, put_next}
use Rattle.hs_plain.proofs.ValidTrees.{sorted-put}
use Rattle.hs_plain.proofs.change.put_all.Goals as goal

pub loop-path-preserved : goal.loop-path-preserved
loop-path-preserved g c =
    let steps = c.in-Some.ensures.steps in
    let places = c.loop-path.path-iterator.a.rest.items in
    let paths = c.loop-path.path-iterator.b.rest.items in
    let more = c.next.new.self.a.rest.items in
    let others = c.next.new.self.b.rest.items in
    let put = c.put_place.ensures in
    record {
      left =
          ap (λ (sorted : _). put_all sorted (at_new_paths more others)) put.items
          ∙ put_next c.loop-path.sorted.items places more paths others c.in-Some.path c.unwrap_or.result c.in-Some.node c.in-Some.new_path steps.0.0 steps.1.0 c.unwrap_or.ensures
          ∙ c.loop-path.invariant.left;
      same = omega (arith, c.loop-path.invariant.same, ap length steps.0.0, ap length steps.1.0);
      room = omega (arith, c.loop-path.invariant.room, ap length steps.0.0, put.len, put.room);
      rising = ap (is_sorted path_cmp) put.items ∙ sorted-put c.unwrap_or.result c.in-Some.node c.loop-path.sorted.items c.loop-path.invariant.rising;
    }
