use Rattle.std.proofs.Common.{◌<◌, ◌++◌, length, take, ap, ◌∙◌, arith}
use Rattle.dir_changes.specs.Entries.{among}
use Rattle.dir_changes.proofs.CombineLaws.{turned_rest, turned_found}
use Rattle.dir_changes.proofs.combine.take_found.Goals as goal

pub loop-preserved : goal.loop-preserved
loop-preserved c =
    let orig = c.args.list.now.items in
    let names = c.args.names.now in
    let k = c.loop.counter in
    let lt : k < length orig = omega (arith, c.loop-test.true, c.args.list.now.ok.0) in
    record {
      rest = c.turn.ensures.rest ∙ turned_rest names orig k lt c.loop.list.items c.loop.invariant.rest;
      found = c.turn.ensures.found ∙ ap (λ l. l ++ among names (take 1 c.loop.list.items)) c.loop.invariant.found ∙ turned_found names orig k lt c.loop.list.items c.args.found.now.items c.loop.invariant.rest;
      len = omega (arith, c.turn.ensures.len, c.loop.invariant.len);
      few = omega (arith, c.turn.ensures.few, c.loop.invariant.few);
      capacity = c.turn.ensures.capacity ∙ c.loop.invariant.capacity;
    }
