use Rattle.std.proofs.Common.{take, arith, length-take}
use Rattle.hs_io.proofs.BytesLemmas.{Gives-piece}
use Rattle.hs_io.proofs.input.read_all.Goals as goal

pub loop-filled-preserved : goal.loop-filled-preserved
loop-filled-preserved g c = record {
  filled = c.in_ok-given.ensures.bound;
  limit = c.in_ok-given.ensures.limit;
  given = Gives-piece _ _ _ c.loop-filled.bytes.items c.read_piece.new.bytes.items c.loop-filled.filled c.in_ok-given.given c.read_piece.ensures.front c.loop-filled.invariant.given c.in_ok-given.ensures.given;
  count = omega (arith, c.loop-filled.invariant.count, c.read_piece.ensures.count);
}

pub returns-clause-lost : goal.returns-clause-lost
returns-clause-lost g c = record {
  bytes = take c.loop-filled.filled c.loop-filled.bytes.items;
  given = c.loop-filled.invariant.given;
  past = omega (arith, length-take c.loop-filled.filled c.loop-filled.bytes.items, c.loop-filled.invariant.filled, c.loop-filled.invariant.limit, c.loop-filled-test.false);
}
