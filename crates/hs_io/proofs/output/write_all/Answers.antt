use Rattle.std.proofs.Common.{arith}
use Rattle.hs_io.proofs.BytesLemmas.{Takes-piece}
use Rattle.hs_io.proofs.output.write_all.Goals as goal

pub loop-done-preserved : goal.loop-done-preserved
loop-done-preserved g c = record {
  within = grind arith;
  taken = Takes-piece _ _ _ c.args.bytes.now c.loop-done.done c.in_ok-taken.taken c.in_ok-taken.ensures.bound c.loop-done.invariant.taken c.in_ok-taken.ensures.taken;
  count = omega (arith, c.loop-done.invariant.count, c.write.ensures.count);
  no_call = λ empty. absurd (grind arith);
}
