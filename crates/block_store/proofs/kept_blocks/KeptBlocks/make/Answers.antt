use Rattle.std.proofs.Common.{arith}
use Rattle.std.proofs.lemmas.Grind.{common_steps}
use Rattle.block_store.proofs.kept_blocks.KeptBlocks.make.Goals as goal

pub invariant_of-self-2 : goal.invariant_of-self-2
invariant_of-self-2 c = λ block above. grind (arith, common_steps, c.in_ok-insert.ensures.updates.0 block, c.self.invariant block (omega arith))

pub returns-clause-made : goal.returns-clause-made
returns-clause-made c = λ other. grind (arith, common_steps, c.in_ok-insert.ensures.updates.0 other, c.self.view_is)
