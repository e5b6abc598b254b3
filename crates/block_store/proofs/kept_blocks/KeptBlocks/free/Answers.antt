use Rattle.std.proofs.Common.{arith}
use Rattle.std.proofs.lemmas.Grind.{common_steps}
use Rattle.block_store.proofs.kept_blocks.KeptBlocks.free.Goals as goal

pub invariant_of-self : goal.invariant_of-self
invariant_of-self c = λ block above. grind (arith, common_steps, c.remove.ensures.updates.0 block, c.self.invariant block above)

pub returns-clause-freed : goal.returns-clause-freed
returns-clause-freed c = λ other. grind (arith, common_steps, c.remove.ensures.updates.0 other, c.self.view_is)
