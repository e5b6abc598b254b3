use Rattle.std.proofs.Common.{◌≡◌, ◌++◌, take, vec_capacity}
use Rattle.inode_table.proofs.releasing.wait.Given as goal

abbrev pub invariant-loop-block : goal.invariant-loop-block
invariant-loop-block l = (l.waiting.items ≡ l.initial.waiting.items ++ take l.block-index l.blocks) × (vec_capacity l.waiting ≡ vec_capacity l.initial.waiting)
