use Rattle.std.proofs.Common.{◌≡◌, drop}
use Rattle.hs_plain.specs.Tree.{node_at}
use Rattle.hs_plain.proofs.tree.node_at.Given as goal

-- the node isn't among the places so far
abbrev pub invariant-loop-place : goal.invariant-loop-place
invariant-loop-place g l = node_at (drop l.place-index l.tree) l.path ≡ node_at l.tree l.path
