use Rattle.std.proofs.Common.{◌≡◌, drop}
use Rattle.hs_plain.specs.Tree.{place_of}
use Rattle.hs_plain.proofs.tree.place_of.Given as goal

-- the node isn't among the places so far
abbrev pub invariant-loop-place : goal.invariant-loop-place
invariant-loop-place g l = place_of (drop l.place-index l.tree) l.id ≡ place_of l.tree l.id
