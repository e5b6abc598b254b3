use Rattle.std.proofs.Common.{◌≡◌, ◌++◌, drop}
use Rattle.hs_plain.specs.Tree.{subtree}
use Rattle.hs_plain.proofs.subtree.subtree.Given as goal

-- the copies so far and those of the places that are left are all
abbrev pub invariant-loop-place : goal.invariant-loop-place
invariant-loop-place l = l.copies.items ++ subtree (drop l.place-index l.tree) l.path ≡ subtree l.tree l.path
