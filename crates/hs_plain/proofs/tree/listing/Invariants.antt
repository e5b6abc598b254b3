use Rattle.std.proofs.Common.{◌≡◌, ◌++◌, drop}
use Rattle.hs_plain.specs.Tree.{listing}
use Rattle.hs_plain.proofs.tree.listing.Given as goal

-- the items so far and those of the places that are left are all
abbrev pub invariant-loop-place : goal.invariant-loop-place
invariant-loop-place g l = l.items.items ++ listing (drop l.place-index l.tree) l.dir ≡ listing l.tree l.dir
