use Rattle.std.proofs.Common.{◌≡◌, take}
use Rattle.dir_changes.proofs.merge.copies.Given as goal

-- the entries so far are copied
abbrev pub invariant-loop-child : goal.invariant-loop-child
invariant-loop-child l = l.copy.items ≡ take l.child-index l.children
