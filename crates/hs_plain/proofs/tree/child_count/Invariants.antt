use Rattle.std.proofs.Common.{◌≡◌, ◌≤◌, ◌+◌, length, drop}
use Rattle.hs_plain.specs.Tree.{listing}
use Rattle.hs_plain.proofs.tree.child_count.Given as goal

-- the children so far and those among the places that are left are all
abbrev pub invariant-loop-place : goal.invariant-loop-place
invariant-loop-place g l = record {
  counted : l.children + length (listing (drop l.place-index l.tree) l.path) ≡ length (listing l.tree l.path);
  within : l.children ≤ l.place-index;
}
