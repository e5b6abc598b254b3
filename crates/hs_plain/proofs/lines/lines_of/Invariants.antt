use Rattle.std.proofs.Common.{◌≡◌, map, take}
use Rattle.hs_plain.specs.Lines.{tree_line}
use Rattle.hs_plain.proofs.lines.lines_of.Given as goal

-- the places so far have their lines
abbrev pub invariant-loop-place : goal.invariant-loop-place
invariant-loop-place g l = l.lines.items ≡ map (tree_line g.B.FileBody.files.size l.tree) (take l.place-index l.tree)
