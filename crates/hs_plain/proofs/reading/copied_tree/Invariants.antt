use Rattle.std.proofs.Common.{◌≡◌, drop}
use Rattle.hs_plain.specs.Reading.{copied_tree}
use Rattle.hs_plain.proofs.reading.copied_tree.Given as goal

-- the snapshot isn't among the members so far
abbrev pub invariant-loop-member : goal.invariant-loop-member
invariant-loop-member g l = copied_tree (drop l.member-index l.members) l.snapshot ≡ copied_tree l.members l.snapshot
