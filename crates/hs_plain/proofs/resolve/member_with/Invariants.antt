use Rattle.std.proofs.Common.{◌≡◌, drop}
use Rattle.hs_plain.specs.State.{member_with}
use Rattle.hs_plain.proofs.resolve.member_with.Given as goal

-- the snapshot isn't among the members so far
abbrev pub invariant-loop-member : goal.invariant-loop-member
invariant-loop-member g l = member_with (drop l.member-index l.members) l.snapshot ≡ member_with l.members l.snapshot
