use Rattle.std.proofs.Common.{◌≡◌, drop}
use Rattle.hs_plain.specs.State.{member_named}
use Rattle.hs_plain.proofs.resolve.member_named.Given as goal

-- the snapshot isn't among the members so far
abbrev pub invariant-loop-member : goal.invariant-loop-member
invariant-loop-member g l = member_named (drop l.member-index l.members) l.directory l.name ≡ member_named l.members l.directory l.name
