use Rattle.std.proofs.Common.{◌≡◌, drop}
use Rattle.hs_plain.specs.State.{snapshot_named}
use Rattle.hs_plain.proofs.snapshots.snapshot_named.Given as goal

-- the search among the snapshots that are left finds what the whole one does
abbrev pub invariant-loop-member : goal.invariant-loop-member
invariant-loop-member g l = snapshot_named (drop l.member-index l.members) l.directory l.name ≡ snapshot_named l.members l.directory l.name
