use Rattle.std.proofs.Common.{◌≡◌, map, take}
use Rattle.hs_plain.specs.Change.{rename_member}
use Rattle.hs_plain.proofs.snapshot_change.new_names.Given as goal

-- the snapshots so far have their names
abbrev pub invariant-loop-member : goal.invariant-loop-member
invariant-loop-member g l = l.names.items ≡ map (λ member. (rename_member l.id l.name member).name) (take l.member-index l.members)
