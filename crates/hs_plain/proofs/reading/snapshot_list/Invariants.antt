use Rattle.std.proofs.Common.{◌≡◌, ◌++◌, drop}
use Rattle.std.specs.List.{filter_map}
use Rattle.hs_plain.specs.Reading.{snap_item}
use Rattle.hs_plain.proofs.reading.snapshot_list.Given as goal

-- the snapshots so far and those that are left are all
abbrev pub invariant-loop-member : goal.invariant-loop-member
invariant-loop-member g l = l.list.items ++ filter_map (snap_item l.directory) (drop l.member-index l.members) ≡ filter_map (snap_item l.directory) l.members
