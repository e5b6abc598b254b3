use Rattle.std.proofs.Common.{◌≡◌, ◌++◌, drop}
use Rattle.std.specs.List.{filter_map}
use Rattle.hs_plain.specs.Reading.{dir_item}
use Rattle.hs_plain.proofs.reading.directory_list.Given as goal

-- the directories so far and those among the places that are left are all
abbrev pub invariant-loop-place : goal.invariant-loop-place
invariant-loop-place g l = l.list.items ++ filter_map (dir_item l.state) (drop l.place-index l.place-items) ≡ filter_map (dir_item l.state) l.state.tree
