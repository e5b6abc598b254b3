use Rattle.std.proofs.Common.{◌≡◌, map, take}
use Rattle.hs_plain.specs.Change.{new_path}
use Rattle.hs_plain.proofs.change.new_paths.Given as goal

-- the places so far have their paths
abbrev pub invariant-loop-place : goal.invariant-loop-place
invariant-loop-place g l = l.paths.items ≡ map (new_path l.old l.new) (take l.place-index l.places)
