use Rattle.std.proofs.Common.{◌≡◌, map}
use Rattle.distcp_plan.specs.Planned.{in_places, new_place}
use Rattle.distcp_plan.specs.inside.Keyed.{keyed}
use Rattle.distcp_plan.proofs.puts.place_dirs.Given as goal

abbrev pub invariant-loop-dir : goal.invariant-loop-dir
invariant-loop-dir l = in_places (keyed l.places.entries) (map new_place l.dir-iterator.rest.items) ≡ in_places (keyed l.initial.places.entries) (map new_place l.initial.dir-iterator.rest.items)
