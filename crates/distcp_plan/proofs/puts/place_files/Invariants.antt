use Rattle.std.proofs.Common.{◌≡◌, map}
use Rattle.distcp_plan.specs.Planned.{in_places, file_place}
use Rattle.distcp_plan.specs.inside.Keyed.{keyed}
use Rattle.distcp_plan.proofs.puts.place_files.Given as goal

abbrev pub invariant-loop-file : goal.invariant-loop-file
invariant-loop-file l = in_places (keyed l.places.entries) (map file_place l.file-iterator.rest.items) ≡ in_places (keyed l.initial.places.entries) (map file_place l.initial.file-iterator.rest.items)
