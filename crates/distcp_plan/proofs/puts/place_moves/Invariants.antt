use Rattle.std.proofs.Common.{◌≡◌, length, drop}
use Rattle.std.specs.List.{filter_map}
use Rattle.distcp_plan.specs.Planned.{out_path, in_places, moves_by}
use Rattle.distcp_plan.specs.inside.Keyed.{keyed}
use Rattle.distcp_plan.proofs.puts.place_moves.Given as goal

abbrev pub invariant-loop-line : goal.invariant-loop-line
invariant-loop-line l = record { left : l.left ≡ length (filter_map out_path (drop l.line-index l.lines)); places : in_places (keyed l.places.entries) (moves_by (drop l.line-index l.lines)) ≡ in_places (keyed l.initial.places.entries) (moves_by l.lines) }
