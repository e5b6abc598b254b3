use Rattle.std.proofs.Common.{◌≡◌, ◌++◌, map}
use Rattle.distcp_plan.specs.Planned.{as_job}
use Rattle.distcp_plan.specs.inside.Keyed.{keyed}
use Rattle.distcp_plan.proofs.puts.copies_in.Given as goal

abbrev pub invariant-loop-path : goal.invariant-loop-path
invariant-loop-path l = l.copies.items ++ map as_job (keyed l.path-iterator) ≡ map as_job (keyed l.initial.path-iterator)
