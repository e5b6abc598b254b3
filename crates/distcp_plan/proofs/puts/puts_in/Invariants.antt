use Rattle.std.proofs.Common.{◌≡◌, ◌++◌, map}
use Rattle.distcp_plan.specs.Planned.{as_put}
use Rattle.distcp_plan.specs.inside.Keyed.{keyed}
use Rattle.distcp_plan.proofs.puts.puts_in.Given as goal

abbrev pub invariant-loop-path : goal.invariant-loop-path
invariant-loop-path l = l.puts.items ++ map as_put (keyed l.path-iterator) ≡ map as_put (keyed l.initial.path-iterator)
