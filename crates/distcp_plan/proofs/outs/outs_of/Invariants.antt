use Rattle.std.proofs.Common.{◌≡◌, ◌++◌, drop}
use Rattle.std.specs.List.{filter_map}
use Rattle.distcp_plan.specs.Planned.{out_path}
use Rattle.distcp_plan.proofs.outs.outs_of.Given as goal

abbrev pub invariant-loop-line : goal.invariant-loop-line
invariant-loop-line l = l.outs.items ++ filter_map out_path (drop l.line-index l.lines) ≡ filter_map out_path l.lines
