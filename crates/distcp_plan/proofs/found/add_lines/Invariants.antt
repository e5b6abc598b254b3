use Rattle.std.proofs.Common.{◌≡◌, drop}
use Rattle.distcp_plan.specs.Planned.{by_lines}
use Rattle.distcp_plan.proofs.found.add_lines.Given as goal

abbrev pub invariant-loop-line : goal.invariant-loop-line
invariant-loop-line l = by_lines l.moves (drop l.line-index l.lines) l.found ≡ by_lines l.moves l.lines l.initial.found
