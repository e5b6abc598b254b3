use Rattle.std.proofs.Common.{◌≡◌, ◌++◌, drop}
use Rattle.std.specs.List.{filter_map}
use Rattle.hs_plain.specs.Report.{created}
use Rattle.hs_plain.proofs.report.created_lines.Given as goal

-- the lines so far and those of the places that are left are all
abbrev pub invariant-loop-place : goal.invariant-loop-place
invariant-loop-place g l = l.lines.items ++ filter_map (created l.from l.to) (drop l.place-index l.to) ≡ filter_map (created l.from l.to) l.to
