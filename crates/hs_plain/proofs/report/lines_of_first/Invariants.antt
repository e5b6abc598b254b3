use Rattle.std.proofs.Common.{◌≡◌, ◌++◌, drop}
use Rattle.std.specs.List.{flat_map}
use Rattle.hs_plain.specs.Report.{lines_from}
use Rattle.hs_plain.proofs.report.lines_of_first.Given as goal

-- the lines so far and those of the places that are left are all
abbrev pub invariant-loop-place : goal.invariant-loop-place
invariant-loop-place g l = l.lines.items ++ flat_map (lines_from l.from l.to) (drop l.place-index l.from) ≡ flat_map (lines_from l.from l.to) l.from
