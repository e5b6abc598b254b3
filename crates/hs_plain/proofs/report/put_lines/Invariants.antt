use Rattle.std.proofs.Common.{◌≡◌, vec_len}
use Rattle.hs_plain.specs.Report.{with_lines}
use Rattle.hs_plain.proofs.report.put_lines.Given as goal

-- the lines that are left lead to the list of all
abbrev pub invariant-loop-line : goal.invariant-loop-line
invariant-loop-line l = with_lines l.more.items l.lines.items ≡ with_lines l.fn.more.items l.fn.lines.items

abbrev pub decreases-loop-line : goal.decreases-loop-line
decreases-loop-line l = vec_len l.more
