use Rattle.std.proofs.Common.{◌≡◌, ◌+◌, drop}
use Rattle.std.specs.List.{prefix_len}
use Rattle.hs_plain.specs.Report.{line_before}
use Rattle.hs_plain.proofs.report.rank_of.Given as goal

-- each line so far comes before
abbrev pub invariant-loop-rank : goal.invariant-loop-rank
invariant-loop-rank l = l.rank + prefix_len (λ other. line_before other l.line) (drop l.rank l.lines) ≡ prefix_len (λ other. line_before other l.line) l.lines
