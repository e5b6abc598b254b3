use Rattle.std.proofs.Common.{◌≡◌, map, drop}
use Rattle.distcp_plan.specs.Limits.{first_bad, copy_text}
use Rattle.distcp_plan.proofs.limits.check_copies.Given as goal

abbrev pub invariant-loop-job : goal.invariant-loop-job
invariant-loop-job l = first_bad (map (copy_text l.root) (drop l.job-index l.copies)) ≡ first_bad (map (copy_text l.root) l.copies)
