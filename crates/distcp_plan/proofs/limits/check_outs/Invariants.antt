use Rattle.std.proofs.Common.{◌≡◌, drop}
use Rattle.distcp_plan.specs.Limits.{first_bad, out_texts}
use Rattle.distcp_plan.proofs.limits.check_outs.Given as goal

abbrev pub invariant-loop-index : goal.invariant-loop-index
invariant-loop-index l = first_bad (out_texts l.root l.plan l.index (drop l.index l.path-items)) ≡ first_bad (out_texts l.root l.plan 0 l.plan.outs)
