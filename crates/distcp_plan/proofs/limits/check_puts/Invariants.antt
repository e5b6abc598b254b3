use Rattle.std.proofs.Common.{◌≡◌, drop}
use Rattle.std.specs.List.{flat_map}
use Rattle.distcp_plan.specs.Limits.{first_bad, put_texts}
use Rattle.distcp_plan.proofs.limits.check_puts.Given as goal

abbrev pub invariant-loop-put : goal.invariant-loop-put
invariant-loop-put l = first_bad (flat_map (put_texts l.root l.plan) (drop l.put-index l.put-items)) ≡ first_bad (flat_map (put_texts l.root l.plan) l.plan.puts)
