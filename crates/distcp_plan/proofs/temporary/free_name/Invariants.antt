use Rattle.std.proofs.Common.{◌≡◌, ◌-◌, ◌++◌, length}
use Rattle.hs_plain.specs.Plan.{first_free, tmp_for}
use Rattle.distcp_plan.proofs.temporary.free_name.Given as goal

abbrev pub invariant-loop-number : goal.invariant-loop-number
invariant-loop-number l = first_free (l.roots.target ++ l.roots.source) (length (l.roots.target ++ l.roots.source) - l.number) l.number ≡ tmp_for l.roots
