use Rattle.std.proofs.Common.{◌≡◌, ◌||◌, ℕ, drop}
use Rattle.std.specs.Ordering.{nat_cmp}
use Rattle.std.specs.Cmp.Lexicographic.{slice_cmp}
use Rattle.std.specs.BTreeSet.{contains}
use Rattle.hs_plain.specs.Plan.{tmp_name, has_name}
use Rattle.distcp_plan.proofs.temporary.note_names.Given as goal

abbrev pub invariant-loop-name : goal.invariant-loop-name
invariant-loop-name l = (number : ℕ) → (contains (slice_cmp nat_cmp) l.taken (tmp_name number) || has_name (drop l.name-index l.names) (tmp_name number)) ≡ (contains (slice_cmp nat_cmp) l.initial.taken (tmp_name number) || has_name l.names (tmp_name number))
