use Rattle.std.proofs.Common.{◌≡◌, ◌||◌, drop}
use Rattle.std.specs.Ordering.{nat_cmp}
use Rattle.std.specs.BTreeSet.{contains}
use Rattle.hs_types.specs.declared.ids.InodeId.{InodeId}
use Rattle.distcp_plan.specs.Planned.{renames}
use Rattle.distcp_plan.proofs.moves.ids_of.Given as goal

abbrev pub invariant-loop-line : goal.invariant-loop-line
invariant-loop-line l = (id : InodeId) → (contains nat_cmp l.ids id.0 || renames (drop l.line-index l.lines) id) ≡ renames l.lines id
