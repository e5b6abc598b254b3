use Rattle.std.proofs.Common.{◌≡◌}
use Rattle.std.specs.Arc.{arc_value}
use Rattle.turn_lock.proofs.steps.work_soon.Given as goal

abbrev pub invariant-loop-tried : goal.invariant-loop-tried
invariant-loop-tried g l = (arc_value l.value ≡ arc_value l.initial.value) × (l.work ≡ l.initial.work)
