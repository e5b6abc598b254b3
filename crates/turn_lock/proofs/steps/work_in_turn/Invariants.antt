use Rattle.std.proofs.Common.{◌≡◌, []}
use Rattle.turn_lock.proofs.Again.{Waited}
use Rattle.turn_lock.proofs.steps.work_in_turn.Given as goal

abbrev pub invariant-loop : goal.invariant-loop
invariant-loop g l =
    (goal.iterator-loop g).can_next l.iterator' × (goal.iterator-loop g).is_finite l.iterator' × (l.place.table_id ≡ l.initial.place.table_id) × (l.place.me.1 ≡ []) × Waited l.initial.place.me.0 l.place.me.0 × (l.work ≡ l.initial.work)
