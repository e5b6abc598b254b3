use Rattle.std.proofs.Common.{◌≡◌}
use Rattle.turn_trials.proofs.turns.look_often.Given as goal

abbrev pub invariant-loop : goal.invariant-loop
invariant-loop g l = (l.seat.lock ≡ l.lock) × (l.seat.caller ≡ l.initial.seat.caller)
