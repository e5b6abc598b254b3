use Rattle.std.proofs.Common.{◌≡◌}
use Rattle.turn_trials.proofs.turns.write_all.Given as goal

abbrev pub invariant-loop-seq : goal.invariant-loop-seq
invariant-loop-seq g l = (l.seat.lock ≡ l.lock) × (l.seat.caller ≡ l.caller)
