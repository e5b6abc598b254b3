use Rattle.std.proofs.Common.{◌≡◌}
use Rattle.record_trials.proofs.table_rows.run_steps.Given as goal

abbrev pub invariant-loop-step : goal.invariant-loop-step
invariant-loop-step l = l.table.greatest ≡ l.now
