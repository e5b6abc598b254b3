use Rattle.std.proofs.Common.{◌≡◌, ◌++◌, map, drop}
use Rattle.std.specs.List.{flat_map}
use Rattle.run_output.specs.Summary.{is_done, sync_answer}
use Rattle.run_output.proofs.summary.answers_of.Given as goal

-- what was found, and what the logs that are left have, is all
abbrev pub invariant-loop-log : goal.invariant-loop-log
invariant-loop-log l = l.answers.items ++ map is_done (flat_map (λ log. flat_map (λ item. sync_answer item.what) log.items) (drop l.log-index l.logs)) ≡ map is_done (flat_map (λ log. flat_map (λ item. sync_answer item.what) log.items) l.logs)
