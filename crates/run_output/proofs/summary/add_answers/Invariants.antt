use Rattle.std.proofs.Common.{◌≡◌, ◌++◌, map, drop}
use Rattle.std.specs.List.{flat_map}
use Rattle.run_output.specs.Summary.{is_done, sync_answer}
use Rattle.run_output.proofs.summary.add_answers.Given as goal

-- what was found, and what the items that are left have, is all
abbrev pub invariant-loop-item : goal.invariant-loop-item
invariant-loop-item l = l.answers.items ++ map is_done (flat_map (λ item. sync_answer item.what) (drop l.item-index l.items)) ≡ l.initial.answers.items ++ map is_done (flat_map (λ item. sync_answer item.what) l.items)
