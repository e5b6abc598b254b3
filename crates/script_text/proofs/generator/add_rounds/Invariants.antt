use Rattle.std.proofs.Common.{◌≡◌, ◌<◌, ◌-◌, ◌++◌}
use Rattle.std.specs.List.{flat_map, range_with_len}
use Rattle.script_text.specs.Generator.{number_after, draws_before, moved_to, round}
use Rattle.script_text.proofs.generator.add_rounds.Given as goal

abbrev pub invariant-loop-number : goal.invariant-loop-number
invariant-loop-number l = record {
  commands : l.commands ≡ l.initial.commands ++ flat_map (round l.seed l.dirs l.files) (range_with_len 2 (l.number - 2));
  drawn : l.draws.number ≡ number_after l.seed (draws_before l.number);
  moved : 2 < l.number → l.moved ≡ moved_to l.seed l.dirs (l.number - 1);
}
