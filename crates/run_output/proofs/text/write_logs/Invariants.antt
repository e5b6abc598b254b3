use Rattle.std.proofs.Common.{◌≡◌, ◌++◌, string_bytes, drop}
use Rattle.std.specs.List.{flat_map}
use Rattle.run_output.specs.TextParts.{ended}
use Rattle.run_output.specs.Text.{log_lines}
use Rattle.run_output.proofs.text.write_logs.Given as goal

-- what is written, and the text of the logs that are left, is all
abbrev pub invariant-loop-log : goal.invariant-loop-log
invariant-loop-log l = string_bytes l.out ++ flat_map ended (flat_map log_lines (drop l.log-index l.logs)) ≡ string_bytes l.initial.out ++ flat_map ended (flat_map log_lines l.logs)
