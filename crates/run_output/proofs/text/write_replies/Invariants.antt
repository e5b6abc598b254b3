use Rattle.std.proofs.Common.{◌≡◌, ◌++◌, string_bytes, drop}
use Rattle.std.specs.List.{flat_map}
use Rattle.run_output.specs.TextParts.{ended}
use Rattle.run_output.specs.ReplyText.{answered_lines}
use Rattle.run_output.proofs.text.write_replies.Given as goal

-- what is written, and the text of the replies that are left, is all
abbrev pub invariant-loop-answered : goal.invariant-loop-answered
invariant-loop-answered l = string_bytes l.out ++ flat_map ended (flat_map (answered_lines l.line l.side) (drop l.answered-index l.list)) ≡ string_bytes l.initial.out ++ flat_map ended (flat_map (answered_lines l.line l.side) l.list)
