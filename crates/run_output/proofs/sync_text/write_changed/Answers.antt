use Rattle.std.proofs.Common.{◌≡◌, ◌++◌, ◌∷◌, List, [], ℕ, ap, ◌∙◌, append_assoc, string_bytes}
use Rattle.std.specs.Prelude.{codes}
use Rattle.distcp_sync.specs.declared.answer.SyncAnswer.TheVariants as answers
use Rattle.run_output.specs.TextParts.{ended}
use Rattle.run_output.specs.ReplyText.{line_text}
use Rattle.run_output.specs.SyncText.{answer_text}
use Rattle.run_output.proofs.Joined.{on_ok}
use Rattle.run_output.proofs.sync_text.write_changed.Goals as goal

pub returns : goal.returns
returns c = on_ok c.write_line_text.result (string_bytes c.write_line_text.new.out ≡ string_bytes c.push_str.new.self ++ ended (line_text c.args.line.now)) (string_bytes c.write_line_text.new.out ≡ string_bytes c.args.out.now ++ ended (answer_text (answers.TargetChanged c.args.line.now)))
    (λ written. written ∙ ap (λ (s : List ℕ). s ++ ended (line_text c.args.line.now)) c.in_ok-push_str.ensures.bytes ∙ append_assoc (string_bytes c.args.out.now) (codes "target changed ") (ended (line_text c.args.line.now)))
    c.write_line_text.ensures
