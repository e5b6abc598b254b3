use Rattle.std.proofs.Common.{◌≡◌, ◌++◌, ◌∷◌, List, [], ℕ, ap, ◌∙◌, append_assoc, string_bytes}
use Rattle.std.specs.Prelude.{codes}
use Rattle.distcp_sync.specs.declared.answer.SyncAnswer.TheVariants as answers
use Rattle.run_output.specs.TextParts.{ended, escaped, spaced}
use Rattle.run_output.specs.ReplyText.{side_word}
use Rattle.run_output.specs.SyncText.{answer_text}
use Rattle.run_output.proofs.Joined.{on_ok}
use Rattle.run_output.proofs.sync_text.write_no_snapshot.Goals as goal

pub returns : goal.returns
returns c = on_ok c.write_path_call.result (string_bytes c.write_path_call.new.out ≡ string_bytes c.push_str.new.self ++ ended (spaced (c.side_word.result.now ∷ escaped c.args.name.now ∷ []))) (string_bytes c.write_path_call.new.out ≡ string_bytes c.args.out.now ++ ended (answer_text (answers.NoSnapshot c.args.side c.args.name.now)))
    (λ written. written ∙ ap (λ (s : List ℕ). s ++ ended (spaced (c.side_word.result.now ∷ escaped c.args.name.now ∷ []))) c.in_ok-push_str.ensures.bytes
    ∙ append_assoc (string_bytes c.args.out.now) (codes "no snapshot ") (ended (spaced (c.side_word.result.now ∷ escaped c.args.name.now ∷ [])))
    ∙ ap (λ (word : List ℕ). string_bytes c.args.out.now ++ (codes "no snapshot " ++ ended (spaced (word ∷ escaped c.args.name.now ∷ [])))) c.side_word.ensures)
    c.write_path_call.ensures
