use Rattle.std.proofs.Common.{◌≡◌, ◌++◌, ◌∷◌, List, [], ℕ, length, ap, ◌∙◌, string_bytes}
use Rattle.std.specs.Prelude.{codes}
use Rattle.std.specs.List.{count_by}
use Rattle.std.specs.Fmt.{decimal}
use Rattle.run_output.specs.TextParts.{ended, spaced}
use Rattle.run_output.specs.Summary.{is_done, side_summary, sync_answers}
use Rattle.run_output.proofs.Joined.{four}
use Rattle.run_output.proofs.summary.summary_of.Goals as goal

pub returns : goal.returns
returns c =
    c.of.ensures ∙ ap (λ v. v.items) c.into_bytes.ensures.value
    ∙ four (string_bytes c.new-out.result) (string_bytes c.write_seed.new.out) (string_bytes c.write_source.new.out) (string_bytes c.write_target.new.out) (string_bytes c.write_syncs.new.out)
    (ended (spaced (codes "gen seed" ∷ decimal c.args.seed ∷ [])))
    (ended (side_summary (codes "source") c.args.ran.now.source c.args.ran.now.source_end))
    (ended (side_summary (codes "target") c.args.ran.now.target c.args.ran.now.target_end))
    (ended (spaced (codes "syncs" ∷ decimal (length (sync_answers c.args.ran.now)) ∷ codes "done" ∷ decimal (count_by is_done (sync_answers c.args.ran.now)) ∷ [])))
    c.new-out.ensures.bytes c.in_ok-write_seed.ensures c.in_ok-write_source.ensures c.in_ok-write_target.ensures c.in_ok-write_syncs.ensures
