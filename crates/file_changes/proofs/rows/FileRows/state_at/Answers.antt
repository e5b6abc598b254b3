use Rattle.std.proofs.Common.{sym, ap, ◌∙◌}
use Rattle.std.specs.Prelude.{slice_get}
use Rattle.change_history.proofs.Readings.{saved_at-first, saved_at-none}
use Rattle.change_history.specs.History as history
use Rattle.file_changes.specs.History.{number_of, state_of, state_at}
use Rattle.file_changes.specs.Inside.{records_in}
use Rattle.file_changes.proofs.rows.FileRows.state_at.Goals as goal

-- the first of the records that tell the snapshot has saved its state
pub returns-in-Some : goal.returns-in-Some
returns-in-Some c =
    let s = c.args.s.0 in
    let rs = records_in c.self.inside.past in
    let are = c.records_at.ensures ∙ ap (history.records_at number_of s) c.records_of.ensures in
    sym (saved_at-first number_of state_of s rs c.self.inside.current c.in-Some.saved.now (ap (λ l. slice_get l 0) (sym are) ∙ sym c.in-Some.ensures.value))
    ∙ ap (λ v. state_at s v.history) c.self.view_is

-- where none tells it the current state does
pub returns-in-None : goal.returns-in-None
returns-in-None c =
    let s = c.args.s.0 in
    let rs = records_in c.self.inside.past in
    let are = c.records_at.ensures ∙ ap (history.records_at number_of s) c.records_of.ensures in
    sym (saved_at-none number_of state_of s rs c.self.inside.current (ap (λ l. slice_get l 0) (sym are) ∙ sym c.in-None.ensures.value))
    ∙ ap (λ v. state_at s v.history) c.self.view_is
