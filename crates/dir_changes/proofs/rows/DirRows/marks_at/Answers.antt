use Rattle.std.proofs.Common.{◌≡◌, Some, None, sym, ap, ◌∙◌}
use Rattle.std.specs.Prelude.{slice_get}
use Rattle.std.specs.Option.{option_map}
use Rattle.change_history.proofs.Readings.{saved_at-first, saved_at-none}
use Rattle.dir_changes.specs.History.{number_of, marks_saved, records_at}
use Rattle.dir_changes.specs.Recorded.{past_of}
use Rattle.dir_changes.proofs.SearchLaws.{first_past}
use Rattle.dir_changes.proofs.rows.DirRows.marks_at.Goals as goal

-- the first of the records that tell the snapshot has its marks
pub returns-in-Some : goal.returns-in-Some
returns-in-Some c =
    let s = c.args.s.0 in
    let dir = c.args.self.now.history in
    let are = c.records_at-records.ensures ∙ ap (records_at s) c.records_of.ensures ∙ ap (λ v. records_at s v.history.records) c.self.view_is in
    let told : slice_get (records_at s dir.records) 0 ≡ Some (past_of c.in-Some.saved.now) =
    ap (λ l. slice_get l 0) (sym are) ∙ first_past c.records_at-records.result.now ∙ ap (option_map past_of) (sym c.in-Some.ensures.value) in
    c.marks.ensures ∙ sym (saved_at-first number_of marks_saved s dir.records dir.marks (past_of c.in-Some.saved.now) told)

-- where none tells it the current marks do
pub returns-in-None : goal.returns-in-None
returns-in-None c =
    let s = c.args.s.0 in
    let dir = c.args.self.now.history in
    let are = c.records_at-records.ensures ∙ ap (records_at s) c.records_of.ensures ∙ ap (λ v. records_at s v.history.records) c.self.view_is in
    let told : slice_get (records_at s dir.records) 0 ≡ None =
    ap (λ l. slice_get l 0) (sym are) ∙ first_past c.records_at-records.result.now ∙ ap (option_map past_of) (sym c.in-None.ensures.value) in
    c.current_marks.ensures ∙ sym (saved_at-none number_of marks_saved s dir.records dir.marks told)
