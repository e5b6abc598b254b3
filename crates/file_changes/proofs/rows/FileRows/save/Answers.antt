use Rattle.std.proofs.Common.{ap, subst, ◌∙◌, length-append}
use Rattle.std.specs.Prelude.{IsTrue, length}
use Rattle.change_history.proofs.Numbers.{last_from-append, rising-append}
use Rattle.file_changes.specs.History.{number_of, saved, state_at, last_number, rising}
use Rattle.file_changes.proofs.Reading.{state_at-saved, state_at-saved_there}
use Rattle.file_changes.proofs.rows.FileRows.save.Goals as goal

pub returns-clause-last : goal.returns-clause-last
returns-clause-last c =
    ap last_number (c.push_saved.ensures.saved ∙ ap (saved c.args.number) c.prepare.ensures.same) ∙ last_from-append number_of 0 c.args.self.now.history.records (record { number = c.args.number; state = c.args.self.now.history.current })

pub returns-clause-records : goal.returns-clause-records
returns-clause-records c =
    ap (λ file. length file.records) (c.push_saved.ensures.saved ∙ ap (saved c.args.number) c.prepare.ensures.same)
    ∙ length-append c.args.self.now.history.records _

pub returns-clause-rising : goal.returns-clause-rising
returns-clause-rising c =
    let rise = subst (λ file. IsTrue (rising 0 file.records)) c.prepare.ensures.same c.push_saved.ensures.rising in
    rw (c.push_saved.ensures.saved, c.prepare.ensures.same) (rising-append number_of 0 c.args.self.now.history.records _ rise c.requires)

pub returns-clause-saved_there : goal.returns-clause-saved_there
returns-clause-saved_there c s above _ =
    let rise = subst (λ file. IsTrue (rising 0 file.records)) c.prepare.ensures.same c.push_saved.ensures.rising in
    ap (state_at s) (c.push_saved.ensures.saved ∙ ap (saved c.args.number) c.prepare.ensures.same) ∙ state_at-saved_there c.args.self.now.history c.args.number s rise above

pub returns-clause-reads_as_before : goal.returns-clause-reads_as_before
returns-clause-reads_as_before c s =
    ap (state_at s) (c.push_saved.ensures.saved ∙ ap (saved c.args.number) c.prepare.ensures.same) ∙ state_at-saved c.args.self.now.history c.args.number s
