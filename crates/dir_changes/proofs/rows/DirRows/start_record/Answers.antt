use Rattle.std.proofs.Common.{ap, subst, ◌∙◌}
use Rattle.dir_changes.specs.History.{started, children_at, marks_at, last_number}
use Rattle.dir_changes.specs.Sound.{IsSound}
use Rattle.dir_changes.proofs.ReadLaws.{children_at-started, marks_at-started, children_at-past, marks_at-past}
use Rattle.dir_changes.proofs.RowLaws.{last-started}
use Rattle.dir_changes.proofs.rows.DirRows.start_record.Goals as goal

pub returns-clause-saved_children : goal.returns-clause-saved_children
returns-clause-saved_children c s above _ =
    let sound = subst IsSound c.prepare_start.ensures.same c.prepare_start.ensures.sound in
    ap (children_at s) (c.push_started.ensures.started ∙ ap (started c.args.number) c.prepare_start.ensures.same)
    ∙ children_at-started c.args.self.now.history c.args.number s ∙ children_at-past c.args.self.now.history s sound.rising above

pub returns-clause-saved_marks : goal.returns-clause-saved_marks
returns-clause-saved_marks c s above _ =
    let sound = subst IsSound c.prepare_start.ensures.same c.prepare_start.ensures.sound in
    ap (marks_at s) (c.push_started.ensures.started ∙ ap (started c.args.number) c.prepare_start.ensures.same)
    ∙ marks_at-started c.args.self.now.history c.args.number s ∙ marks_at-past c.args.self.now.history s sound.rising above

pub returns-clause-children_as_before : goal.returns-clause-children_as_before
returns-clause-children_as_before c s =
    ap (children_at s) (c.push_started.ensures.started ∙ ap (started c.args.number) c.prepare_start.ensures.same) ∙ children_at-started c.args.self.now.history c.args.number s

pub returns-clause-marks_as_before : goal.returns-clause-marks_as_before
returns-clause-marks_as_before c s =
    ap (marks_at s) (c.push_started.ensures.started ∙ ap (started c.args.number) c.prepare_start.ensures.same) ∙ marks_at-started c.args.self.now.history c.args.number s

pub returns-clause-last : goal.returns-clause-last
returns-clause-last c = ap last_number (c.push_started.ensures.started ∙ ap (started c.args.number) c.prepare_start.ensures.same) ∙ last-started c.args.self.now.history c.args.number
