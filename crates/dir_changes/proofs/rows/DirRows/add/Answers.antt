use Rattle.std.proofs.Common.{sym, ap, subst, ◌∙◌}
use Rattle.dir_changes.specs.History.{children_at, marks_at, last_number}
use Rattle.dir_changes.specs.Edits.{CountsAdded}
use Rattle.dir_changes.specs.Sound.{IsSound}
use Rattle.dir_changes.proofs.DirLaws.{sound-added, children_at-added, marks_at-added}
use Rattle.dir_changes.proofs.RowLaws.{last-added}
use Rattle.dir_changes.proofs.CountLaws.{counts-added}
use Rattle.dir_changes.proofs.rows.DirRows.add.Goals as goal

pub returns-clause-children_as_before : goal.returns-clause-children_as_before
returns-clause-children_as_before c s above le =
    ap (children_at s) c.in_ok-try_add.ensures.ok ∙ children_at-added c.args.name c.args.id c.args.self.now.history c.in_ok-try_add.ensures.before c.requires s above le

pub returns-clause-marks_as_before : goal.returns-clause-marks_as_before
returns-clause-marks_as_before c s = ap (marks_at s) c.in_ok-try_add.ensures.ok ∙ marks_at-added c.args.name c.args.id c.args.self.now.history s

pub returns-clause-sound : goal.returns-clause-sound
returns-clause-sound c = subst IsSound (sym c.in_ok-try_add.ensures.ok) (sound-added c.args.name c.args.id c.args.self.now.history c.in_ok-try_add.ensures.before c.requires)

pub returns-clause-last : goal.returns-clause-last
returns-clause-last c = ap last_number c.in_ok-try_add.ensures.ok ∙ last-added c.args.name c.args.id c.args.self.now.history

pub returns-clause-counts : goal.returns-clause-counts
returns-clause-counts c = subst (CountsAdded c.args.id c.args.self.now.history) (sym c.in_ok-try_add.ensures.ok) (counts-added c.args.self.now.history c.args.name c.args.id c.in_ok-try_add.ensures.before c.requires)

pub returns-in_err-try_add-clause-sound : goal.returns-in_err-try_add-clause-sound
returns-in_err-try_add-clause-sound c = subst IsSound (sym c.in_err-try_add.ensures.err) c.in_err-try_add.ensures.before

pub returns-in_err-try_add-clause-last : goal.returns-in_err-try_add-clause-last
returns-in_err-try_add-clause-last c = ap last_number c.in_err-try_add.ensures.err
