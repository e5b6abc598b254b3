use Rattle.std.proofs.Common.{sym, ap, subst, ◌∙◌}
use Rattle.dir_changes.specs.Entries.{id_at}
use Rattle.dir_changes.specs.History.{children_at, marks_at, last_number}
use Rattle.dir_changes.specs.Edits.{RemovedCounts}
use Rattle.dir_changes.specs.Sound.{IsSound}
use Rattle.dir_changes.proofs.DirLaws.{marks_at-removed_as}
use Rattle.dir_changes.proofs.RowLaws.{last-removed, sound-after_removed, children_at-removed, counts-after_removed}
use Rattle.dir_changes.proofs.rows.DirRows.remove.Goals as goal

pub returns-clause-children_as_before : goal.returns-clause-children_as_before
returns-clause-children_as_before c s above le =
    ap (children_at s) c.in_ok-id.ensures.ok ∙ children_at-removed c.args.name.now c.args.self.now.history c.in_ok-id.ensures.before s above le

pub returns-clause-marks_as_before : goal.returns-clause-marks_as_before
returns-clause-marks_as_before c s =
    ap (marks_at s) c.in_ok-id.ensures.ok ∙ marks_at-removed_as c.args.name.now (id_at c.args.name.now c.args.self.now.history.children) c.args.self.now.history s

pub returns-clause-sound : goal.returns-clause-sound
returns-clause-sound c = subst IsSound (sym c.in_ok-id.ensures.ok) (sound-after_removed c.args.name.now c.args.self.now.history c.in_ok-id.ensures.before)

pub returns-clause-last : goal.returns-clause-last
returns-clause-last c = ap last_number c.in_ok-id.ensures.ok ∙ last-removed c.args.name.now c.args.self.now.history

pub returns-clause-counts : goal.returns-clause-counts
returns-clause-counts c = subst (RemovedCounts c.args.name.now c.args.self.now.history) (sym c.in_ok-id.ensures.ok) (counts-after_removed c.args.name.now c.args.self.now.history c.in_ok-id.ensures.before)

pub returns-in_err-id-clause-sound : goal.returns-in_err-id-clause-sound
returns-in_err-id-clause-sound c = subst IsSound (sym c.in_err-id.ensures.err) c.in_err-id.ensures.before

pub returns-in_err-id-clause-last : goal.returns-in_err-id-clause-last
returns-in_err-id-clause-last c = ap last_number c.in_err-id.ensures.err
