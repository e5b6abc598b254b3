use Rattle.std.proofs.Common.{sym, ap, subst, ◌∙◌}
use Rattle.dir_changes.specs.History.{without_record, children_at, marks_at, dropped_at, ids_of}
use Rattle.dir_changes.specs.Edits.{CountsCombined, LastCombined}
use Rattle.dir_changes.specs.Sound.{IsSound}
use Rattle.dir_changes.proofs.ReadLaws.{children_at-combined_below, children_at-combined_above, marks_at-combined_below, marks_at-combined_above}
use Rattle.dir_changes.proofs.CountLaws.{counts-combined}
use Rattle.dir_changes.proofs.MarkedLaws.{last_combined}
use Rattle.dir_changes.proofs.rows.DirRows.combine.Goals as goal

pub returns-clause-children_below : goal.returns-clause-children_below
returns-clause-children_below c s le =
    let sound = subst IsSound c.prepare_combine.ensures.same c.prepare_combine.ensures.sound in
    ap (children_at s) (c.combine_prepared.ensures.combined ∙ ap (without_record c.args.i) c.prepare_combine.ensures.same)
    ∙ children_at-combined_below c.args.self.now.history c.args.i s sound.in_order sound.undoable le

pub returns-clause-children_above : goal.returns-clause-children_above
returns-clause-children_above c s above =
    let sound = subst IsSound c.prepare_combine.ensures.same c.prepare_combine.ensures.sound in
    ap (children_at s) (c.combine_prepared.ensures.combined ∙ ap (without_record c.args.i) c.prepare_combine.ensures.same)
    ∙ children_at-combined_above c.args.self.now.history c.args.i s sound.in_order sound.undoable sound.rising above

pub returns-clause-marks_below : goal.returns-clause-marks_below
returns-clause-marks_below c s le =
    ap (marks_at s) (c.combine_prepared.ensures.combined ∙ ap (without_record c.args.i) c.prepare_combine.ensures.same) ∙ marks_at-combined_below c.args.self.now.history c.args.i s le

pub returns-clause-marks_above : goal.returns-clause-marks_above
returns-clause-marks_above c s above =
    ap (marks_at s) (c.combine_prepared.ensures.combined ∙ ap (without_record c.args.i) c.prepare_combine.ensures.same) ∙ marks_at-combined_above c.args.self.now.history c.args.i s above

pub returns-clause-last : goal.returns-clause-last
returns-clause-last c =
    subst (LastCombined c.args.i c.args.self.now.history) (sym (c.combine_prepared.ensures.combined ∙ ap (without_record c.args.i) c.prepare_combine.ensures.same)) (last_combined c.args.self.now.history c.args.i)

pub returns-clause-counts : goal.returns-clause-counts
returns-clause-counts c =
    let sound = subst IsSound c.prepare_combine.ensures.same c.prepare_combine.ensures.sound in
    let ids = c.combine_prepared.ensures.ids ∙ ap (λ dir. ids_of (dropped_at c.args.i dir.records)) c.prepare_combine.ensures.same in
    let now = c.combine_prepared.ensures.combined ∙ ap (without_record c.args.i) c.prepare_combine.ensures.same in
    subst (λ is. CountsCombined c.args.i is c.args.self.now.history c.combine_prepared.new.self.history) (sym ids)
    (subst (CountsCombined c.args.i (ids_of (dropped_at c.args.i c.args.self.now.history.records)) c.args.self.now.history) (sym now) (counts-combined c.args.self.now.history c.args.i sound c.requires))
