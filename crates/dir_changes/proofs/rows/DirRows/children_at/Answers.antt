use Rattle.std.proofs.Common.{sym, ap, subst, ◌∙◌}
use Rattle.std.specs.Prelude.{IsTrue}
use Rattle.dir_changes.specs.History.{records_at, can_undo_all}
use Rattle.dir_changes.specs.Inside.{records_in}
use Rattle.dir_changes.proofs.TogetherLaws.{can_at}
use Rattle.dir_changes.proofs.rows.DirRows.children_at.Goals as goal

pub undo_all-requires : goal.undo_all-requires
undo_all-requires c =
    let s = c.args.s.0 in
    let are = c.records_at-records.ensures ∙ ap (records_at s) c.records_of.ensures in
    subst (λ l. IsTrue (can_undo_all l c.self.inside.children.entries)) (sym are) (can_at s (records_in c.self.inside.past) c.self.inside.children.entries c.self.invariant.sound.undoable)
