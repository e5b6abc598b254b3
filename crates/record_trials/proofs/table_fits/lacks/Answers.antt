use Rattle.std.proofs.Common.{not, sym, ap, subst, ◌∙◌}
use Rattle.std.specs.Prelude.{IsTrue, ◌==◌}
use Rattle.std.specs.List.{list_all}
use Rattle.dir_changes.specs.Entries.{Entries, id_at}
use Rattle.inode_table.specs.Numbered.{history_of}
use Rattle.inode_table.specs.RowHistory.{entries_in}
use Rattle.record_trials.proofs.Absent.{not_found}
use Rattle.record_trials.proofs.table_fits.lacks.Goals as goal

pub returns-in-Dir : goal.returns-in-Dir
returns-in-Dir c = λ all name found.
    let id = c.args.id in
    let children = c.in-Dir.dir.history.children in
    let told = c.lacks_child.ensures ∙ ap (λ (es : Entries). list_all (λ e. not (e.1.0 == id.0)) es) (c.items.ensures.items ∙ c.current.ensures) in
    not_found id children name (subst IsTrue told all) (sym (ap (λ r. id_at name (entries_in 0 (history_of r))) c.in-Dir.is) ∙ found)
