use Rattle.std.proofs.Common.{◌≡◌, ◌+◌, ◌≤◌, rules, ◌++◌, Some, None, sym, ap, ◌∙◌, subst, append-nil}
use Rattle.std.specs.Prelude.{OnOk}
use Rattle.std.specs.Option.{option_copied, option_map}
use Rattle.inode_table.specs.Kept.{told}
use Rattle.report_laws.specs.Costs.{entries_apart}
use Rattle.inode_table.specs.Numbered.{history_of}
use Rattle.inode_table.specs.RowHistory.{RowHistory, rows_at}
use Rattle.change_report.specs.Found.{lines_by, both_paths}
use Rattle.change_report.specs.Looked.{sides_apart, where_both}
use Rattle.change_report.proofs.Ticks.{apart-so, a-row-more}
use Rattle.change_report.proofs.Told.{looked-at}
use Rattle.change_report.proofs.moved.push_row.Goals as goal

pub returns-in-None-clause-lines : goal.returns-in-None-clause-lines
returns-in-None-clause-lines c =
    let table = told c.args.table.now.table in
    let none : rows_at table.rows c.args.id ≡ None = sym (looked-at c.args.table.now.table c.args.id c.row.result c.row.ensures.row) ∙ ap (λ o. option_map (λ row. history_of row.rows) (option_copied o)) c.in-None.is in
    sym (ap (λ o. c.args.lines.now.items ++ lines_by table c.args.ends c.args.id o) none ∙ append-nil c.args.lines.now.items)

pub returns-in-Some-clause-lines : goal.returns-in-Some-clause-lines
returns-in-Some-clause-lines c =
    let table = told c.args.table.now.table in
    let some : rows_at table.rows c.args.id ≡ Some (history_of c.in-Some.row.now.rows) =
    sym (looked-at c.args.table.now.table c.args.id c.row.result c.row.ensures.row) ∙ ap (λ o. option_map (λ row. history_of row.rows) (option_copied o)) c.in-Some.is in
    subst (λ o. OnOk c.push_between.result (c.push_between.new.lines.items ≡ c.args.lines.now.items ++ lines_by table c.args.ends c.args.id o)) (sym some) (rw c.row.ensures.table at c.push_between.ensures.lines)

pub returns-in-Some-clause-ticks : goal.returns-in-Some-clause-ticks
returns-in-Some-clause-ticks c = λ h within.
    let table = told c.args.table.now.table in
    let rows : RowHistory = history_of c.in-Some.row.now.rows in
    let some : rows_at table.rows c.args.id ≡ Some rows =
    sym (looked-at c.args.table.now.table c.args.id c.row.result c.row.ensures.row) ∙ ap (λ o. option_map (λ row. history_of row.rows) (option_copied o)) c.in-Some.is in
    let one : c.row.new.self.ticks ≤ c.args.table.now.ticks + 1 = search rules in
    a-row-more h (where_both (both_paths table c.args.ends c.args.id) (sides_apart c.args.ends rows)) (entries_apart table c.args.ends.root c.args.ends.from c.args.ends.to c.args.id)
    c.args.table.now.ticks c.row.new.self.ticks c.push_between.new.table.ticks (apart-so table c.args.ends c.args.id rows some) one
    ((rw c.row.ensures.table at c.push_between.ensures.ticks) h within)
