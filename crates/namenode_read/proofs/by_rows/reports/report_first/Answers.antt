use Rattle.inode_table.specs.Kept.{told}
use Rattle.namenode_read.proofs.FirstReports.{ends_err, first_ok}
use Rattle.namenode_read.proofs.by_rows.reports.report_first.Goals as goal

pub returns-in_err-cursor : goal.returns-in_err-cursor
returns-in_err-cursor c = λ state all tick.
    let table = told c.args.table.now in
    ends_err state c.args.path.now c.args.ends.0.now c.args.ends.1.now c.args.size c.from_residual-in_err-cursor.result c.in_ok-root.root c.in_err-cursor.field-0.0
    (c.in_ok-root.ensures state all) (c.in_err-cursor.ensures table state all) c.from_residual-in_err-cursor.ensures.1

pub returns : goal.returns
returns c = λ state all tick.
    let table = told c.args.table.now in
    first_ok state c.args.path.now c.args.ends.0.now c.args.ends.1.now c.args.size c.in_ok-lines_from.field-0 c.in_ok-root.root c.in_ok-cursor.cursor
    (c.in_ok-root.ensures state all) (c.in_ok-cursor.ensures table state all)
    (λ goes. c.in_ok-lines_from.ensures state all tick goes.root goes.from goes.to)
