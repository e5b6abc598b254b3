use Rattle.std.proofs.Common.{sym, ◌∙◌}
use Rattle.inode_table.specs.Kept.{told}
use Rattle.paged_listing.proofs.Ends.{report_err, report_ok}
use Rattle.paged_listing.proofs.reports.report_next.Goals as goal

pub returns-in_err-goes_on : goal.returns-in_err-goes_on
returns-in_err-goes_on c = λ state all tick.
    report_err (told c.args.table.now) c.args.snaps.now state all c.always.ensures.proper c.args.tick tick c.args.cursor.now c.args.size c.from_residual.result
    c.in_err-goes_on.field-0.0 (sym c.goes_on.ensures ∙ c.in_err-goes_on.was) c.from_residual.ensures.1

pub returns : goal.returns
returns c = λ state all tick.
    report_ok (told c.args.table.now) c.args.snaps.now state all c.always.ensures.proper c.args.tick tick c.args.cursor.now c.args.size c.in_ok-lines_from.field-0
    (sym c.goes_on.ensures ∙ c.in_ok-goes_on.was)
    (λ goes. c.in_ok-lines_from.ensures state all tick goes.root goes.from goes.to)
