use Rattle.std.proofs.Common.{◌+◌, length, sym, ap, subst}
use Rattle.dir_changes.specs.History.{DirHistory, children_at}
use Rattle.inode_table.specs.Kept.{TableValue, told}
use Rattle.inode_table.specs.Numbered.{history_of}
use Rattle.inode_table.specs.RowHistory.{shown}
use Rattle.report_laws.specs.Chains.{HasChainsWithin}
use Rattle.report_laws.specs.Listed.{only_in}
use Rattle.change_report.specs.Looked.{sides_apart}
use Rattle.change_report.proofs.Ticks.{one-side, both-sides}
use Rattle.change_report.proofs.moved.push_lists.Goals as goal

pub returns-in_err-push_side-in-Dir-clause-ticks : goal.returns-in_err-push_side-in-Dir-clause-ticks
returns-in_err-push_side-in-Dir-clause-ticks c = λ h within.
    let dir : DirHistory = c.in-Dir.dir.history in
    let from = children_at c.args.ends.from.0 dir in let to = children_at c.args.ends.to.0 dir in
    one-side (sides_apart c.args.ends (history_of c.args.row.now.rows)) (length (only_in from to)) (length (only_in to from)) (1 + (1 + h)) c.args.table.now.ticks c.push_side.new.table.ticks
    (ap (λ r. sides_apart c.args.ends (history_of r)) c.in-Dir.is) ((rw c.gone.ensures at c.push_side.ensures.ticks) h within.to)

pub returns-in_ok-push_side-in-Dir-clause-ticks : goal.returns-in_ok-push_side-in-Dir-clause-ticks
returns-in_ok-push_side-in-Dir-clause-ticks c = λ h within.
    let dir : DirHistory = c.in-Dir.dir.history in
    let from = children_at c.args.ends.from.0 dir in let to = children_at c.args.ends.to.0 dir in
    both-sides (sides_apart c.args.ends (history_of c.args.row.now.rows)) (length (only_in from to)) (length (only_in to from)) (1 + (1 + h)) c.args.table.now.ticks c.push_side.new.table.ticks c.push_side-in-Dir.new.table.ticks
    (ap (λ r. sides_apart c.args.ends (history_of r)) c.in-Dir.is) ((rw c.gone.ensures at c.push_side.ensures.ticks) h within.to)
    ((rw c.new.ensures at c.push_side-in-Dir.ensures.ticks) h (subst (λ (t : TableValue). HasChainsWithin (shown (told t).rows c.args.ends.from.0) h) (sym c.push_side.ensures.table) within.from))
