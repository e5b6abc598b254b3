use Rattle.std.proofs.Common.{sym, subst, arith}
use Rattle.inode_table.specs.Kept.{TableValue, told}
use Rattle.inode_table.specs.RowHistory.{shown}
use Rattle.report_laws.specs.Chains.{HasChainsWithin}
use Rattle.change_report.proofs.Ticks.{two-walks}
use Rattle.change_report.proofs.moved.both_paths.Goals as goal

pub returns-in_err-old-clause-ticks : goal.returns-in_err-old-clause-ticks
returns-in_err-old-clause-ticks c = λ h within. let one = c.path_down.ensures.ticks h within.from in omega (arith, one)

pub returns-in_err-new-clause-ticks : goal.returns-in_err-new-clause-ticks
returns-in_err-new-clause-ticks c = λ h within. two-walks h c.args.table.now.ticks c.path_down.new.table.ticks c.path_down-2.new.table.ticks (c.path_down.ensures.ticks h within.from)
    (c.path_down-2.ensures.ticks h (subst (λ (t : TableValue). HasChainsWithin (shown (told t).rows c.args.ends.to.0) h) (sym c.path_down.ensures.table) within.to))
