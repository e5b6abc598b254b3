use Rattle.std.proofs.Common.{◌≡◌, Bool, false, sym, ◌∙◌}
use Rattle.dir_changes.specs.Entries.{holds}
use Rattle.dir_changes.specs.History.{children_at}
use Rattle.inode_table.specs.Kept.{told}
use Rattle.change_report.specs.Found.{stands_at}
use Rattle.change_report.proofs.Ticks.{not-held, added}
use Rattle.change_report.proofs.listed.push_entry.Goals as goal

pub returns-in_err-entry_line-clause-ticks : goal.returns-in_err-entry_line-clause-ticks
returns-in_err-entry_line-clause-ticks c = λ h chains.
    let held : Bool = holds (children_at c.args.side.other.0 c.args.dir.now.history) c.args.child.now in
    let none : held ≡ false = not-held held (stands_at (told c.args.table.now.table) c.args.side.root c.args.side.other c.args.child.now.1) (sym c.in_ok-is_alone.ensures.alone ∙ c.if-branch.true) in
    added held c.args.table.now.ticks c.is_alone.new.table.ticks c.entry_line.new.table.ticks h none (c.is_alone.ensures.ticks h chains) c.entry_line.ensures.ticks

pub returns-in_err-push-clause-ticks : goal.returns-in_err-push-clause-ticks
returns-in_err-push-clause-ticks c = λ h chains.
    let held : Bool = holds (children_at c.args.side.other.0 c.args.dir.now.history) c.args.child.now in
    let none : held ≡ false = not-held held (stands_at (told c.args.table.now.table) c.args.side.root c.args.side.other c.args.child.now.1) (sym c.in_ok-is_alone.ensures.alone ∙ c.if-branch.true) in
    added held c.args.table.now.ticks c.is_alone.new.table.ticks c.entry_line.new.table.ticks h none (c.is_alone.ensures.ticks h chains) c.entry_line.ensures.ticks

pub returns-in_ok-push-clause-ticks : goal.returns-in_ok-push-clause-ticks
returns-in_ok-push-clause-ticks c = λ h chains.
    let held : Bool = holds (children_at c.args.side.other.0 c.args.dir.now.history) c.args.child.now in
    let none : held ≡ false = not-held held (stands_at (told c.args.table.now.table) c.args.side.root c.args.side.other c.args.child.now.1) (sym c.in_ok-is_alone.ensures.alone ∙ c.if-branch.true) in
    added held c.args.table.now.ticks c.is_alone.new.table.ticks c.entry_line.new.table.ticks h none (c.is_alone.ensures.ticks h chains) c.entry_line.ensures.ticks
