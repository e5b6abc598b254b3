use Rattle.std.proofs.Common.{◌≡◌, false, refl}
use Rattle.dir_changes.specs.Entries.{holds}
use Rattle.dir_changes.specs.History.{children_at}
use Rattle.change_report.proofs.Ticks.{walked, other-there}
use Rattle.change_report.proofs.listed.is_alone.Goals as goal

pub returns-in_err-stands_at-clause-ticks : goal.returns-in_err-stands_at-clause-ticks
returns-in_err-stands_at-clause-ticks c = λ h chains.
    let list = children_at c.args.side.other.0 c.args.dir.now.history in
    let none : holds list c.args.child.now ≡ false =
    other-there _ (λ a b. refl) c.eq.result c.child_at.result list c.child.inside.name c.child.inside.id c.args.child.now c.eq.ensures c.if-eq.false c.child_at.ensures c.child.view_is in
    walked (holds list c.args.child.now) c.args.table.now.ticks c.stands_at.new.table.ticks h none (c.stands_at.ensures.ticks h chains)

pub returns-clause-ticks : goal.returns-clause-ticks
returns-clause-ticks c = λ h chains.
    let list = children_at c.args.side.other.0 c.args.dir.now.history in
    let none : holds list c.args.child.now ≡ false =
    other-there _ (λ a b. refl) c.eq.result c.child_at.result list c.child.inside.name c.child.inside.id c.args.child.now c.eq.ensures c.if-eq.false c.child_at.ensures c.child.view_is in
    walked (holds list c.args.child.now) c.args.table.now.ticks c.stands_at.new.table.ticks h none (c.stands_at.ensures.ticks h chains)
