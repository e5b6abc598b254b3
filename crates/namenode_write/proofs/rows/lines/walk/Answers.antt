use Rattle.std.proofs.Common.{◌≡◌, ◌+◌, ◌-◌, ◌++◌, ℕ, ap, ◌∙◌, reverse, take, arith}
use Rattle.inode_table.specs.Kept.{told}
use Rattle.namenode_write.specs.RowLines.{walked}
use Rattle.namenode_write.proofs.RowLines.{walk-step, walk-last, walk-done}
use Rattle.namenode_write.proofs.rows.lines.walk.Goals as goal

pub loop-next-preserved : goal.loop-next-preserved
loop-next-preserved c =
    let rows = (told c.args.table.now).rows in
    let left = c.loop-next.left in
    let down : left - 1 + 1 ≡ left = omega (arith, c.if-left-eq0.false) in
    ap (λ (n : ℕ). c.visit_row.new.lines.items ++ walked rows n (reverse c.visit_row.new.stack.items)) down
    ∙ walk-step rows left c.loop-next.lines.items c.visit_row.new.lines.items c.loop-next.stack.items c.pop.new.self.items c.visit_row.new.stack.items c.in-Some.next c.in-Some.ensures.items c.in_ok-visit_row.ensures.stack c.in_ok-visit_row.ensures.lines
    ∙ c.loop-next.invariant

pub returns-then-left-eq0 : goal.returns-then-left-eq0
returns-then-left-eq0 c =
    let rows = (told c.args.table.now).rows in
    c.of.ensures
    ∙ walk-last rows c.loop-next.left c.loop-next.lines.items c.visit_row.new.lines.items c.loop-next.stack.items c.pop.new.self.items c.visit_row.new.stack.items c.in-Some.next c.in-Some.ensures.items c.in_ok-visit_row.ensures.stack c.in_ok-visit_row.ensures.lines c.if-left-eq0.true
    ∙ c.loop-next.invariant

pub returns : goal.returns
returns c =
    c.of-2.ensures ∙ walk-done (told c.args.table.now).rows c.loop-next.left c.loop-next.lines.items c.loop-next.stack.items c.pop.new.self.items c.in_default.ensures.items (c.in_default.ensures.rest ∙ ap (λ (k : ℕ). take (k - 1) c.loop-next.stack.items) c.in_default.ensures.cases.0) ∙ c.loop-next.invariant
