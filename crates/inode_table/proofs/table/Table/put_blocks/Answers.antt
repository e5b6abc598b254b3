use Rattle.std.proofs.Common.{◌-◌, ap, sym, ◌∙◌, arith}
use Rattle.inode_table.specs.Kept.{TableValue, told}
use Rattle.inode_table.specs.Lent.{with_blocks}
use Rattle.inode_table.specs.Numbered.{row_of}
use Rattle.inode_table.proofs.Lent.{relisted}
use Rattle.inode_table.proofs.Numbers.{found}
use Rattle.inode_table.proofs.table.Table.put_blocks.Goals as goal

pub overflow_sub-self : goal.overflow_sub-self
overflow_sub-self c =
    let e = c.swap_at-stood.ensures in
    let left = relisted c.self.inside.rows.items c.swap_at-stood.new.rows.items c.args.id c.args.blocks c.swap_at-stood.result e.set e.state e.given in
    omega (arith, left.count, c.len.ensures, c.len-count.ensures, c.self.invariant.blocks)

pub invariant_of-self : goal.invariant_of-self
invariant_of-self c =
    let e = c.swap_at-stood.ensures in
    let left = relisted c.self.inside.rows.items c.swap_at-stood.new.rows.items c.args.id c.args.blocks c.swap_at-stood.result e.set e.state e.given in
    let kept = c.self.invariant in
    record {
      counted = left.counted kept.counted;
      listed = left.listed c.self.inside.unnamed.items kept.listed;
      stack_room = omega (arith, kept.stack_room, left.named);
      blocks = omega (arith, kept.blocks, left.count, c.len.ensures, c.len-count.ensures);
      rising = kept.rising;
      some = omega (arith, kept.some, e.len);
      within = omega (arith, kept.within, left.weighs);
    }

pub returns-clause-whole : goal.returns-clause-whole
returns-clause-whole c =
    let e = c.swap_at-stood.ensures in
    let left = relisted c.self.inside.rows.items c.swap_at-stood.new.rows.items c.args.id c.args.blocks c.swap_at-stood.result e.set e.state e.given in
    (λ i. record { rows = left.told i; index = c.self.inside.index.items; greatest = e.len i - 1; waiting = c.self.inside.waiting.items })
    ∙ ap (λ (v : TableValue). with_blocks c.args.id c.args.blocks (told v)) c.self.view_is

pub returns-clause-there : goal.returns-clause-there
returns-clause-there c = λ other apart.
    let rows = c.self.inside.rows.items in
    let after = c.swap_at-stood.new.rows.items in
    let e = c.swap_at-stood.ensures in
    let left = relisted rows after c.args.id c.args.blocks c.swap_at-stood.result e.set e.state e.given in
    found other after ∙ left.there other apart ∙ sym (found other rows) ∙ ap (λ (v : TableValue). row_of v.rows other) c.self.view_is
