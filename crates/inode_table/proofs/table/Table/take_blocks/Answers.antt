use Rattle.std.proofs.Common.{◌+◌, ◌-◌, vec_len, vec_capacity, [], length, ap, sym, subst, ◌∙◌, arith}
use Rattle.std.specs.Option.{option_map}
use Rattle.inode_table.specs.Inside.{table_value}
use Rattle.inode_table.specs.Kept.{TableValue, TableRoom, told}
use Rattle.inode_table.specs.Lent.{current_blocks, given_for, with_blocks, LendsRoom}
use Rattle.inode_table.specs.Numbered.{row_of, at_place, state_of}
use Rattle.inode_table.specs.RowHistory.{row_at, rows_at}
use Rattle.inode_table.specs.Slots.{table_in}
use Rattle.inode_table.proofs.Lent.{relisted, given-current, lends-room}
use Rattle.inode_table.proofs.Numbers.{found}
use Rattle.inode_table.proofs.Placing.{slot-told}
use Rattle.inode_table.proofs.table.Table.take_blocks.Goals as goal

pub overflow_sub-self : goal.overflow_sub-self
overflow_sub-self c =
    let e = c.swap_at-taken.ensures in
    let left = relisted c.self.inside.rows.items c.swap_at-taken.new.rows.items c.args.id c.new.result c.swap_at-taken.result e.set e.state e.given in
    let none = ap length c.new.ensures in
    omega (arith, left.count, none, c.len.ensures, c.self.invariant.blocks)

pub invariant_of-self : goal.invariant_of-self
invariant_of-self c =
    let e = c.swap_at-taken.ensures in
    let left = relisted c.self.inside.rows.items c.swap_at-taken.new.rows.items c.args.id c.new.result c.swap_at-taken.result e.set e.state e.given in
    let kept = c.self.invariant in
    let none = ap length c.new.ensures in
    record {
      counted = left.counted kept.counted;
      listed = left.listed c.self.inside.unnamed.items kept.listed;
      stack_room = omega (arith, kept.stack_room, left.named);
      blocks = omega (arith, kept.blocks, left.count, none, c.len.ensures);
      rising = kept.rising;
      some = omega (arith, kept.some, e.len);
      within = omega (arith, kept.within, left.weighs);
    }

pub returns-clause-blocks : goal.returns-clause-blocks
returns-clause-blocks c =
    let rows = c.self.inside.rows.items in
    c.swap_at-taken.ensures.given ∙ ap (λ bs. given_for bs (option_map state_of (at_place rows c.args.id))) c.new.ensures ∙ ap (given_for []) (sym (slot-told rows c.args.id)) ∙ given-current (row_at (table_in rows) c.args.id)
    ∙ ap (λ (v : TableValue). current_blocks (rows_at (told v).rows c.args.id)) c.self.view_is

pub returns-clause-whole : goal.returns-clause-whole
returns-clause-whole c =
    let e = c.swap_at-taken.ensures in
    let left = relisted c.self.inside.rows.items c.swap_at-taken.new.rows.items c.args.id c.new.result c.swap_at-taken.result e.set e.state e.given in
    (λ i. record { rows = left.told i; index = c.self.inside.index.items; greatest = e.len i - 1; waiting = c.self.inside.waiting.items })
    ∙ ap (λ bs. with_blocks c.args.id bs (told (table_value c.self.inside))) c.new.ensures
    ∙ ap (λ (v : TableValue). with_blocks c.args.id [] (told v)) c.self.view_is

pub returns-clause-there : goal.returns-clause-there
returns-clause-there c = λ other apart.
    let rows = c.self.inside.rows.items in
    let after = c.swap_at-taken.new.rows.items in
    let e = c.swap_at-taken.ensures in
    let left = relisted rows after c.args.id c.new.result c.swap_at-taken.result e.set e.state e.given in
    found other after ∙ left.there other apart ∙ sym (found other rows) ∙ ap (λ (v : TableValue). row_of v.rows other) c.self.view_is

pub returns-clause-room : goal.returns-clause-room
returns-clause-room c =
    let e = c.swap_at-taken.ensures in
    let left = relisted c.self.inside.rows.items c.swap_at-taken.new.rows.items c.args.id c.new.result c.swap_at-taken.result e.set e.state e.given in
    let now : TableRoom = record {
      slots = vec_capacity c.swap_at-taken.new.rows - vec_len c.swap_at-taken.new.rows;
      index = vec_capacity c.self.inside.index - vec_len c.self.inside.index;
      stack = vec_capacity c.self.inside.unnamed - (vec_len c.self.inside.unnamed + vec_len c.swap_at-taken.new.rows);
      blocks = vec_capacity c.self.inside.waiting + 1 - (vec_len c.self.inside.waiting + (c.self.inside.blocks - c.len.result));
    } in
    subst (λ n. LendsRoom n c.args.self.now.room now) c.len.ensures
    (subst (λ (v : TableValue). LendsRoom c.len.result v.room now) c.self.view_is
    (lends-room _ _ _ _ _ _ _ _ _ c.self.inside.blocks c.len.result e.len e.capacity (let none = ap length c.new.ensures in omega (arith, left.count, none, c.len.ensures, c.self.invariant.blocks))))
