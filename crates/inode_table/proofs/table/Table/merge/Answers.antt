use Rattle.std.proofs.Common.{◌≡◌, ◌+◌, ◌-◌, ◌++◌, List, Option, length, ap, sym, subst, ◌∙◌, length-append, vec_len, vec_capacity, arith}
use Rattle.hs_types.specs.declared.ids.InodeId.{InodeId}
use Rattle.inode_table.specs.declared.row.Row.{Row}
use Rattle.inode_table.specs.Numbered.{numbered, row_of, at_place}
use Rattle.inode_table.specs.Kept.{TableRoom, TableValue, told, rows_in}
use Rattle.inode_table.specs.Totals.{blocks_named, weight}
use Rattle.inode_table.specs.Slots.{Slots, table_in, AreCounted, AreListed}
use Rattle.inode_table.specs.Lessened.{lessen_all, ended}
use Rattle.inode_table.specs.Merged.{merged, ids_dropped_at, LeavesRow, LeavesRoom}
use Rattle.inode_table.specs.Dropping.{HasRecord}
use Rattle.inode_table.proofs.Numbers.{found}
use Rattle.inode_table.proofs.Lessening.{counted-all-less, listed-all-less, blocks-all-less, weight-all-less, length-all-less}
use Rattle.inode_table.proofs.Taking.{leaves, leaves-row, rows-all-less, ended-few, merged-told}
use Rattle.inode_table.proofs.table.Table.merge.Goals as goal

pub drop_record-dropped-requires : goal.drop_record-dropped-requires
drop_record-dropped-requires c =
    let rows = c.self.inside.rows.items in
    let at = sym (found c.args.id rows) ∙ ap (λ (v : TableValue). row_of v.rows c.args.id) c.self.view_is ∙ c.requires.there in
    subst (HasRecord c.args.i) (sym at) (c.requires.has, c.requires.prepared)

pub name_all_less-requires : goal.name_all_less-requires
name_all_less-requires c =
    let rows = c.self.inside.rows.items in
    let at = sym (found c.args.id rows) ∙ ap (λ (v : TableValue). row_of v.rows c.args.id) c.self.view_is ∙ c.requires.there in
    let l = leaves rows c.drop_record-dropped.new.rows.items c.args.id c.args.i c.requires.row c.drop_record-dropped.result at c.drop_record-dropped.ensures.dropped c.drop_record-dropped.ensures.rows in
    omega (arith, l.named, c.self.invariant.stack_room)

pub wait-requires : goal.wait-requires
wait-requires c =
    let rows = c.self.inside.rows.items in
    let at = sym (found c.args.id rows) ∙ ap (λ (v : TableValue). row_of v.rows c.args.id) c.self.view_is ∙ c.requires.there in
    let l = leaves rows c.drop_record-dropped.new.rows.items c.args.id c.args.i c.requires.row c.drop_record-dropped.result at c.drop_record-dropped.ensures.dropped c.drop_record-dropped.ensures.rows in
    let room = ap (λ (v : TableValue). v.room.blocks) c.self.view_is in
    let are = ap length c.items-2.ensures in
    omega (arith, l.few, l.blocks, room, are, c.requires.room, c.self.invariant.blocks)

pub overflow_sub-self : goal.overflow_sub-self
overflow_sub-self c =
    let rows = c.self.inside.rows.items in
    let at = sym (found c.args.id rows) ∙ ap (λ (v : TableValue). row_of v.rows c.args.id) c.self.view_is ∙ c.requires.there in
    let l = leaves rows c.drop_record-dropped.new.rows.items c.args.id c.args.i c.requires.row c.drop_record-dropped.result at c.drop_record-dropped.ensures.dropped c.drop_record-dropped.ensures.rows in
    omega (arith, l.blocks, c.self.invariant.blocks)

pub invariant_of-self : goal.invariant_of-self
invariant_of-self c =
    let rows = c.self.inside.rows.items in
    let after = c.drop_record-dropped.new.rows.items in
    let ids = c.drop_record-dropped.result.ids in
    let at = sym (found c.args.id rows) ∙ ap (λ (v : TableValue). row_of v.rows c.args.id) c.self.view_is ∙ c.requires.there in
    let l = leaves rows after c.args.id c.args.i c.requires.row c.drop_record-dropped.result at c.drop_record-dropped.ensures.dropped c.drop_record-dropped.ensures.rows in
    let are = c.name_all_less.ensures.rows ∙ ap (λ (xs : List InodeId). lessen_all xs after) c.items.ensures in
    let put = c.name_all_less.ensures.unnamed ∙ ap (λ (xs : List InodeId). c.self.inside.unnamed.items ++ ended xs after) c.items.ensures in
    record {
      counted = subst (λ (s : Slots). AreCounted s _) (sym are) (counted-all-less ids after (l.counted c.self.invariant.counted));
      listed = subst (λ (s : Slots). AreListed s c.name_all_less.new.unnamed.items) (sym are)
          (subst (λ (u : List InodeId). AreListed (lessen_all ids after) u) (sym put) (listed-all-less ids after c.self.inside.unnamed.items (l.listed c.self.inside.unnamed.items c.self.invariant.listed)));
      stack_room = c.name_all_less.ensures.room;
      blocks = let same = ap (λ (s : Slots). blocks_named (table_in s)) are in let less = blocks-all-less ids after in omega (arith, same, less, l.blocks, c.self.invariant.blocks);
      rising = c.self.invariant.rising;
      some = let same = ap length are in let less = length-all-less ids after in omega (arith, same, less, l.len, c.self.invariant.some, c.self.inside.rows.ok.0, c.name_all_less.new.rows.ok.0);
      within = let same = ap (λ (s : Slots). weight (table_in s)) are in let less = weight-all-less ids after in omega (arith, same, less, l.lighter, c.self.invariant.within);
    }

pub returns-clause-merged : goal.returns-clause-merged
returns-clause-merged c =
    let rows = c.self.inside.rows.items in
    let after = c.drop_record-dropped.new.rows.items in
    let ids = c.drop_record-dropped.result.ids in
    let at = sym (found c.args.id rows) ∙ ap (λ (v : TableValue). row_of v.rows c.args.id) c.self.view_is ∙ c.requires.there in
    let l = leaves rows after c.args.id c.args.i c.requires.row c.drop_record-dropped.result at c.drop_record-dropped.ensures.dropped c.drop_record-dropped.ensures.rows in
    let are = c.name_all_less.ensures.rows ∙ ap (λ (xs : List InodeId). lessen_all xs after) c.items.ensures in
    let same = ap length are in
    let less = length-all-less ids after in
    let long : c.name_all_less.new.rows.len ≡ c.self.inside.rows.len = omega (arith, same, less, l.len, c.self.inside.rows.ok.0, c.name_all_less.new.rows.ok.0) in
    merged-told rows after c.name_all_less.new.rows.items c.args.id c.args.i c.requires.row c.drop_record-dropped.result c.self.inside.index.items _ _ c.self.inside.waiting.items c.wait.new.waiting.items at l are
    (c.wait.ensures.blocks ∙ ap (λ bs. c.self.inside.waiting.items ++ bs) c.items-2.ensures) (ap (λ n. n - 1) long)
    ∙ ap (λ (v : TableValue). merged c.args.id c.args.i (told v)) c.self.view_is

pub returns-clause-here : goal.returns-clause-here
returns-clause-here c =
    let rows = c.self.inside.rows.items in
    let after = c.drop_record-dropped.new.rows.items in
    let id = c.args.id in
    let at = sym (found id rows) ∙ ap (λ (v : TableValue). row_of v.rows id) c.self.view_is ∙ c.requires.there in
    let left = leaves-row rows after id c.args.i c.requires.row c.drop_record-dropped.result c.items.result.now at c.drop_record-dropped.ensures.dropped in
    subst (λ (v : TableValue). LeavesRow (rows_in (row_of v.rows id)) (rows_in (row_of (numbered 0 c.name_all_less.new.rows.items) id))) c.self.view_is
    (subst (λ (o : Option Row). LeavesRow (rows_in o) (rows_in (row_of (numbered 0 c.name_all_less.new.rows.items) id))) (sym (found id rows))
    (subst (λ (o : Option Row). LeavesRow (rows_in (at_place rows id)) (rows_in o)) (sym (found id c.name_all_less.new.rows.items))
    (subst (λ (s : Slots). LeavesRow (rows_in (at_place rows id)) (rows_in (at_place s id))) (sym c.name_all_less.ensures.rows) left)))

pub returns-clause-there : goal.returns-clause-there
returns-clause-there c = λ other ne.
    let rows = c.self.inside.rows.items in
    let after = c.drop_record-dropped.new.rows.items in
    let at = sym (found c.args.id rows) ∙ ap (λ (v : TableValue). row_of v.rows c.args.id) c.self.view_is ∙ c.requires.there in
    let l = leaves rows after c.args.id c.args.i c.requires.row c.drop_record-dropped.result at c.drop_record-dropped.ensures.dropped c.drop_record-dropped.ensures.rows in
    ap rows_in (found other c.name_all_less.new.rows.items)
    ∙ ap (λ (s : Slots). rows_in (at_place s other)) c.name_all_less.ensures.rows
    ∙ rows-all-less c.items.result.now other after
    ∙ ap rows_in (l.there other ne)
    ∙ sym (ap rows_in (found other rows))
    ∙ ap (λ (v : TableValue). rows_in (row_of v.rows other)) c.self.view_is

pub returns-clause-room : goal.returns-clause-room
returns-clause-room c =
    let rows = c.self.inside.rows.items in
    let after = c.drop_record-dropped.new.rows.items in
    let ids = c.drop_record-dropped.result.ids in
    let there = ap (λ (v : TableValue). row_of v.rows c.args.id) c.self.view_is ∙ c.requires.there in
    let at = sym (found c.args.id rows) ∙ there in
    let l = leaves rows after c.args.id c.args.i c.requires.row c.drop_record-dropped.result at c.drop_record-dropped.ensures.dropped c.drop_record-dropped.ensures.rows in
    let are = c.name_all_less.ensures.rows ∙ ap (λ (xs : List InodeId). lessen_all xs after) c.items.ensures in
    let put = c.name_all_less.ensures.unnamed ∙ ap (λ (xs : List InodeId). c.self.inside.unnamed.items ++ ended xs after) c.items.ensures in
    let same = ap length are in
    let less = length-all-less ids after in
    let grown = ap length put in
    let sum = length-append c.self.inside.unnamed.items (ended ids after) in
    let few = ended-few ids after in
    let many = ap length (l.ids ∙ sym (ap (ids_dropped_at c.args.i) there)) in
    let wait_grown = ap length (c.wait.ensures.blocks ∙ ap (λ bs. c.self.inside.waiting.items ++ bs) c.items-2.ensures) in
    let wait_sum = length-append c.self.inside.waiting.items c.drop_record-dropped.result.blocks in
    let left : TableRoom = record {
      slots = vec_capacity c.name_all_less.new.rows - vec_len c.name_all_less.new.rows;
      index = vec_capacity c.self.inside.index - vec_len c.self.inside.index;
      stack = vec_capacity c.name_all_less.new.unnamed - (vec_len c.name_all_less.new.unnamed + vec_len c.name_all_less.new.rows);
      blocks = vec_capacity c.wait.new.waiting + 1 - (vec_len c.wait.new.waiting + (c.self.inside.blocks - c.drop_record-dropped.result.count));
    } in
    subst (λ (v : TableValue). LeavesRoom (length (ids_dropped_at c.args.i (row_of v.rows c.args.id))) v.room left) c.self.view_is
    (record {
      slots = omega (arith, same, less, l.len, c.self.inside.rows.ok.0, c.name_all_less.new.rows.ok.0, c.name_all_less.ensures.slots, c.drop_record-dropped.ensures.slots);
      index = omega arith;
      stack = omega (arith, same, less, l.len, grown, sum, few, many, c.self.inside.rows.ok.0, c.name_all_less.new.rows.ok.0, c.self.inside.unnamed.ok.0, c.name_all_less.new.unnamed.ok.0, c.name_all_less.ensures.capacity);
      blocks = omega (arith, wait_grown, wait_sum, l.few, l.blocks, c.self.invariant.blocks, c.wait.ensures.capacity, c.self.inside.waiting.ok.0, c.wait.new.waiting.ok.0);
    })
