use Rattle.std.proofs.Common.{◌≡◌, ◌+◌, ◌-◌, ◌^◌, ◌<◌, List, cond, vec_len, vec_capacity, length, refl, sym, ap, subst, ◌∙◌, arith}
use Rattle.std.specs.Option.{option_map}
use Rattle.hs_types.specs.declared.ids.InodeId.{InodeId}
use Rattle.hs_plain.proofs.ValidShapes.{true_false}
use Rattle.inode_table.specs.Indexed.{Index, noted, IsRising}
use Rattle.inode_table.specs.Kept.{TableValue, TableRoom, told, rows_in, CanChange, IsRowReady, HasChangeRoom, UsesChange, blocks_grown}
use Rattle.inode_table.specs.Numbered.{row_of, at_place, state_of}
use Rattle.inode_table.specs.RowHistory.{row_at}
use Rattle.inode_table.specs.Slots.{table_in, AreListed}
use Rattle.inode_table.specs.Tabled.{changed, recount_in, recounted, starts_in, with_changed}
use Rattle.inode_table.specs.Totals.{weight}
use Rattle.inode_table.proofs.Altering.{changed-at, left-at, can-fit, blocks-most, grown-same, ready-rows, any-err}
use Rattle.inode_table.proofs.Numbers.{found}
use Rattle.inode_table.proofs.Places.{named-few}
use Rattle.inode_table.proofs.Placing.{slot-told}
use Rattle.inode_table.proofs.table.Table.change.Goals as goal

pub blocks_after-requires : goal.blocks_after-requires
blocks_after-requires c = λ row is.
    let most = blocks-most c.self.inside.rows.items c.args.id row is in
    omega (arith, most, c.self.invariant.blocks)

pub returns-in_err-blocks-clause-room : goal.returns-in_err-blocks-clause-room
returns-in_err-blocks-clause-room c = λ room ready.
    let rows = c.self.inside.rows.items in
    let here = subst (λ (v : TableValue). HasChangeRoom (blocks_grown c.args.cover.0 c.args.tick c.args.what (row_at (told v).rows c.args.id)) v.room) (sym c.self.view_is) room in
    let grown = ap (blocks_grown c.args.cover.0 c.args.tick c.args.what) (slot-told rows c.args.id) in
    absurd (true_false (c.in_err-blocks.ensures.room (λ tick.
    let same = grown-same c.args.cover.0 tick c.args.tick c.args.what (option_map state_of (at_place rows c.args.id)) in
    let fits = c.self.inside.waiting.small in
    omega (arith, here.blocks, grown, same, fits))) refl)

pub change_at-requires : goal.change_at-requires
change_at-requires c =
    can-fit c.self.inside.rows.items c.args.id c.args.what (subst (λ (v : TableValue). CanChange (told v).rows c.args.id c.args.what) (sym c.self.view_is) c.requires.can)

pub invariant_of-self-in_err-counted : goal.invariant_of-self-in_err-counted
invariant_of-self-in_err-counted c =
    let rows = c.self.inside.rows.items in
    let after = c.change_at.new.rows.items in
    let can = subst (λ (v : TableValue). CanChange (told v).rows c.args.id c.args.what) (sym c.self.view_is) c.requires.can in
    let left = left-at rows after c.args.id c.args.what can c.in_err-counted.ensures.set c.in_err-counted.ensures.err in
    record {
      counted = left.counted c.self.invariant.counted;
      listed = subst (λ (ids : List InodeId). AreListed after ids) (sym c.make_room.ensures.unnamed) (left.listed c.self.inside.unnamed.items c.self.invariant.listed);
      stack_room = let few = named-few after in omega (arith, few, c.change_at.new.rows.ok.0, c.in_ok-make_room.ensures.stack, c.len.ensures, c.change_at.ensures.len, c.self.inside.rows.ok.0);
      blocks = c.self.invariant.blocks ∙ sym left.blocks;
      rising = subst IsRising (sym c.make_room.ensures.index) c.self.invariant.rising;
      some = omega (arith, c.self.invariant.some, c.change_at.ensures.len);
      within = omega (arith, c.self.invariant.within, left.weighs);
    }

pub returns-in_err-counted-clause-err : goal.returns-in_err-counted-clause-err
returns-in_err-counted-clause-err c =
    let rows = c.self.inside.rows.items in
    let after = c.change_at.new.rows.items in
    let can = subst (λ (v : TableValue). CanChange (told v).rows c.args.id c.args.what) (sym c.self.view_is) c.requires.can in
    let left = left-at rows after c.args.id c.args.what can c.in_err-counted.ensures.set c.in_err-counted.ensures.err in
    any-err c.from_residual-in_err-counted.result
    ((λ i. record { rows = left.told i; index = c.make_room.ensures.index i; greatest = c.change_at.ensures.len i - 1; waiting = c.self.inside.waiting.items }) ∙ ap told c.self.view_is)

pub returns-in_err-counted-clause-there : goal.returns-in_err-counted-clause-there
returns-in_err-counted-clause-there c = λ other ne.
    let rows = c.self.inside.rows.items in
    let after = c.change_at.new.rows.items in
    let can = subst (λ (v : TableValue). CanChange (told v).rows c.args.id c.args.what) (sym c.self.view_is) c.requires.can in
    let left = left-at rows after c.args.id c.args.what can c.in_err-counted.ensures.set c.in_err-counted.ensures.err in
    ap rows_in (found other after ∙ left.there other ne ∙ sym (found other rows)) ∙ ap (λ (v : TableValue). rows_in (row_of v.rows other)) c.self.view_is

pub returns-in_err-counted-clause-room : goal.returns-in_err-counted-clause-room
returns-in_err-counted-clause-room c = λ room ready.
    let rows = c.self.inside.rows.items in
    let now : at_place rows c.args.id ≡ row_of c.args.self.now.rows c.args.id = sym (found c.args.id rows) ∙ ap (λ (v : TableValue). row_of v.rows c.args.id) c.self.view_is in
    absurd (true_false (c.in_err-counted.ensures.room (subst (IsRowReady 1 c.args.cover.0) (sym now) ready)) refl)

pub recount-requires-clause-off : goal.recount-requires-clause-off
recount-requires-clause-off c =
    let rows = c.self.inside.rows.items in
    let after = c.change_at.new.rows.items in
    let can = subst (λ (v : TableValue). CanChange (told v).rows c.args.id c.args.what) (sym c.self.view_is) c.requires.can in
    let bound = subst (λ (v : TableValue). weight (told v).rows < 2 ^ 32) (sym c.self.view_is) c.requires.bound in
    let at = changed-at rows after c.args.id c.args.cover.0 c.args.tick c.args.what c.in_ok-counted.counted c.in_ok-counted.ensures.set c.in_ok-counted.ensures.ok c.in_ok-counted.ensures.sound c.in_ok-counted.ensures.recount can c.self.invariant.counted bound in
    at.off

pub recount-requires-clause-small : goal.recount-requires-clause-small
recount-requires-clause-small c =
    let rows = c.self.inside.rows.items in
    let after = c.change_at.new.rows.items in
    let can = subst (λ (v : TableValue). CanChange (told v).rows c.args.id c.args.what) (sym c.self.view_is) c.requires.can in
    let bound = subst (λ (v : TableValue). weight (told v).rows < 2 ^ 32) (sym c.self.view_is) c.requires.bound in
    let at = changed-at rows after c.args.id c.args.cover.0 c.args.tick c.args.what c.in_ok-counted.counted c.in_ok-counted.ensures.set c.in_ok-counted.ensures.ok c.in_ok-counted.ensures.sound c.in_ok-counted.ensures.recount can c.self.invariant.counted bound in
    at.small

pub invariant_of-self-2 : goal.invariant_of-self-2
invariant_of-self-2 c =
    let rows = c.self.inside.rows.items in
    let after = c.change_at.new.rows.items in
    let can = subst (λ (v : TableValue). CanChange (told v).rows c.args.id c.args.what) (sym c.self.view_is) c.requires.can in
    let bound = subst (λ (v : TableValue). weight (told v).rows < 2 ^ 32) (sym c.self.view_is) c.requires.bound in
    let at = changed-at rows after c.args.id c.args.cover.0 c.args.tick c.args.what c.in_ok-counted.counted c.in_ok-counted.ensures.set c.in_ok-counted.ensures.ok c.in_ok-counted.ensures.sound c.in_ok-counted.ensures.recount can c.self.invariant.counted bound in
    record {
      counted = c.recount.ensures.counted;
      listed = c.recount.ensures.listed (subst (λ (ids : List InodeId). AreListed after ids) (sym c.make_room.ensures.unnamed) (at.listed c.self.inside.unnamed.items c.self.invariant.listed));
      stack_room = let few = named-few c.recount.new.rows.items in omega (arith, few, c.recount.new.rows.ok.0, c.recount.ensures.len, c.recount.ensures.stack, c.recount.ensures.stack_capacity, c.in_ok-make_room.ensures.stack, c.len.ensures, c.change_at.ensures.len, c.self.inside.rows.ok.0);
      blocks = let step = c.in_ok-blocks.ensures.ok _ at.was c.args.tick in omega (arith, step, at.blocks, c.recount.ensures.blocks, c.self.invariant.blocks);
      rising = c.note_start.ensures.rising;
      some = omega (arith, c.self.invariant.some, c.change_at.ensures.len, c.recount.ensures.len);
      within = omega (arith, at.weighs, c.recount.ensures.weight, bound);
    }

pub returns-clause-ok : goal.returns-clause-ok
returns-clause-ok c =
    let rows = c.self.inside.rows.items in
    let after = c.change_at.new.rows.items in
    let id = c.args.id in
    let cover = c.args.cover.0 in
    let tick = c.args.tick in
    let what = c.args.what in
    let entries = c.self.inside.index.items in
    let can = subst (λ (v : TableValue). CanChange (told v).rows c.args.id c.args.what) (sym c.self.view_is) c.requires.can in
    let bound = subst (λ (v : TableValue). weight (told v).rows < 2 ^ 32) (sym c.self.view_is) c.requires.bound in
    let at = changed-at rows after c.args.id c.args.cover.0 c.args.tick c.args.what c.in_ok-counted.counted c.in_ok-counted.ensures.set c.in_ok-counted.ensures.ok c.in_ok-counted.ensures.sound c.in_ok-counted.ensures.recount can c.self.invariant.counted bound in
    let now : table_in c.recount.new.rows.items ≡ recounted (recount_in cover what (row_at (table_in rows) id)) (with_changed id cover tick what (table_in rows))
    = c.recount.ensures.told ∙ ap (recounted c.in_ok-counted.counted) at.told
    ∙ ap (λ r. recounted r (with_changed id cover tick what (table_in rows))) (c.in_ok-counted.ensures.recount ∙ ap (recount_in cover what) (sym (slot-told rows id))) in
    let index : c.note_start.new.index.items ≡ cond (starts_in cover (row_at (table_in rows) id)) (noted tick id entries) entries
    = c.note_start.ensures.noted ∙ ap (λ (es : Index). cond c.starts_at-starts.result (noted tick id es) es) c.make_room.ensures.index
    ∙ ap (λ b. cond b (noted tick id entries) entries) (c.starts_at-starts.ensures ∙ ap (starts_in cover) (sym (slot-told rows id))) in
    let long = c.recount.ensures.len ∙ c.change_at.ensures.len in
    (λ i. record { rows = now i; index = index i; greatest = long i - 1; waiting = c.self.inside.waiting.items })
    ∙ ap (λ (v : TableValue). changed c.args.id c.args.cover.0 c.args.tick c.args.what (told v)) c.self.view_is

pub returns-clause-there : goal.returns-clause-there
returns-clause-there c = λ other ne.
    let rows = c.self.inside.rows.items in
    let after = c.change_at.new.rows.items in
    let can = subst (λ (v : TableValue). CanChange (told v).rows c.args.id c.args.what) (sym c.self.view_is) c.requires.can in
    let bound = subst (λ (v : TableValue). weight (told v).rows < 2 ^ 32) (sym c.self.view_is) c.requires.bound in
    let at = changed-at rows after c.args.id c.args.cover.0 c.args.tick c.args.what c.in_ok-counted.counted c.in_ok-counted.ensures.set c.in_ok-counted.ensures.ok c.in_ok-counted.ensures.sound c.in_ok-counted.ensures.recount can c.self.invariant.counted bound in
    ap rows_in (found other c.recount.new.rows.items) ∙ c.recount.ensures.rows other ∙ ap rows_in (at.there other ne ∙ sym (found other rows))
    ∙ ap (λ (v : TableValue). rows_in (row_of v.rows other)) c.self.view_is

pub returns-clause-kept : goal.returns-clause-kept
returns-clause-kept c =
    let rows = c.self.inside.rows.items in
    let after = c.change_at.new.rows.items in
    let can = subst (λ (v : TableValue). CanChange (told v).rows c.args.id c.args.what) (sym c.self.view_is) c.requires.can in
    let bound = subst (λ (v : TableValue). weight (told v).rows < 2 ^ 32) (sym c.self.view_is) c.requires.bound in
    let at = changed-at rows after c.args.id c.args.cover.0 c.args.tick c.args.what c.in_ok-counted.counted c.in_ok-counted.ensures.set c.in_ok-counted.ensures.ok c.in_ok-counted.ensures.sound c.in_ok-counted.ensures.recount can c.self.invariant.counted bound in
    let step = c.in_ok-blocks.ensures.ok _ at.was c.args.tick in
    let grown = ap (blocks_grown c.args.cover.0 c.args.tick c.args.what) (slot-told rows c.args.id ∙ ap (option_map state_of) at.was) in
    let entries = ap length c.make_room.ensures.index in
    let stack = ap length c.make_room.ensures.unnamed in
    let left : TableRoom = record {
      slots = vec_capacity c.recount.new.rows - vec_len c.recount.new.rows;
      index = vec_capacity c.note_start.new.index - vec_len c.note_start.new.index;
      stack = vec_capacity c.recount.new.unnamed - (vec_len c.recount.new.unnamed + vec_len c.recount.new.rows);
      blocks = vec_capacity c.self.inside.waiting + 1 - (vec_len c.self.inside.waiting + c.in_ok-blocks.blocks);
    } in
    subst (λ (v : TableValue). UsesChange (blocks_grown c.args.cover.0 c.args.tick c.args.what (row_at (told v).rows c.args.id)) v.room left) c.self.view_is
    (record {
      slots = omega (arith, c.recount.ensures.len, c.recount.ensures.capacity, c.change_at.ensures.len, c.change_at.ensures.capacity);
      index = omega (arith, entries, c.make_room.ensures.index_capacity, c.note_start.ensures.len, c.note_start.ensures.capacity, c.self.inside.index.ok.0, c.make_room.new.index.ok.0);
      stack = omega (arith, stack, c.make_room.ensures.unnamed_capacity, c.recount.ensures.stack, c.recount.ensures.stack_capacity, c.recount.ensures.len, c.change_at.ensures.len, c.self.inside.unnamed.ok.0, c.make_room.new.unnamed.ok.0);
      blocks = omega (arith, step, grown);
    })

pub returns-clause-ready : goal.returns-clause-ready
returns-clause-ready c = λ n ready.
    let rows = c.self.inside.rows.items in
    let after = c.change_at.new.rows.items in
    let last = c.recount.new.rows.items in
    let now : at_place rows c.args.id ≡ row_of c.args.self.now.rows c.args.id = sym (found c.args.id rows) ∙ ap (λ (v : TableValue). row_of v.rows c.args.id) c.self.view_is in
    subst (IsRowReady n c.args.cover.0) (sym (found c.args.id last))
    (ready-rows n c.args.cover.0 (at_place after c.args.id) (at_place last c.args.id) (c.recount.ensures.rows c.args.id)
    (c.in_ok-counted.ensures.kept n (subst (IsRowReady (n + 1) c.args.cover.0) (sym now) ready)))
