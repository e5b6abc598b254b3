use Rattle.std.proofs.Common.{◌≡◌, true, [], List, length, refl, ap, sym, subst, ◌∙◌, arith}
use Rattle.std.specs.List.{Contains}
use Rattle.hs_types.specs.declared.ids.InodeId.{InodeId}
use Rattle.inode_table.specs.Indexed.{IsRising}
use Rattle.inode_table.specs.Kept.{TableValue, IsRowReady}
use Rattle.inode_table.specs.Merged.{KeepsRow}
use Rattle.inode_table.specs.Numbered.{numbered, row_of, at_place}
use Rattle.inode_table.specs.Prepared.{IsPreparedRow}
use Rattle.inode_table.specs.Slots.{Slots, table_in, AreListed}
use Rattle.inode_table.specs.Totals.{blocks_named, weight}
use Rattle.inode_table.proofs.Numbers.{found}
use Rattle.inode_table.proofs.Taking.{counted-same, listed-same, named-same, keeps-found, on_ok}
use Rattle.inode_table.proofs.table.Table.prepare.Goals as goal

pub invariant_of-self-2 : goal.invariant_of-self-2
invariant_of-self-2 c =
    let old = c.self.inside.rows.items in
    let new = c.prepare_rows.new.rows.items in
    let told : table_in new ≡ table_in old = c.prepare_rows.ensures.told ∙ ap table_in c.make_ahead.ensures.rows in
    let named = named-same old new told in
    let weighs = ap weight told in
    let stack = ap length c.make_ahead.ensures.unnamed in
    let long = ap length c.make_ahead.ensures.rows in
    record {
      counted = counted-same old new told [] c.self.invariant.counted;
      listed = subst (λ (ids : List InodeId). AreListed new ids) (sym c.make_ahead.ensures.unnamed) (listed-same old new told c.self.inside.unnamed.items c.self.invariant.listed);
      stack_room = omega (arith, named, c.self.invariant.stack_room, stack, c.make_ahead.ensures.unnamed_capacity, c.self.inside.unnamed.ok.0, c.make_ahead.new.unnamed.ok.0);
      blocks = c.self.invariant.blocks ∙ sym (ap blocks_named told);
      rising = subst IsRising (sym c.make_ahead.ensures.index) c.self.invariant.rising;
      some = omega (arith, c.prepare_rows.ensures.len, long, c.self.inside.rows.ok.0, c.make_ahead.new.rows.ok.0, c.self.invariant.some);
      within = omega (arith, weighs, c.self.invariant.within);
    }

pub returns-clause-rows_kept : goal.returns-clause-rows_kept
returns-clause-rows_kept c =
    let new = c.prepare_rows.new.rows.items in
    let kept = subst (λ (rows : Slots). (id : InodeId) → KeepsRow (at_place rows id) (at_place new id)) c.make_ahead.ensures.rows c.prepare_rows.ensures.kept in
    subst (λ (v : TableValue). (id : InodeId) → KeepsRow (row_of v.rows id) (row_of (numbered 0 new) id)) c.self.view_is (keeps-found c.self.inside.rows.items new kept)

pub returns-clause-rows : goal.returns-clause-rows
returns-clause-rows c =
    let new = c.prepare_rows.new.rows.items in
    on_ok c.prepare_rows.result
    (λ (ready : (id : InodeId) → Contains c.items-2.result.now id → IsPreparedRow true (at_place new id)). λ id within cover.
    subst (IsRowReady 3 cover) (sym (found id new)) ((ready id (subst (λ (xs : List InodeId). Contains xs id) (sym c.items-2.ensures) within)).changed refl cover))
    c.prepare_rows.ensures.ready
