use Rattle.std.proofs.Common.{false, [], List, ap, sym, subst, ◌∙◌, arith}
use Rattle.std.specs.List.{Contains}
use Rattle.hs_types.specs.declared.ids.InodeId.{InodeId}
use Rattle.inode_table.specs.Kept.{TableValue}
use Rattle.inode_table.specs.Merged.{KeepsRow, IsRowMergeable}
use Rattle.inode_table.specs.Numbered.{numbered, row_of, at_place}
use Rattle.inode_table.specs.Prepared.{IsPreparedRow}
use Rattle.inode_table.specs.Totals.{blocks_named, weight}
use Rattle.inode_table.proofs.Numbers.{found}
use Rattle.inode_table.proofs.Taking.{counted-same, listed-same, named-same, keeps-found, on_ok}
use Rattle.inode_table.proofs.table.Table.prepare_merge.Goals as goal

pub invariant_of-self-2 : goal.invariant_of-self-2
invariant_of-self-2 c =
    let old = c.self.inside.rows.items in
    let new = c.prepare_rows.new.rows.items in
    let told = c.prepare_rows.ensures.told in
    let named = named-same old new told in
    let weighs = ap weight told in
    record {
      counted = counted-same old new told [] c.self.invariant.counted;
      listed = listed-same old new told c.self.inside.unnamed.items c.self.invariant.listed;
      stack_room = omega (arith, named, c.self.invariant.stack_room);
      blocks = c.self.invariant.blocks ∙ sym (ap blocks_named told);
      rising = c.self.invariant.rising;
      some = omega (arith, c.prepare_rows.ensures.len, c.self.invariant.some);
      within = omega (arith, weighs, c.self.invariant.within);
    }

pub returns-clause-rows_kept : goal.returns-clause-rows_kept
returns-clause-rows_kept c =
    let new = c.prepare_rows.new.rows.items in
    subst (λ (v : TableValue). (id : InodeId) → KeepsRow (row_of v.rows id) (row_of (numbered 0 new) id)) c.self.view_is (keeps-found c.self.inside.rows.items new c.prepare_rows.ensures.kept)

pub returns-clause-rows : goal.returns-clause-rows
returns-clause-rows c =
    let new = c.prepare_rows.new.rows.items in
    on_ok c.prepare_rows.result
    (λ (ready : (id : InodeId) → Contains c.items.result.now id → IsPreparedRow false (at_place new id)). λ id within.
    subst IsRowMergeable (sym (found id new)) (ready id (subst (λ (xs : List InodeId). Contains xs id) (sym c.items.ensures) within)).merge)
    c.prepare_rows.ensures.ready
