use Rattle.std.proofs.Common.{◌-◌, ap, subst, sym, ◌∙◌, List, arith}
use Rattle.hs_types.specs.declared.ids.InodeId.{InodeId}
use Rattle.inode_table.specs.Kept.{TableValue, told, rows_in}
use Rattle.inode_table.specs.Numbered.{row_of}
use Rattle.inode_table.specs.Slots.{AreListed}
use Rattle.inode_table.proofs.Lessening.{all-named, releasing-of}
use Rattle.inode_table.proofs.Taking.{stays-found}
use Rattle.inode_table.proofs.table.Table.release.Goals as goal

pub release_all-rows-requires-clause-steady : goal.release_all-rows-requires-clause-steady
release_all-rows-requires-clause-steady c = record {
  counted = c.self.invariant.counted;
  stack = c.self.invariant.stack_room;
  blocks = c.self.invariant.blocks;
  room = c.in_ok-reserve.ensures.ok;
}

pub returns-clause-ok : goal.returns-clause-ok
returns-clause-ok c =
    let new = c.release_all-rows.new.rows.items in
    let e = c.release_all-rows.ensures in
    releasing-of c.self.inside.rows.items new c.self.inside.waiting.items c.reserve.new.self.items c.release_all-rows.new.waiting.items c.hand_out-blocks.result c.hand_out-blocks.new.waiting.items _ _ _ c.release_all-rows.result (told c.args.self.now)
    e.gone (sym (ap told c.self.view_is)) c.reserve.ensures.items (ap (λ n. n - 1) e.len) c.hand_out-blocks.ensures.blocks
    (all-named new e.steady.counted (subst (λ (u : List InodeId). AreListed new u) e.empty e.listed)) c.hand_out-blocks.ensures.empty

pub returns-clause-there : goal.returns-clause-there
returns-clause-there c = λ id some.
    stays-found c.self.inside.rows.items c.release_all-rows.new.rows.items id c.release_all-rows.ensures.left some ∙ ap (λ (v : TableValue). rows_in (row_of v.rows id)) c.self.view_is
