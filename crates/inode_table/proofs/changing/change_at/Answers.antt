use Rattle.std.proofs.Common.{ℕ, ◌+◌, Option, set, sym, subst}
use Rattle.std.specs.Prelude.{OnOk}
use Rattle.inode_table.specs.declared.row.Row.{Row}
use Rattle.inode_table.specs.Kept.{IsRowReady}
use Rattle.inode_table.specs.Numbered.{at_place}
use Rattle.inode_table.proofs.Altering.{fits-within}
use Rattle.inode_table.proofs.Placing.{slot-read, place-set-here}
use Rattle.inode_table.proofs.changing.change_at.Goals as goal

pub returns-clause-kept : goal.returns-clause-kept
returns-clause-kept c =
    let rows = c.args.rows.now.items in
    let lt = fits-within rows c.args.id c.args.what c.requires in
    let read = slot-read rows c.args.id c.index_mut.result.now lt c.index_mut.ensures.value in
    let here = place-set-here rows c.args.id c.change_slot.new.slot lt in
    subst (λ (o : Option Row). OnOk c.change_slot.result ((n : ℕ) → IsRowReady (n + 1) c.args.cover.0 o → IsRowReady n c.args.cover.0 (at_place (set rows c.args.id.0 c.change_slot.new.slot) c.args.id))) read
    (subst (λ (o : Option Row). OnOk c.change_slot.result ((n : ℕ) → IsRowReady (n + 1) c.args.cover.0 c.index_mut.result.now → IsRowReady n c.args.cover.0 o)) (sym here) c.change_slot.ensures.kept)
