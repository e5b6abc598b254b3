use Rattle.std.proofs.Common.{◌≡◌, ap, subst, arith}
use Rattle.std.specs.Prelude.{◌≢◌}
use Rattle.hs_types.specs.declared.ids.InodeId.{InodeId}
use Rattle.inode_table.specs.Kept.{told, UsesInsert}
use Rattle.inode_table.specs.Numbered.{row_of, history_of}
use Rattle.inode_table.specs.Tabled.{Tabled}
use Rattle.inode_table.specs.Totals.{weight}
use Rattle.namenode_write.proofs.NodeRoom.{row-leaves, in-fits}
use Rattle.namenode_write.proofs.Weighing.{weight-inserted}
use Rattle.namenode_write.proofs.rows.making_nodes.put_node.Goals as goal

pub change_ready-requires-clause-bound : goal.change_ready-requires-clause-bound
change_ready-requires-clause-bound c =
    let one = weight-inserted (told c.args.table.now) c.insert_ready-id.result (history_of c.args.rows) c.args.since.0 c.requires.may.bare in
    let same = ap (λ (t : Tabled). weight t.rows) c.insert_ready-id.ensures.whole in
    let bound = c.requires.bound in
    omega (arith, one, same, bound)

pub change_ready-requires-clause-room : goal.change_ready-requires-clause-room
change_ready-requires-clause-room c =
    in-fits 0 c.args.parent c.args.table.now c.insert_ready-id.new.table c.args.name c.insert_ready-id.result c.args.tick c.requires.room
    (row-leaves 1 c.args.parent c.args.table.now (history_of c.args.rows) c.requires.room c.requires.empty c.insert_ready-id.new.table
    (subst (λ (i : InodeId). UsesInsert i (history_of c.args.rows) c.args.table.now.greatest c.args.table.now.room c.insert_ready-id.new.table.room) c.insert_ready-id.ensures.next c.insert_ready-id.ensures.kept)
    (subst (λ (i : InodeId). (other : InodeId) → other ≢ i → row_of c.insert_ready-id.new.table.rows other ≡ row_of c.args.table.now.rows other) c.insert_ready-id.ensures.next c.insert_ready-id.ensures.there))
