use Rattle.std.proofs.Common.{ap, arith}
use Rattle.hs_types.specs.declared.ids.SnapId.{SnapId}
use Rattle.inode_table.specs.Kept.{told}
use Rattle.inode_table.specs.RowHistory.{Dir}
use Rattle.namenode_write.proofs.MadeCalls.{place-room, rows-of-dir, dir-may, dir-called}
use Rattle.namenode_write.proofs.NodeRoom.{room-fewer}
use Rattle.namenode_write.proofs.rows.making_nodes.new_dir.Goals as goal

pub put_node-requires-clause-may : goal.put_node-requires-clause-may
put_node-requires-clause-may c =
    dir-may (told c.args.table.now) c.args.snaps.now c.args.path.now c.in_ok-parent.field-0 c.in_ok-parent.ensures.place c.args.tick (told c.ready_place.new.table) c.issued.result.0 (Dir c.new.result.history)
    c.ready_place.ensures.same (ap (λ (i : SnapId). i.0) c.issued.ensures) c.requires.asks.0 c.requires.asks.1
    (rows-of-dir c.new.result.history c.in_ok-parent.field-0.spot c.of_directory.result c.args.tick c.new.ensures.history c.of_directory.ensures)

pub put_node-requires-clause-room : goal.put_node-requires-clause-room
put_node-requires-clause-room c =
    room-fewer 2 1 c.in_ok-parent.field-0.parent c.ready_place.new.table (omega arith)
    (place-room (told c.args.table.now) c.args.snaps.now c.args.path.now c.in_ok-parent.field-0 c.in_ok-parent.ensures.place c.requires.asks.0 c.ready_place.new.table c.requires.asks.1.stands c.ready_place.ensures.same
    c.in_ok-parent.ensures.room)

pub returns-clause-called : goal.returns-clause-called
returns-clause-called c = λ state asks.
    dir-called (told c.args.table.now) c.args.snaps.now c.args.path.now c.in_ok-parent.field-0 c.in_ok-parent.ensures.place c.args.tick (told c.ready_place.new.table) c.issued.result.0 (Dir c.new.result.history)
    c.ready_place.ensures.same (ap (λ (i : SnapId). i.0) c.issued.ensures) state asks
    (rows-of-dir c.new.result.history c.in_ok-parent.field-0.spot c.of_directory.result c.args.tick c.new.ensures.history c.of_directory.ensures)
    (told c.put_node.new.table) c.put_node.result c.put_node.ensures.next c.put_node.ensures.entered
