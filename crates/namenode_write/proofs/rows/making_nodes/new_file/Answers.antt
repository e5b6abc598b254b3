use Rattle.std.proofs.Common.{ap, arith}
use Rattle.hs_types.specs.declared.ids.SnapId.{SnapId}
use Rattle.inode_table.specs.Kept.{told}
use Rattle.inode_table.specs.RowHistory.{File}
use Rattle.namenode_write.proofs.MadeCalls.{place-room, rows-of-file, file-may, file-called}
use Rattle.namenode_write.proofs.NodeRoom.{room-fewer}
use Rattle.namenode_write.proofs.rows.making_nodes.new_file.Goals as goal

pub put_node-requires-clause-may : goal.put_node-requires-clause-may
put_node-requires-clause-may c =
    file-may (told c.args.table.now) c.args.snaps.now c.args.path.now c.in_ok-parent.field-0 c.in_ok-parent.ensures.place c.args.tick (told c.ready_place.new.table) c.issued.result.0 (File c.new.result.history)
    c.ready_place.ensures.same (ap (λ (i : SnapId). i.0) c.issued.ensures) c.requires.asks.0 c.requires.asks.1
    (rows-of-file c.new.result.history c.in_ok-parent.field-0.spot c.of_file.result c.args.tick c.new.ensures.history c.of_file.ensures)
    (c.requires.free c.requires.asks.0 c.requires.asks.1.stands)

pub put_node-requires-clause-room : goal.put_node-requires-clause-room
put_node-requires-clause-room c =
    room-fewer 2 1 c.in_ok-parent.field-0.parent c.ready_place.new.table (omega arith)
    (place-room (told c.args.table.now) c.args.snaps.now c.args.path.now c.in_ok-parent.field-0 c.in_ok-parent.ensures.place c.requires.asks.0 c.ready_place.new.table c.requires.asks.1.stands c.ready_place.ensures.same
    c.in_ok-parent.ensures.room)

pub returns-clause-called : goal.returns-clause-called
returns-clause-called c = λ state asks.
    file-called (told c.args.table.now) c.args.snaps.now c.args.path.now c.in_ok-parent.field-0 c.in_ok-parent.ensures.place c.args.tick (told c.ready_place.new.table) c.issued.result.0 (File c.new.result.history)
    c.ready_place.ensures.same (ap (λ (i : SnapId). i.0) c.issued.ensures) state asks
    (rows-of-file c.new.result.history c.in_ok-parent.field-0.spot c.of_file.result c.args.tick c.new.ensures.history c.of_file.ensures)
    (c.requires.free state asks.stands)
    (told c.put_node.new.table) c.put_node.result c.put_node.ensures.next c.put_node.ensures.entered
