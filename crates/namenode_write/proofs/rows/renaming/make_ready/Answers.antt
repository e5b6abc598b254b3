use Rattle.std.proofs.Common.{◌∙◌}
use Rattle.namenode_write.proofs.MoveRooms.{three-ready}
use Rattle.namenode_write.proofs.rows.renaming.make_ready.Goals as goal

pub returns-clause-room : goal.returns-clause-room
returns-clause-room c =
    three-ready c.prepare-2.result c.args.table.now c.prepare-2.new.self c.of.result c.args.seats.now (c.of.ensures ∙ c.in_ok-ids.ensures.items) c.prepare-2.ensures.same c.prepare-2.ensures.room c.prepare-2.ensures.rows
