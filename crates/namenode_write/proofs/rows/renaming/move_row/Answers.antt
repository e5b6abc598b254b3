use Rattle.std.proofs.Common.{ap, ◌∙◌}
use Rattle.inode_table.specs.declared.change.Change.TheVariants as changes
use Rattle.inode_table.specs.Kept.{told}
use Rattle.inode_table.specs.Tabled.{Tabled, changed}
use Rattle.namenode_write.specs.Moving.{placed}
use Rattle.namenode_write.proofs.MoveRooms.{first-fits, second-fits, third-fits, row-in-memory}
use Rattle.namenode_write.proofs.rows.renaming.move_row.Goals as goal

pub change_ready-requires-clause-room : goal.change_ready-requires-clause-room
change_ready-requires-clause-room c =
    first-fits c.args.seats c.requires.needs.0 c.requires.needs.1 c.args.tick c.args.table.now c.args.names.old (c.requires.room c.requires.needs.0)

pub change_ready-requires-2-clause-room : goal.change_ready-requires-2-clause-room
change_ready-requires-2-clause-room c =
    second-fits c.args.seats c.requires.needs.0 c.requires.needs.1 c.args.tick c.args.table.now c.args.names.old (c.requires.room c.requires.needs.0) c.change_ready.new.table c.change_ready.ensures c.args.names.new c.args.seats.node.id

pub change_ready-requires-3-clause-room : goal.change_ready-requires-3-clause-room
change_ready-requires-3-clause-room c =
    third-fits c.args.seats c.requires.needs.0 c.requires.needs.1 c.args.tick c.args.table.now c.args.names.old (c.requires.room c.requires.needs.0) c.change_ready.new.table c.change_ready.ensures c.args.names.new c.args.seats.node.id
    c.change_ready-2.new.table c.change_ready-2.ensures c.args.names.spot

pub arrive-requires : goal.arrive-requires
arrive-requires c =
    let seats = c.args.seats in
    let names = c.args.names in
    let tick = c.args.tick in
    row-in-memory c.change_ready-3.new.table (placed tick seats names (told c.args.table.now)) seats.node.id c.requires.can.row
    (c.change_ready-3.ensures.whole
    ∙ ap (λ (t : Tabled). changed seats.node.id seats.node.need.0 tick (changes.Move names.spot) t) (c.change_ready-2.ensures.whole
    ∙ ap (λ (t : Tabled). changed seats.to.id seats.to.need.0 tick (changes.Add names.new seats.node.id) t) c.change_ready.ensures.whole))
    c.requires.can.there
