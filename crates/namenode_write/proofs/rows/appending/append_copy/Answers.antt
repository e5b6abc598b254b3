use Rattle.hs_types.specs.declared.call.Place.TheVariants as places
use Rattle.inode_table.specs.Kept.{told}
use Rattle.namenode_write.proofs.AppendedCalls.{row-known, append-fits}
use Rattle.namenode_write.proofs.RowFiles.{place-file, place-held}
use Rattle.namenode_write.proofs.rows.appending.append_copy.Goals as goal

pub append-requires-clause-file : goal.append-requires-clause-file
append-requires-clause-file g c = place-file (told c.args.space.now.table).rows _ _ _ c.requires.standing.1.stands.blocks (places.Live c.args.seat.id) c.args.file c.requires.row

pub append-requires-clause-held : goal.append-requires-clause-held
append-requires-clause-held g c = place-held (told c.args.space.now.table).rows _ _ _ c.requires.standing.1.stands.blocks (places.Live c.args.seat.id) c.args.file c.requires.row

pub append-requires-clause-known : goal.append-requires-clause-known
append-requires-clause-known g c = row-known (told c.args.space.now.table).rows _ _ _ c.requires.standing.1.stands.blocks c.args.seat.id c.args.file c.requires.row

pub change_ready-requires-clause-room : goal.change_ready-requires-clause-room
change_ready-requires-clause-room g c =
    append-fits c.args.space.now.table c.args.seat.id c.args.seat.need.0 c.args.tick c.in-Ok.size c.args.file _ _ c.append.new.blocks c.requires.row c.requires.room c.in-Ok.ensures.made
