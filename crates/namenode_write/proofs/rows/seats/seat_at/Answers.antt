use Rattle.inode_table.specs.Kept.{told}
use Rattle.namenode_write.proofs.Seating.{seat-of}
use Rattle.namenode_write.proofs.rows.seats.seat_at.Goals as goal

pub returns : goal.returns
returns c state all =
    seat-of (told c.args.table.now).rows state c.args.path.now _ _ (c.in-Ok.ensures.there c.args.snaps.now state all) (c.in-Ok-chain.ensures.chain c.args.snaps.now state all)
    (c.cover-cover.ensures.stood_for state all) (c.need-need.ensures.stood_for state all)
