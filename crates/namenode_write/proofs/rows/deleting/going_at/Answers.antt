use Rattle.std.proofs.Common.{subst, sym}
use Rattle.hs_types.specs.Names.{Names}
use Rattle.hs_plain.specs.Tree.{parent_of}
use Rattle.inode_table.specs.Kept.{told}
use Rattle.namenode_write.specs.Seats.{IsSeat}
use Rattle.namenode_write.proofs.GoneDirs.{going-of}
use Rattle.namenode_write.proofs.rows.deleting.going_at.Goals as goal

pub returns : goal.returns
returns c = λ state all.
    going-of (told c.args.table.now).rows state c.args.path c.in_ok-parent.parent c.last_name-name.result c.in_ok-gone.gone c.last_name-name.ensures
    (subst (λ (p : Names). IsSeat (told c.args.table.now).rows state (parent_of p) c.in_ok-parent.parent) c.items-names.ensures (c.in_ok-parent.ensures state all))
    (c.in_ok-gone.ensures state all c.args.path (rw (sym c.items-names.ensures) (c.in-Ok.ensures.there c.args.snaps.now state all)))
