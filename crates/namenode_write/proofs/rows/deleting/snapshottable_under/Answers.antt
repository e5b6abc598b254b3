use Rattle.std.proofs.Common.{List, sym, subst}
use Rattle.hs_types.specs.declared.ids.InodeId.{InodeId}
use Rattle.inode_table.specs.Kept.{told}
use Rattle.path_resolver.proofs.Over.{step-less}
use Rattle.namenode_write.proofs.GoneDirs.{AreFound, found-first, found-next, found-all}
use Rattle.namenode_write.proofs.rows.deleting.snapshottable_under.Goals as goal

pub loop-next-init : goal.loop-next-init
loop-next-init c =
    subst (λ (gone : List InodeId). AreFound (told c.args.table.now) c.args.snaps.now c.args.id c.dir_at-next.result gone) (sym c.new-gone.ensures)
    (found-first (told c.args.table.now) c.args.snaps.now c.args.id c.dir_at-next.result c.always.ensures.proper.dirs_rise c.dir_at-next.ensures)

pub loop-next-smaller : goal.loop-next-smaller
loop-next-smaller c = step-less c.args.snaps.now.dirs c.loop-next.next c.dir_after-next.result c.in-Some.dir c.in-Some.is c.dir_after-next.ensures

pub loop-next-preserved : goal.loop-next-preserved
loop-next-preserved c =
    found-next (told c.args.table.now) c.args.snaps.now c.args.id c.loop-next.next c.dir_after-next.result c.in-Some.dir c.loop-next.gone c.note_under.new.gone c.loop-next.invariant c.always.ensures.proper.dirs_rise c.in-Some.is
    c.dir_after-next.ensures c.in_ok-note_under.ensures

pub returns : goal.returns
returns c = λ state all path there. found-all (told c.args.table.now) c.args.snaps.now c.args.id c.loop-next.gone (subst (λ next. AreFound (told c.args.table.now) c.args.snaps.now c.args.id next c.loop-next.gone) c.in_default.is c.loop-next.invariant) state all path there
