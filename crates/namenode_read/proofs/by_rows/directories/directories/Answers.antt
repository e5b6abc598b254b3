use Rattle.std.proofs.Common.{◌++◌, ◌∷◌, [], List, sym, ap, ◌∙◌, append_assoc}
use Rattle.hs_types.specs.declared.ids.InodeId.{InodeId}
use Rattle.path_resolver.proofs.Over.{step-less}
use Rattle.namenode_read.specs.Directories.{dirs_from}
use Rattle.namenode_read.proofs.DirPaths.{dirs-first, dirs-next}
use Rattle.namenode_read.proofs.by_rows.directories.directories.Goals as goal

pub loop-next-init : goal.loop-next-init
loop-next-init c =
    let dirs = c.args.snaps.now.dirs in
    ap (λ (list : List InodeId). list ++ dirs_from c.dir_at-next.result dirs) c.new-dirs.ensures
    ∙ ap (λ next. dirs_from next dirs) c.dir_at-next.ensures
    ∙ dirs-first dirs c.always.ensures.proper.dirs_rise

pub loop-next-smaller : goal.loop-next-smaller
loop-next-smaller c = step-less c.args.snaps.now.dirs c.loop-next.next c.dir_after-next.result c.in-Some.dir c.in-Some.is c.dir_after-next.ensures

pub loop-next-preserved : goal.loop-next-preserved
loop-next-preserved c =
    let dirs = c.args.snaps.now.dirs in
    let dir = c.in-Some.dir in
    ap (λ (list : List InodeId). list ++ dirs_from c.dir_after-next.result dirs) c.in_ok-push.ensures.ok
    ∙ append_assoc c.loop-next.dirs (dir ∷ []) (dirs_from c.dir_after-next.result dirs)
    ∙ ap (λ (list : List InodeId). c.loop-next.dirs ++ list) (sym (dirs-next dirs c.loop-next.next c.dir_after-next.result dir c.always.ensures.proper.dirs_rise c.in-Some.is c.dir_after-next.ensures))
    ∙ c.loop-next.invariant
