use Rattle.std.proofs.Common.{◌+◌, Bool, sym, ap, ◌∙◌}
use Rattle.hs_types.specs.declared.ids.InodeId.{InodeId}
use Rattle.inode_table.specs.Kept.{TableValue, told}
use Rattle.inode_table.specs.RowHistory.{shown}
use Rattle.snapshot_manager.specs.Snapshots.{Snapshots}
use Rattle.path_resolver.specs.Above.{comes_up, is_sought, any_from}
use Rattle.path_resolver.specs.declared.above.Sought.{Sought}
use Rattle.path_resolver.proofs.Over.{first-of, step-less, step-same}
use Rattle.path_resolver.proofs.above.holds.Goals as goal

abbrev test : TableValue → Snapshots → Sought → InodeId → InodeId → Bool
test table snaps sought above dir = is_sought sought snaps above dir (comes_up (shown (told table).rows 0) above (table.greatest + 1) dir)

pub loop-next-init : goal.loop-next-init
loop-next-init c =
    let t : InodeId → Bool = test c.args.table.now c.args.snaps.now c.args.sought c.args.above in
    first-of t c.args.snaps.now.dirs c.always.ensures.proper.dirs_rise ∙ ap (λ o. any_from t o c.args.snaps.now.dirs) (sym c.dir_at-next.ensures)

pub loop-next-smaller : goal.loop-next-smaller
loop-next-smaller c = step-less c.args.snaps.now.dirs c.loop-next.next c.dir_after-next.result c.in-Some.dir c.in-Some.is c.dir_after-next.ensures

pub loop-next-preserved : goal.loop-next-preserved
loop-next-preserved c =
    let t : InodeId → Bool = test c.args.table.now c.args.snaps.now c.args.sought c.args.above in
    c.loop-next.invariant ∙ step-same t c.args.snaps.now.dirs c.loop-next.next c.dir_after-next.result c.in-Some.dir c.always.ensures.proper.dirs_rise c.in-Some.is (sym c.is_one.ensures ∙ c.if-is_one.false) c.dir_after-next.ensures
