use Rattle.std.specs.Prelude.{◌≡◌, ◌+◌}
use Rattle.std.specs.List.{list_any}
use Rattle.hs_types.specs.declared.ids.InodeId.{InodeId}
use Rattle.inode_table.specs.Kept.{told}
use Rattle.inode_table.specs.RowHistory.{shown}
use Rattle.path_resolver.specs.Above.{comes_up, is_sought, any_from, left_from}
use Rattle.path_resolver.proofs.above.holds.Given as goal

-- what is left answers the same
abbrev pub invariant-loop-next : goal.invariant-loop-next
invariant-loop-next l = list_any (λ d. is_sought l.sought l.snaps l.above d.0 (comes_up (shown (told l.table).rows 0) l.above (l.table.greatest + 1) d.0)) l.snaps.dirs
    ≡ any_from (λ (dir : InodeId). is_sought l.sought l.snaps l.above dir (comes_up (shown (told l.table).rows 0) l.above (l.table.greatest + 1) dir)) l.next l.snaps.dirs

abbrev pub decreases-loop-next : goal.decreases-loop-next
decreases-loop-next l = left_from l.next l.snaps.dirs
