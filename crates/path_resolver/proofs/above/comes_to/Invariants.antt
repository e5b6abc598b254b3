use Rattle.std.specs.Prelude.{◌≡◌, ◌+◌}
use Rattle.inode_table.specs.Kept.{told}
use Rattle.inode_table.specs.RowHistory.{shown}
use Rattle.path_resolver.specs.Above.{comes_up}
use Rattle.path_resolver.proofs.above.comes_to.Given as goal

-- what is left to go up answers the same
abbrev pub invariant-loop-above : goal.invariant-loop-above
invariant-loop-above l = comes_up (shown (told l.table).rows 0) l.above (l.left + 1) l.here ≡ comes_up (shown (told l.table).rows 0) l.above (l.table.greatest + 1) l.initial.here

abbrev pub decreases-loop-above : goal.decreases-loop-above
decreases-loop-above l = l.left
