use Rattle.std.specs.Prelude.{◌≡◌, ◌+◌, is_some}
use Rattle.inode_table.specs.Climb.{path_up}
use Rattle.inode_table.specs.Kept.{told}
use Rattle.inode_table.specs.RowHistory.{shown}
use Rattle.path_resolver.specs.Rising.{way_down}
use Rattle.path_resolver.proofs.upward.comes_up.Given as goal

-- what is left to go up answers the same
abbrev pub invariant-loop-s : goal.invariant-loop-s
invariant-loop-s l = is_some (path_up (shown (told l.table).rows l.s.0) l.top (l.left + 1) l.here) ≡ is_some (way_down (told l.table) l.s.0 l.top l.initial.here)

abbrev pub decreases-loop-s : goal.decreases-loop-s
decreases-loop-s l = l.left
