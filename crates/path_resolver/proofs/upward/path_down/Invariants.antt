use Rattle.std.specs.Prelude.{◌≡◌, ◌+◌, ◌≤◌, length}
use Rattle.std.specs.Option.{option_copied}
use Rattle.inode_table.specs.Climb.{path_up}
use Rattle.inode_table.specs.Kept.{told}
use Rattle.inode_table.specs.Numbered.{row_of}
use Rattle.inode_table.specs.RowHistory.{shown}
use Rattle.path_resolver.specs.Rising.{way_down}
use Rattle.path_resolver.proofs.Circles.{AreSeen}
use Rattle.path_resolver.proofs.Climbs.{with_names}
use Rattle.report_laws.specs.Chains.{Climbs}
use Rattle.path_resolver.proofs.upward.path_down.Given as goal

-- what is left to go up, with the names so far behind it, is the whole path; the rows so far lead here, and one more was looked at
abbrev pub invariant-loop-row : goal.invariant-loop-row
invariant-loop-row l = (with_names l.names.items (path_up (shown (told l.fn.table.table).rows l.s.0) l.top (l.left + 1) l.here) ≡ way_down (told l.fn.table.table) l.s.0 l.top l.fn.id)
    × (AreSeen (shown (told l.fn.table.table).rows l.s.0) l.top l.seen.items l.here)
    × (option_copied l.row ≡ row_of l.fn.table.table.rows l.here)
    × (l.table.table ≡ l.fn.table.table)
    × (l.table.ticks ≤ l.fn.table.ticks + (1 + length l.seen.items))
    × Climbs (shown (told l.fn.table.table).rows l.s.0) l.fn.id l.seen.items l.here

abbrev pub decreases-loop-row : goal.decreases-loop-row
decreases-loop-row l = l.left
