use Rattle.std.proofs.Common.{◌≡◌, ◌+◌, ◌++◌, reverse}
use Rattle.inode_table.specs.Kept.{told}
use Rattle.namenode_write.specs.RowLines.{walked}
use Rattle.namenode_write.proofs.rows.lines.walk.Given as goal

-- the lines so far and those of what is on the stack are all
abbrev pub invariant-loop-next : goal.invariant-loop-next
invariant-loop-next l = l.lines.items ++ walked (told l.table).rows (l.left + 1) (reverse l.stack.items) ≡ walked (told l.table).rows ((told l.table).greatest + 1) (reverse l.initial.stack.items)

abbrev pub decreases-loop-next : goal.decreases-loop-next
decreases-loop-next l = l.left
