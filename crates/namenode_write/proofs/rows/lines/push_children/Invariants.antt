use Rattle.std.proofs.Common.{◌≡◌, ◌++◌, ◌-◌, reverse, map, drop, length}
use Rattle.namenode_write.specs.RowLines.{child_line}
use Rattle.namenode_write.proofs.rows.lines.push_children.Given as goal

-- the children from the end on stand on the stack
abbrev pub invariant-loop-child : goal.invariant-loop-child
invariant-loop-child l = l.stack.items ≡ l.initial.stack.items ++ reverse (map (child_line l.depth) (drop (length l.children - length l.yielded) l.children))
