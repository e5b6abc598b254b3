use Rattle.std.proofs.Common.{◌≡◌, ℕ, ◌+◌, ◌*◌, ◌≤◌, ◌++◌, length, drop}
use Rattle.std.specs.List.{filter_map}
use Rattle.dir_changes.specs.History.{children_at}
use Rattle.inode_table.specs.Kept.{told}
use Rattle.inode_table.specs.RowHistory.{shown}
use Rattle.change_report.specs.Found.{entry_line}
use Rattle.report_laws.specs.Chains.{HasChainsWithin}
use Rattle.report_laws.specs.Listed.{only_in}
use Rattle.change_report.proofs.listed.push_entries.Given as goal

-- the lines so far and those of the entries that are left are all; and so are the rows that are looked at
abbrev pub invariant-loop-child : goal.invariant-loop-child
invariant-loop-child l = (l.lines.items ++ filter_map (entry_line (told l.fn.table.table) l.side l.path l.dir.history) (drop l.child-index l.children)
    ≡ l.fn.lines.items ++ filter_map (entry_line (told l.fn.table.table) l.side l.path l.dir.history) l.children) × (l.table.table ≡ l.fn.table.table)
    × ((h : ℕ) → HasChainsWithin (shown (told l.fn.table.table).rows l.side.other.0) h
    → l.table.ticks + length (only_in (drop l.child-index l.children) (children_at l.side.other.0 l.dir.history)) * (1 + (1 + h)) ≤ l.fn.table.ticks + length (only_in l.children (children_at l.side.other.0 l.dir.history)) * (1 + (1 + h)))
