use Rattle.std.proofs.Common.{◌≡◌, ℕ, ◌+◌, ◌≤◌, ◌++◌, drop}
use Rattle.std.specs.List.{flat_map}
use Rattle.inode_table.specs.Kept.{told}
use Rattle.change_report.specs.Found.{row_lines, all_lines}
use Rattle.change_report.specs.Looked.{AreWithin}
use Rattle.report_laws.specs.Costs.{looks_at, entries_apart}
use Rattle.change_report.proofs.moved.lines_of.Given as goal

-- the lines so far and those of the rows that are left are all; and so are the rows that are looked at
abbrev pub invariant-loop-id : goal.invariant-loop-id
invariant-loop-id l = (l.lines.items ++ flat_map (row_lines (told l.fn.table.table) l.ends) (drop l.id-index l.ids) ≡ all_lines (told l.fn.table.table) l.ends l.ids)
    × (l.table.table ≡ l.fn.table.table)
    × ((h : ℕ) → AreWithin (told l.fn.table.table) l.ends h → l.table.ticks + looks_at h (entries_apart (told l.fn.table.table) l.ends.root l.ends.from l.ends.to) (drop l.id-index l.ids) ≤ l.fn.table.ticks + looks_at h (entries_apart (told l.fn.table.table) l.ends.root l.ends.from l.ends.to) l.ids)
