use Rattle.std.proofs.Common.{◌≡◌, ◌+◌, drop}
use Rattle.dir_changes.specs.Counts.{list_entries, created_in, deleted_in}
use Rattle.inode_table.proofs.counting.entries_of_dir.Given as goal

abbrev pub invariant-loop-i : goal.invariant-loop-i
invariant-loop-i l = l.entries + (created_in (drop l.i l.dir.history.records) + deleted_in (drop l.i l.dir.history.records)) ≡ list_entries l.dir.history
