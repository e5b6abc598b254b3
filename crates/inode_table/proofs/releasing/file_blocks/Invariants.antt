use Rattle.std.proofs.Common.{◌≡◌, ◌+◌, drop, length}
use Rattle.inode_table.specs.Totals.{blocks_saved}
use Rattle.inode_table.proofs.releasing.file_blocks.Given as goal

abbrev pub invariant-loop-i : goal.invariant-loop-i
invariant-loop-i l = l.blocks + blocks_saved (drop l.i l.file.history.records) ≡ length l.file.history.current.blocks + blocks_saved l.file.history.records
