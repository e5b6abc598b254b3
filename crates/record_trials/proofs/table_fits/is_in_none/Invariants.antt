use Rattle.std.proofs.Common.{ℕ, ◌<◌, List}
use Rattle.hs_types.specs.declared.ids.InodeId.{InodeId}
use Rattle.inode_table.specs.Kept.{told}
use Rattle.inode_table.specs.Once.{IsIn}
use Rattle.inode_table.specs.RowHistory.{shown}
use Rattle.record_trials.proofs.table_fits.is_in_none.Given as goal

abbrev pub invariant-loop-number : goal.invariant-loop-number
invariant-loop-number l = (dir : InodeId) → dir.0 < l.number → (name : List ℕ) → IsIn (shown (told l.table).rows 0).entries dir name l.id → ⊥
