-- One row's change, by the histories of the two row crates.
use Rattle.std.specs.Prelude.{◌≡◌, ℕ, ◌<◌, ◌≤◌, nat_lt, if◌then◌else◌, List, Some}
use Rattle.hs_types.specs.declared.ids.InodeId.{InodeId}
use Rattle.dir_changes.specs.Entries.{Entries, id_at, without_name}
use Rattle.dir_changes.specs.History.{DirHistory, last_number, started, removed}
use Rattle.dir_changes.specs.Sound.{IsSound}
use Rattle.inode_table.specs.RowHistory.{RowHistory, Dir, entries_in, last_in, last_after, ReadsAlike}
use Rattle.inode_table.specs.Stands.{Edits}

-- what a change of one row leaves: earlier readings up to the last number, and the current state
pub record RowEdited (number tick : ℕ) (list : Entries) (old new : RowHistory) : Type 0 where
  pub reads : (s : ℕ) → 0 < s → s ≤ last_after (last_in old) number → ReadsAlike s old new
  pub last : last_in new ≡ last_after (last_in old) number
  pub edit : Edits tick old new
  pub entries : entries_in 0 new ≡ list

-- a record is started where the number is above the last
abbrev pub begun : ℕ → DirHistory → DirHistory
begun number dir = if nat_lt (last_number dir) number then started (record { 0 = number }) dir else dir

abbrev pub stamp_dir : ℕ → DirHistory → DirHistory
stamp_dir tick dir = record dir { marks = record dir.marks { stamp = tick } }

abbrev pub RemoveRowLaw : Type 0
RemoveRowLaw = (dir : DirHistory) (number tick : ℕ) (name : List ℕ) (id : InodeId) → IsSound dir → id_at name dir.children ≡ Some id
    → RowEdited number tick (without_name name dir.children) (Dir dir) (Dir (stamp_dir tick (removed name (begun number dir))))
