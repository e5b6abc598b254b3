-- A file's list of blocks, lent while it grows: taken out of its row, and put back.
use Rattle.std.specs.Prelude.{◌≡◌, ◌≢◌, ℕ, ◌+◌, ◌<◌, false, List, [], length, Option, Some, None}
use Rattle.std.specs.FinMap.Entries.{put}
use Rattle.hs_types.specs.declared.ids.InodeId.{InodeId}
use Rattle.hs_types.specs.declared.ids.BlockId.{BlockId}
use Rattle.inode_table.specs.declared.change.Change.TheVariants as changes
use Rattle.inode_table.specs.RowHistory.{RowHistory, RowState, File, Dir, Table, id_order, row_at, rows_at}
use Rattle.inode_table.specs.Tabled.{Tabled, changed, starts_in}
use Rattle.inode_table.specs.Totals.{weight}
use Rattle.inode_table.specs.Kept.{TableRoom, TableValue, told, CanChange}
use Rattle.inode_table.specs.Numbered.{row_of}
use Rattle.inode_table.specs.Ahead.{ChangeFits}
use Rattle.inode_table.specs.Whole.{AreInOrder}

-- the blocks of the current state; a directory has none
abbrev pub current_blocks : Option RowHistory → List BlockId
current_blocks None = []
current_blocks (Some (File file)) = file.current.blocks
current_blocks (Some (Dir dir)) = []

-- a file whose current state names these blocks
abbrev pub rows_with : List BlockId → RowHistory → RowHistory
rows_with blocks (File file) = File (record file { current = record file.current { blocks = blocks } })
rows_with blocks (Dir dir) = Dir dir

abbrev pub row_with : List BlockId → RowState → RowState
row_with blocks row = record row { rows = rows_with blocks row.rows }

abbrev pub put_with : InodeId → List BlockId → Option RowState → Table → Table
put_with id blocks None table = table
put_with id blocks (Some row) table = put id_order id (row_with blocks row) table

-- the table with these blocks in the current state of a file
abbrev pub with_blocks : InodeId → List BlockId → Tabled → Tabled
with_blocks id blocks t = record t { rows = put_with id blocks (row_at t.rows id) t.rows }

-- private: the list that comes back for these blocks; where there is no file, they do themselves
abbrev pub given_in : List BlockId → RowHistory → List BlockId
given_in blocks (File file) = file.current.blocks
given_in blocks (Dir dir) = blocks

abbrev pub given_for : List BlockId → Option RowState → List BlockId
given_for blocks None = blocks
given_for blocks (Some row) = given_in blocks row.rows

-- ---- room

-- the states name so many blocks less, for which there is room
pub record LendsRoom (lent : ℕ) (before after : TableRoom) : Type 0 where
  pub slots : after.slots ≡ before.slots
  pub index : after.index ≡ before.index
  pub stack : after.stack ≡ before.stack
  pub blocks : 0 < before.blocks → after.blocks ≡ before.blocks + lent

-- what the clauses of `take_blocks` say
pub record IsLent (before after : TableValue) (id : InodeId) : Type 0 where
  pub whole : told after ≡ with_blocks id [] (told before)
  pub there : (other : InodeId) → other ≢ id → row_of after.rows other ≡ row_of before.rows other
  pub room : LendsRoom (length (current_blocks (rows_at (told before).rows id))) before.room after.room

-- ---- laws

-- put back, the table is as before
abbrev pub LentBackLaw : Type 0
LentBackLaw = (t : Tabled) (id : InodeId) → AreInOrder t.rows → with_blocks id (current_blocks (rows_at t.rows id)) (with_blocks id [] t) ≡ t

-- a new body makes of the table what it would have made before, where no record is started
abbrev pub LentChangedLaw : Type 0
LentChangedLaw = (t : Tabled) (id : InodeId) (cover tick size : ℕ) (blocks : List BlockId) → starts_in cover (row_at t.rows id) ≡ false
    → changed id cover tick (changes.Body size blocks) (with_blocks id [] t) ≡ changed id cover tick (changes.Body size blocks) t

-- it can be made
abbrev pub LentCanLaw : Type 0
LentCanLaw = (t : Tabled) (id : InodeId) (size : ℕ) (blocks : List BlockId) → CanChange t.rows id (changes.Body size blocks) → CanChange (with_blocks id [] t).rows id (changes.Body size blocks)

-- blocks weigh nothing
abbrev pub LentWeightLaw : Type 0
LentWeightLaw = (t : Tabled) (id : InodeId) (blocks : List BlockId) → AreInOrder t.rows → weight (with_blocks id blocks t).rows ≡ weight t.rows

-- and there is room for it where there was
abbrev pub LentFitsLaw : Type 0
LentFitsLaw = (before after : TableValue) (id : InodeId) (cover tick size : ℕ) (blocks : List BlockId) → starts_in cover (row_at (told before).rows id) ≡ false
    → CanChange (told before).rows id (changes.Body size blocks) → IsLent before after id → ChangeFits before id cover tick (changes.Body size blocks)
    → ChangeFits after id cover tick (changes.Body size blocks)
