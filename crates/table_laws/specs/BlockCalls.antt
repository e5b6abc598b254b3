-- Blocks before and after the steps of one call.
use Rattle.std.specs.Prelude.{◌≡◌, ℕ, ◌+◌, List, [], ◌++◌, length, Option, Some, None}
use Rattle.hs_types.specs.Blocks.{BlockMap}
use Rattle.hs_types.specs.declared.ids.BlockId.{BlockId}
use Rattle.hs_types.specs.declared.ids.InodeId.{InodeId}
use Rattle.file_changes.specs.History.{FileHistory}
use Rattle.inode_table.specs.declared.change.Change.{Change}
use Rattle.inode_table.specs.declared.change.Change.TheVariants as changes
use Rattle.inode_table.specs.declared.freed.Freed.{Freed}
use Rattle.inode_table.specs.RowHistory.{RowHistory, File, row_at, rows_at}
use Rattle.inode_table.specs.Blocked.{AreBlocks}
use Rattle.inode_table.specs.Tabled.{Tabled, changed}
use Rattle.inode_table.specs.Released.{Releasing}
use Rattle.table_laws.specs.Blocking.{IsBodiless, IsEmptyRows, Appends}
use Rattle.table_laws.specs.NameCalls.{row_made, Moving, entry_moved, MergedBy}

-- the table keeps no block, and each block is of one row, or waits
pub record HasBlocks (t : Tabled) (store : Option BlockMap) (made : ℕ) (waiting : List BlockId) : Type 0 where
  pub handed_out : t.waiting ≡ []
  pub blocks : AreBlocks t.rows store made waiting

-- another mode
abbrev pub TouchBlocksLaw : Type 0
TouchBlocksLaw = (store : Option BlockMap) (made : ℕ) (waiting : List BlockId) (t : Tabled) (id : InodeId) (cover tick : ℕ) (what : Change) → IsBodiless what
    → HasBlocks t store made waiting → HasBlocks (changed id cover tick what t) store made waiting

-- bytes at the end of a file
abbrev pub AppendedBlocksLaw : Type 0
AppendedBlocksLaw = (store now : Option BlockMap) (low high : ℕ) (waiting : List BlockId) (t : Tabled) (id : InodeId) (cover tick : ℕ) (file : FileHistory) (bytes : List ℕ) (blocks : List BlockId) → rows_at t.rows id ≡ Some (File file)
    → Appends file bytes blocks store now low high → HasBlocks t store low waiting → HasBlocks (changed id cover tick (changes.Body (file.current.size + length bytes) blocks) t) now high waiting

-- a new directory or file
abbrev pub MakeBlocksLaw : Type 0
MakeBlocksLaw = (store : Option BlockMap) (made : ℕ) (waiting : List BlockId) (t : Tabled) (id : InodeId) (rows : RowHistory) (since : ℕ) (dir : InodeId) (cover tick : ℕ) (name : List ℕ) → row_at t.rows id ≡ None → IsEmptyRows rows
    → HasBlocks t store made waiting → HasBlocks (row_made id rows since dir cover tick name t) store made waiting

-- a rename
abbrev pub RenameBlocksLaw : Type 0
RenameBlocksLaw = (store : Option BlockMap) (made : ℕ) (waiting : List BlockId) (t : Tabled) (m : Moving) → HasBlocks t store made waiting → HasBlocks (entry_moved m t) store made waiting

-- a deletion: the blocks of what goes wait
abbrev pub DeleteBlocksLaw : Type 0
DeleteBlocksLaw = (store : Option BlockMap) (made : ℕ) (waiting : List BlockId) (t after : Tabled) (freed : Freed) (dir : InodeId) (cover tick : ℕ) (name : List ℕ)
    → Releasing (changed dir cover tick (changes.Remove name) t) freed after → HasBlocks t store made waiting → HasBlocks after store made (waiting ++ freed.blocks)

-- a new file in place of one, whose row goes last
abbrev pub ReplaceBlocksLaw : Type 0
ReplaceBlocksLaw = (store : Option BlockMap) (made : ℕ) (waiting : List BlockId) (t after : Tabled) (freed : Freed) (id : InodeId) (rows : RowHistory) (since : ℕ) (dir : InodeId) (remove_cover add_cover tick : ℕ) (name : List ℕ)
    → row_at t.rows id ≡ None → IsEmptyRows rows → Releasing (row_made id rows since dir add_cover tick name (changed dir remove_cover tick (changes.Remove name) t)) freed after
    → HasBlocks t store made waiting → HasBlocks after store made (waiting ++ freed.blocks)

-- a deleted snapshot: so do the blocks that its records alone named
abbrev pub DropBlocksLaw : Type 0
DropBlocksLaw = (store : Option BlockMap) (made : ℕ) (waiting : List BlockId) (t middle after : Tabled) (records : List (InodeId × ℕ)) (freed : Freed)
    → MergedBy t records middle → Releasing middle freed after → HasBlocks t store made waiting → HasBlocks after store made (waiting ++ freed.blocks)
