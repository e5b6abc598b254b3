-- Blocks before and after each step of a table, and of its store.
use Rattle.std.specs.Prelude.{◌≡◌, ℕ, ◌+◌, ◌≤◌, List, [], ◌∷◌, ◌++◌, length, Option, Some, None, ⊤}
use Rattle.hs_types.specs.Blocks.{BlockMap, IsFile, find}
use Rattle.hs_types.specs.declared.ids.BlockId.{BlockId}
use Rattle.hs_types.specs.declared.ids.InodeId.{InodeId}
use Rattle.hs_types.specs.declared.name.Spot.{Spot}
use Rattle.block_store.specs.Changes.{Changes, Sets}
use Rattle.block_contents.specs.Contents.{Appended, KeepsFile, MakesOnly, AreMade, Adds}
use Rattle.file_changes.specs.History.{FileHistory}
use Rattle.inode_table.specs.declared.change.Change.{Change}
use Rattle.inode_table.specs.declared.change.Change.TheVariants as changes
use Rattle.inode_table.specs.declared.freed.Freed.{Freed}
use Rattle.inode_table.specs.RowHistory.{RowHistory, File, Dir, Table, row_at, rows_at}
use Rattle.inode_table.specs.Blocked.{AreBlocks, HoldsState}
use Rattle.inode_table.specs.Tabled.{Tabled, changed, inserted, marked_row}
use Rattle.inode_table.specs.Merged.{merged}
use Rattle.inode_table.specs.Released.{Releasing}
use Rattle.inode_table.specs.Start.{first_table}

-- no other body
abbrev pub IsBodiless : Change → Type 0
IsBodiless (changes.Mode mode) = Unit {0}
IsBodiless (changes.Body size blocks) = ⊥
IsBodiless (changes.Add name id) = Unit {0}
IsBodiless (changes.Remove name) = Unit {0}
IsBodiless (changes.Move spot) = Unit {0}

-- a new directory, or a new file without bytes
abbrev pub IsEmptyRows : RowHistory → Type 0
IsEmptyRows (File file) = (file.records ≡ []) × (file.current.size ≡ 0) × (file.current.blocks ≡ [])
IsEmptyRows (Dir dir) = Unit {0}

-- no block is there
abbrev pub HasNone : Option BlockMap → Type 0
HasNone None = ⊤
HasNone (Some store) = (block : BlockId) → find store block ≡ None

-- ---- steps of the table

-- another mode, spot or entry
abbrev pub QuietBlocksLaw : Type 0
QuietBlocksLaw = (t : Tabled) (id : InodeId) (cover tick : ℕ) (what : Change) (store : Option BlockMap) (made : ℕ) (waiting : List BlockId) → IsBodiless what
    → AreBlocks t.rows store made waiting → AreBlocks (changed id cover tick what t).rows store made waiting

-- a file's list gets blocks at its end, of those that waited last; its size doesn't fall
abbrev pub BodyBlocksLaw : Type 0
BodyBlocksLaw = (t : Tabled) (id : InodeId) (cover tick size : ℕ) (new : List BlockId) (file : FileHistory) (store : Option BlockMap) (made : ℕ) (waiting : List BlockId) → rows_at t.rows id ≡ Some (File file)
    → IsFile size (file.current.blocks ++ new) → HoldsState store (record file.current { size = size; blocks = file.current.blocks ++ new }) → file.current.size ≤ size
    → AreBlocks t.rows store made (waiting ++ new) → AreBlocks (changed id cover tick (changes.Body size (file.current.blocks ++ new)) t).rows store made waiting

-- a new row
abbrev pub InsertBlocksLaw : Type 0
InsertBlocksLaw = (t : Tabled) (id : InodeId) (rows : RowHistory) (since : ℕ) (store : Option BlockMap) (made : ℕ) (waiting : List BlockId) → row_at t.rows id ≡ None → IsEmptyRows rows
    → AreBlocks t.rows store made waiting → AreBlocks (inserted id rows since t).rows store made waiting

-- other marks
abbrev pub MarkBlocksLaw : Type 0
MarkBlocksLaw = (t : Tabled) (id : InodeId) (since carry : ℕ) (store : Option BlockMap) (made : ℕ) (waiting : List BlockId)
    → AreBlocks t.rows store made waiting → AreBlocks (marked_row id since carry t).rows store made waiting

-- a record goes: the blocks that it alone named wait in the table
abbrev pub MergeBlocksLaw : Type 0
MergeBlocksLaw = (t : Tabled) (id : InodeId) (i : ℕ) (store : Option BlockMap) (made : ℕ) (waiting : List BlockId)
    → AreBlocks t.rows store made (waiting ++ t.waiting) → AreBlocks (merged id i t).rows store made (waiting ++ (merged id i t).waiting)

-- rows go: what waited in the table, and their blocks, are handed out and wait outside
abbrev pub ReleaseBlocksLaw : Type 0
ReleaseBlocksLaw = (before after : Tabled) (freed : Freed) (store : Option BlockMap) (made : ℕ) (waiting : List BlockId) → Releasing before freed after
    → AreBlocks before.rows store made (waiting ++ before.waiting) → AreBlocks after.rows store made (waiting ++ freed.blocks)

-- the first table, over a store without blocks
abbrev pub StartBlocksLaw : Type 0
StartBlocksLaw = (spot : Spot) (store : Option BlockMap) (made : ℕ) → HasNone store → AreBlocks (first_table spot).rows store made []

-- ---- steps of the store

-- a file is written behind its end, and perhaps a block was made: it waits until the file's list has it
abbrev pub GrowBlocksLaw : Type 0
GrowBlocksLaw = (table : Table) (id : InodeId) (file : FileHistory) (store now : Option BlockMap) (low high : ℕ) (waiting new : List BlockId) → rows_at table id ≡ Some (File file)
    → Changes store now (KeepsFile file.current.size file.current.blocks) → Changes store now (MakesOnly low high) → AreMade low high new → AreBlocks table store low waiting → AreBlocks table now high (waiting ++ new)

-- what an append promises, which gave a file this list
pub record Appends (file : FileHistory) (bytes : List ℕ) (blocks : List BlockId) (store now : Option BlockMap) (low high : ℕ) : Type 0 where
  pub is_file : IsFile (file.current.size + length bytes) blocks
  pub appended : Changes store now (Appended file.current.size file.current.blocks blocks bytes)
  pub kept : Changes store now (KeepsFile file.current.size file.current.blocks)
  pub only : Changes store now (MakesOnly low high)
  pub made : Adds low high file.current.blocks blocks

-- an append, and the new list in the row
abbrev pub AppendBlocksLaw : Type 0
AppendBlocksLaw = (t : Tabled) (id : InodeId) (cover tick : ℕ) (file : FileHistory) (bytes : List ℕ) (blocks : List BlockId) (store now : Option BlockMap) (low high : ℕ) (waiting : List BlockId) → rows_at t.rows id ≡ Some (File file)
    → Appends file bytes blocks store now low high → AreBlocks t.rows store low waiting → AreBlocks (changed id cover tick (changes.Body (file.current.size + length bytes) blocks) t).rows now high waiting

-- a block that waits is freed
abbrev pub FreeBlocksLaw : Type 0
FreeBlocksLaw = (table : Table) (store now : Option BlockMap) (made : ℕ) (front back : List BlockId) (block : BlockId)
    → Changes store now (Sets block None) → AreBlocks table store made (front ++ block ∷ back) → AreBlocks table now made (front ++ back)
