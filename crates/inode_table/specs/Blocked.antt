-- The blocks of a table's files: each is of one row, and is named by a state or waits to be freed.
use Rattle.std.specs.Prelude.{◌≡◌, ◌↔◌, ◌⊎◌, ℕ, ◌-◌, ◌≤◌, min, true, if◌then◌else◌, List, [], ◌∷◌, map, is_some, Option, Some, None, ⊤}
use Rattle.std.specs.List.{Contains, IsDistinct}
use Rattle.hs_types.specs.Limits.{block_size}
use Rattle.hs_types.specs.Blocks.{IsFile, BlockMap, HoldsFile, find, same_block}
use Rattle.hs_types.specs.declared.ids.InodeId.{InodeId}
use Rattle.hs_types.specs.declared.ids.BlockId.{BlockId}
use Rattle.file_changes.specs.History.{FileHistory}
use Rattle.file_changes.specs.declared.state.FileState.{FileState}
use Rattle.file_changes.specs.declared.state.FileRecord.{FileRecord}
use Rattle.inode_table.specs.RowHistory.{Table, File, rows_at}

-- the states of a file: the current one, and those that records saved
abbrev pub states_of : FileHistory → List FileState
states_of file = file.current ∷ map (λ r. r.state) file.records

-- a row has a state
pub record HasState (table : Table) (id : InodeId) (state : FileState) : Type 0 where
  pub file : FileHistory
  pub row : rows_at table id ≡ Some (File file)
  pub is : Contains (states_of file) state

-- a state of a row names a block
pub record NamesBlock (table : Table) (id : InodeId) (block : BlockId) : Type 0 where
  pub state : FileState
  pub has : HasState table id state
  pub named : Contains state.blocks block

-- a block is named by a state, or waits to be freed
abbrev pub IsNeeded : Table → List BlockId → BlockId → Type 0
IsNeeded table waiting block = Contains waiting block ⊎ ((id : InodeId) × NamesBlock table id block)

-- how many of a file's bytes stand in a block
abbrev pub bytes_within : ℕ → List BlockId → BlockId → ℕ
bytes_within size [] block = 0
bytes_within size (other ∷ blocks) block = if same_block other block then min size block_size else bytes_within (size - block_size) blocks block

-- where the store tells its blocks, it has those of the state, full but for the last
abbrev pub HoldsState : Option BlockMap → FileState → Type 0
HoldsState None state = ⊤
HoldsState (Some store) state = HoldsFile store state.size state.blocks

-- where the store tells its blocks, they are the needed ones
abbrev pub HasNeeded : Option BlockMap → (BlockId → Type 0) → Type 0
HasNeeded None Needed = ⊤
HasNeeded (Some store) Needed = (block : BlockId) → (is_some (find store block) ≡ true) ↔ Needed block

-- `made` is the greatest number that the store has given, `waiting` the blocks that wait to be freed
pub record AreBlocks (table : Table) (store : Option BlockMap) (made : ℕ) (waiting : List BlockId) : Type 0 where
  -- each state's list is a file's
  pub files : (id : InodeId) (state : FileState) → HasState table id state → IsFile state.size state.blocks
  pub held : (id : InodeId) (state : FileState) → HasState table id state → HoldsState store state
  -- different rows share no block
  pub apart : (a b : InodeId) (block : BlockId) → NamesBlock table a block → NamesBlock table b block → a ≡ b
  -- in a block that a saved state and the current one share, the saved one has no more bytes
  pub no_more : (id : InodeId) (file : FileHistory) (saved : FileRecord) (block : BlockId) → rows_at table id ≡ Some (File file) → Contains file.records saved
      → Contains saved.state.blocks block → Contains file.current.blocks block → bytes_within saved.state.size saved.state.blocks block ≤ bytes_within file.current.size file.current.blocks block
  -- a block that waits does so once, and no state names it
  pub once : IsDistinct same_block waiting
  pub let_go : (id : InodeId) (block : BlockId) → Contains waiting block → NamesBlock table id block → ⊥
  -- the store has what is needed, and no more
  pub stored : HasNeeded store (IsNeeded table waiting)
  pub numbers : (block : BlockId) → IsNeeded table waiting block → block.0 ≤ made
