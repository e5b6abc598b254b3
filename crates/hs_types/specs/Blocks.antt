-- A file as a size and a list of blocks, over a map from blocks to bytes.
use Rattle.std.specs.Prelude.{◌≡◌, ℕ, ◌+◌, ◌-◌, ◌/◌, ◌≤◌, ◌==◌, min, Bool, List, [], ◌∷◌, ◌++◌, length, take, Option, None, Some, ⊤}
use Rattle.std.specs.List.{IsDistinct}
use Rattle.std.specs.Map.{lookup}
use Rattle.std.specs.Option.{unwrap_or}
use Rattle.hs_types.specs.Limits.{block_size}
use Rattle.hs_types.specs.declared.ids.BlockId.{BlockId}

-- the least number of blocks that holds that many bytes
abbrev pub blocks_for : ℕ → ℕ
blocks_for size = (size + (block_size - 1)) / block_size

-- the two are one block
abbrev pub same_block : BlockId → BlockId → Bool
same_block a b = a.0 == b.0

-- a file's list has the least number of blocks that holds its bytes, none twice
pub record IsFile (size : ℕ) (blocks : List BlockId) : Type 0 where
  pub least : length blocks ≡ blocks_for size
  pub apart : IsDistinct same_block blocks

-- blocks with their bytes, by rising number
abbrev pub BlockMap : Type 0
BlockMap = List (BlockId × List ℕ)

-- the bytes of a block, if it is there
abbrev pub find : BlockMap → BlockId → Option (List ℕ)
find map block = lookup (λ key. same_block block key) map

-- the bytes of a block, or none
abbrev pub bytes_of : BlockMap → BlockId → List ℕ
bytes_of map block = unwrap_or (find map block) []

-- a block is there, with so many bytes at least, and no more than a block has
abbrev pub Holds : Option (List ℕ) → ℕ → Type 0
Holds None count = ⊥
Holds (Some bytes) count = (count ≤ length bytes) × (length bytes ≤ block_size)

-- each block of a file is there: all but the last are full, and the last has at least the rest
abbrev pub HoldsFile : BlockMap → ℕ → List BlockId → Type 0
HoldsFile map size [] = ⊤
HoldsFile map size (block ∷ blocks) = Holds (find map block) (min size block_size) × HoldsFile map (size - block_size) blocks

-- the bytes of these blocks, one after the other
abbrev pub joined : BlockMap → List BlockId → List ℕ
joined map [] = []
joined map (block ∷ blocks) = bytes_of map block ++ joined map blocks

-- the bytes of a file: the first of its blocks' bytes, as many as its size says
abbrev pub file_bytes : BlockMap → ℕ → List BlockId → List ℕ
file_bytes map size blocks = take size (joined map blocks)
