-- What an append makes of a file's blocks.
use Rattle.std.specs.Prelude.{◌≡◌, ℕ, ◌+◌, ◌-◌, ◌*◌, ◌<◌, ◌≤◌, ◌==◌, nat_lt, Bool, true, false, ◌&&◌, ◌||◌, List, [], ◌∷◌, ◌++◌, length, take, is_some, IsSome}
use Rattle.std.specs.List.{AllByRecursion}
use Rattle.hs_types.specs.Blocks.{BlockMap, HoldsFile, file_bytes, find, bytes_of, same_block}
use Rattle.hs_types.specs.Limits.{block_size}
use Rattle.hs_types.specs.declared.ids.BlockId.{BlockId}

-- each block of the list has at most this number
abbrev pub AtMost : ℕ → List BlockId → Type 0
AtMost greatest blocks = AllByRecursion (λ block. block.0 ≤ greatest) blocks

-- this is the last block of the list
abbrev pub is_last : List BlockId → BlockId → Bool
is_last [] block = false
is_last (last ∷ []) block = same_block last block
is_last (first ∷ next ∷ more) block = is_last (next ∷ more) block

-- how many bytes stand before the last block of so many
abbrev pub before_last : ℕ → ℕ
before_last count = (count - 1) * block_size

-- a file with its new list has its old bytes, and then these
pub record Appended (size : ℕ) (old new : List BlockId) (bytes : List ℕ) (before now : BlockMap) : Type 0 where
  pub holds : HoldsFile now (size + length bytes) new
  pub contents : file_bytes now (size + length bytes) new ≡ file_bytes before size old ++ bytes

-- the file is as before, its last block up to its end; each other block that was there is as before
pub record KeepsFile (size : ℕ) (blocks : List BlockId) (before now : BlockMap) : Type 0 where
  pub holds : HoldsFile now size blocks
  pub contents : file_bytes now size blocks ≡ file_bytes before size blocks
  pub there : (block : BlockId) → is_last blocks block ≡ true → IsSome (find now block)
  pub last : (block : BlockId) → is_last blocks block ≡ true
      → take (size - before_last (length blocks)) (bytes_of now block) ≡ take (size - before_last (length blocks)) (bytes_of before block)
  pub others : (block : BlockId) → is_last blocks block ≡ false → IsSome (find before block) → find now block ≡ find before block

-- each block that was there is as before
abbrev pub KeepsAll : BlockMap → BlockMap → Type 0
KeepsAll before now = (block : BlockId) → IsSome (find before block) → find now block ≡ find before block

-- the blocks that were made while the greatest number went from low to high: none, or one
abbrev pub AreMade : ℕ → ℕ → List BlockId → Type 0
AreMade low high [] = high ≡ low
AreMade low high (block ∷ []) = (low < block.0) × (high ≡ block.0)
AreMade low high (block ∷ next ∷ more) = ⊥

-- the list has got the blocks that were made, at its end
abbrev pub Adds : ℕ → ℕ → List BlockId → List BlockId → Type 0
Adds low high before now = (made : List BlockId) × (now ≡ before ++ made) × AreMade low high made

-- the same blocks are there
abbrev pub SameBlocks : BlockMap → BlockMap → Type 0
SameBlocks before now = (block : BlockId) → is_some (find now block) ≡ is_some (find before block)

-- the blocks that are there are those that were, and the one that was made, if the greatest number rose from low to high
abbrev pub MakesOnly : ℕ → ℕ → BlockMap → BlockMap → Type 0
MakesOnly low high before now = (block : BlockId) → is_some (find now block) ≡ (is_some (find before block) || (nat_lt low block.0 && block.0 == high))
