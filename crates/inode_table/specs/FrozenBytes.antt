-- The bytes of a saved state, while blocks are written behind them.
use Rattle.std.specs.Prelude.{◌≡◌, ℕ, ◌-◌, min, List, [], ◌∷◌, take, ⊤}
use Rattle.hs_types.specs.declared.ids.BlockId.{BlockId}
use Rattle.hs_types.specs.Limits.{block_size}
use Rattle.hs_types.specs.Blocks.{BlockMap, HoldsFile, bytes_of, file_bytes}

-- each block keeps as many of its first bytes as the file has in it
abbrev pub KeepsFronts : BlockMap → BlockMap → ℕ → List BlockId → Type 0
KeepsFronts before now size [] = ⊤
KeepsFronts before now size (block ∷ blocks) = (take (min size block_size) (bytes_of now block) ≡ take (min size block_size) (bytes_of before block)) × KeepsFronts before now (size - block_size) blocks

abbrev pub FrozenBytesLaw : Type 0
FrozenBytesLaw = (before now : BlockMap) (size : ℕ) (blocks : List BlockId) → HoldsFile before size blocks → HoldsFile now size blocks → KeepsFronts before now size blocks → file_bytes now size blocks ≡ file_bytes before size blocks
