-- What the stores in memory hold.
use Rattle.std.specs.Prelude.{◌≡◌, ℕ, ◌<◌, List, None}
use Rattle.hs_types.specs.Blocks.{BlockMap, find}
use Rattle.hs_types.specs.declared.ids.BlockId.{BlockId}

-- the blocks, and the greatest number that was given
pub record Kept : Type 0 where
  pub blocks : BlockMap
  pub greatest : ℕ

-- a store that may fail: also the numbers of the calls that fail, and the calls and the faults so far
pub record Failing : Type 0 where
  pub blocks : BlockMap
  pub greatest : ℕ
  pub fails : List ℕ
  pub calls : ℕ
  pub faults : ℕ

-- no block has a greater number than the greatest that was given
abbrev pub NoneAbove : BlockMap → ℕ → Type 0
NoneAbove blocks greatest = (block : BlockId) → greatest < block.0 → find blocks block ≡ None
