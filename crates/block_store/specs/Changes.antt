-- What the calls of a store make of its blocks. `None` stands for a store that doesn't tell its bytes.
use Rattle.std.specs.Prelude.{◌≡◌, ℕ, ◌+◌, ◌≤◌, if◌then◌else◌, List, ◌++◌, length, take, drop, Option, None, Some, ⊤}
use Rattle.hs_types.specs.Blocks.{BlockMap, find, bytes_of, same_block}
use Rattle.hs_types.specs.declared.ids.BlockId.{BlockId}

-- both maps are told and it holds of them, or neither is told
abbrev pub Changes : Option BlockMap → Option BlockMap → (BlockMap → BlockMap → Type 0) → Type 0
Changes None None P = ⊤
Changes None (Some now) P = ⊥
Changes (Some before) None P = ⊥
Changes (Some before) (Some now) P = P before now

-- the block is there, and is at least so long
abbrev pub Reaches : Option (List ℕ) → ℕ → Type 0
Reaches None place = ⊥
Reaches (Some bytes) place = place ≤ length bytes

-- now has these bytes for the block, where `None` is no block, and what before has for each other block
abbrev pub Sets : BlockId → Option (List ℕ) → BlockMap → BlockMap → Type 0
Sets block bytes before now = (other : BlockId) → find now other ≡ (if same_block block other then bytes else find before other)

-- the bytes, with these put at a place over what was there
abbrev pub with_bytes_at : ℕ → List ℕ → List ℕ → List ℕ
with_bytes_at place bytes old = take place old ++ (bytes ++ drop (place + length bytes) old)

-- the block has got these bytes at a place, and each other block is as before
abbrev pub Writes : BlockId → ℕ → List ℕ → BlockMap → BlockMap → Type 0
Writes block place bytes before now = Sets block (Some (with_bytes_at place bytes (bytes_of before block))) before now

-- the block may have other bytes from a place to another and is no shorter, and each other block is as before
pub record Spoils (block : BlockId) (from to : ℕ) (before now : BlockMap) : Type 0 where
  pub others : Sets block (Some (bytes_of now block)) before now
  pub front : take from (bytes_of now block) ≡ take from (bytes_of before block)
  pub back : drop to (bytes_of now block) ≡ drop to (bytes_of before block)
  pub no_shorter : length (bytes_of before block) ≤ length (bytes_of now block)
