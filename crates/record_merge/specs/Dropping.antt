-- Which record of a row has lost the last live snapshot of its interval, and what the deletion of a snapshot frees.
use Rattle.std.specs.Prelude.{◌≡◌, ℕ, ◌<◌, Bool, true, false, List, [], ◌∷◌, length, Option, Some, None}
use Rattle.std.specs.List.{Contains, IsDistinct, list_any}
use Rattle.hs_types.specs.Blocks.{same_block}
use Rattle.hs_types.specs.declared.ids.BlockId.{BlockId}
use Rattle.hs_types.specs.declared.ids.InodeId.{InodeId}
use Rattle.snapshot_manager.specs.Snapshots.{Snapshots, is_between, live}
use Rattle.inode_table.specs.declared.row.Row.{Row}
use Rattle.inode_table.specs.Blocked.{NamesBlock}
use Rattle.inode_table.specs.Numbered.{history_of}
use Rattle.inode_table.specs.Records.{before_at, at_or}
use Rattle.inode_table.specs.RowHistory.{Table}
use Rattle.inode_table.specs.Whole.{numbers_in}

-- ---- ids, each once

-- each id is above a number, and below those that follow
abbrev pub RiseAbove : ℕ → List InodeId → Type 0
RiseAbove low [] = Unit {0}
RiseAbove low (id ∷ ids) = (low < id.0) × RiseAbove id.0 ids

-- each id is below those that follow
abbrev pub AreRising : List InodeId → Type 0
AreRising [] = Unit {0}
AreRising (id ∷ ids) = RiseAbove id.0 ids

-- ---- records

-- whether a live id is above one number and at most another
abbrev pub lives : Snapshots → ℕ → ℕ → Bool
lives snaps low high = list_any (λ p. is_between (record { 0 = low }) (record { 0 = high }) p.1.id) (live snaps)

-- record i is there, and its interval has no live id
pub record IsLost (snaps : Snapshots) (ns : List ℕ) (i : ℕ) : Type 0 where
  pub within : i < length ns
  pub none : lives snaps (before_at 0 ns i) (at_or ns i) ≡ false

-- each record's interval has a live id
abbrev pub AllLive : Snapshots → List ℕ → Type 0
AllLive snaps ns = (i : ℕ) → i < length ns → lives snaps (before_at 0 ns i) (at_or ns i) ≡ true

-- the same of a row that may be there
abbrev pub IsLostOf : Snapshots → Option Row → ℕ → Type 0
IsLostOf snaps None i = ⊥
IsLostOf snaps (Some row) i = IsLost snaps (numbers_in (history_of row.rows)) i

abbrev pub AllLiveOf : Snapshots → Option Row → Type 0
AllLiveOf snaps None = Unit {0}
AllLiveOf snaps (Some row) = AllLive snaps (numbers_in (history_of row.rows))

-- ---- blocks

-- a row's state names the block
abbrev pub IsNamed : Table → BlockId → Type 0
IsNamed table block = (id : InodeId) × NamesBlock table id block

-- these blocks are, each once, those that a state named before and no state names after
pub record FreesExactly (before after : Table) (blocks : List BlockId) : Type 0 where
  pub once : IsDistinct same_block blocks
  pub named_before : (block : BlockId) → Contains blocks block → IsNamed before block
  pub named_no_more : (block : BlockId) → Contains blocks block → IsNamed after block → ⊥
  pub all : (block : BlockId) → IsNamed before block → (IsNamed after block → ⊥) → Contains blocks block
