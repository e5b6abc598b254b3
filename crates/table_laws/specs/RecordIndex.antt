-- How full the index is, and what it finds.
use Rattle.std.specs.Prelude.{◌≡◌, ℕ, ◌+◌, ◌*◌, ◌-◌, ◌<◌, ◌≤◌, List, length, Some}
use Rattle.std.specs.List.{Contains}
use Rattle.hs_types.specs.declared.ids.InodeId.{InodeId}
use Rattle.hs_plain.specs.declared.state.Member.{Member}
use Rattle.hs_plain.specs.declared.state.FileBlocks.{FileBlocks}
use Rattle.inode_table.specs.Indexed.{Index, noted, made_between}
use Rattle.inode_table.specs.RowHistory.{RowHistory, Table, rows_at}
use Rattle.inode_table.specs.Whole.{AreRecords, IsFilled, numbers_in}

-- an entry more at this tick
abbrev pub NotedLaw : Type 0
NotedLaw = (index : Index) (tick used : ℕ) (id : InodeId) → 0 < tick → used < 3 → IsFilled index tick used → IsFilled (noted tick id index) tick (used + 1)

-- the next call begins
abbrev pub NextTickLaw : Type 0
NextTickLaw = (index : Index) (tick used : ℕ) → IsFilled index tick used → IsFilled index (tick + 1) 0

-- between two ticks stand at most three ids a tick
abbrev pub BetweenLaw : Type 0
BetweenLaw = (table : Table) (index : Index) (tick used low high : ℕ) → IsFilled index tick used → low ≤ high → length (made_between low high table index) ≤ 3 * (high - low)

-- a row with a record whose interval may hold the snapshot is found from the snapshot's tick on
abbrev pub MergedFoundLaw : Type 0
MergedFoundLaw = (table : Table) (index : Index) (members : List (Member FileBlocks)) (issued tick used : ℕ) (m : Member FileBlocks) (id : InodeId) (rows : RowHistory) (number : ℕ)
    → AreRecords table index members issued → IsFilled index tick used → Contains members m → rows_at table id ≡ Some rows → Contains (numbers_in rows) number → m.snapshot.0 ≤ number
    → Contains (made_between m.tick tick table index) id
