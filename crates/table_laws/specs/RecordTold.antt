-- What the calls of rows and of snapshots tell of records and of live ids.
use Rattle.std.specs.Prelude.{◌≡◌, ℕ, suc, ◌<◌, ◌≤◌, List, length, Option, Some, None, slice_get}
use Rattle.std.specs.List.{list_any}
use Rattle.std.specs.Option.{option_map}
use Rattle.hs_types.specs.declared.ids.SnapId.{SnapId}
use Rattle.hs_plain.specs.declared.state.Member.{Member}
use Rattle.hs_plain.specs.declared.state.FileBlocks.{FileBlocks}
use Rattle.snapshot_manager.specs.Snapshots.{Snapshots, IsProper, is_between, live}
use Rattle.inode_table.specs.Joined.{AreTold}
use Rattle.inode_table.specs.Records.{before_at, at_or}
use Rattle.inode_table.specs.RowHistory.{RowHistory, File, Dir, is_live_between}
use Rattle.inode_table.specs.Totals.{records_in}
use Rattle.inode_table.specs.Whole.{numbers_in}

-- the number of record i of a row, as its rows tell it
abbrev pub number_told : RowHistory → ℕ → Option SnapId
number_told (File file) i = option_map (λ r. r.number) (slice_get file.records i)
number_told (Dir dir) i = option_map (λ r. r.number) (slice_get dir.records i)

-- it ends the interval of record i, and the next one's begins above it
pub record TellsNumber (rows : RowHistory) (i : ℕ) (number : SnapId) : Type 0 where
  pub within : i < length (numbers_in rows)
  pub at : at_or (numbers_in rows) i ≡ number.0
  pub before_next : before_at 0 (numbers_in rows) (suc i) ≡ number.0

-- a number that is told is that of a record
abbrev pub NumberToldLaw : Type 0
NumberToldLaw = (rows : RowHistory) (i : ℕ) (number : SnapId) → number_told rows i ≡ Some number → TellsNumber rows i number

-- where none is told there is no record any more
abbrev pub NoNumberToldLaw : Type 0
NoNumberToldLaw = (rows : RowHistory) (i : ℕ) → number_told rows i ≡ None → length (numbers_in rows) ≤ i

-- how many there are
abbrev pub NumbersCountLaw : Type 0
NumbersCountLaw = (rows : RowHistory) → length (numbers_in rows) ≡ records_in rows

-- whether there is a live id above one and at most another
abbrev pub LiveToldLaw : Type 0
LiveToldLaw = (members : List (Member FileBlocks)) (snaps : Snapshots) (low high : SnapId) → IsProper snaps → AreTold members snaps
    → list_any (λ p. is_between low high p.1.id) (live snaps) ≡ is_live_between members low.0 high.0
