-- The records of a table as a snapshot is gone and its rows are looked at in turn.
use Rattle.std.specs.Prelude.{◌≡◌, ◌≢◌, ◌⊎◌, ℕ, ◌<◌, ◌≤◌, List, [], ◌∷◌, length, Some, true, false}
use Rattle.std.specs.List.{Contains}
use Rattle.hs_types.specs.declared.ids.InodeId.{InodeId}
use Rattle.hs_plain.specs.declared.state.Member.{Member}
use Rattle.hs_plain.specs.declared.state.State.{State}
use Rattle.hs_plain.specs.declared.state.FileBlocks.{FileBlocks}
use Rattle.hs_plain.specs.Change.{unsnapped}
use Rattle.dir_changes.specs.History.{DirHistory}
use Rattle.dir_changes.specs.Sound.{IsSound}
use Rattle.inode_table.specs.Indexed.{IsRising, made_between}
use Rattle.inode_table.specs.Merged.{merged}
use Rattle.inode_table.specs.Records.{Recorded, Loses, before_at, at_or}
use Rattle.inode_table.specs.RowHistory.{RowHistory, RowState, Dir, row_at, rows_at, is_live_between}
use Rattle.inode_table.specs.Tabled.{Tabled}
use Rattle.inode_table.specs.Whole.{numbers_in, IsIndexed, IsFilled}
use Rattle.table_laws.specs.Recording.{IsRecorded, AreAmong}

-- a row keeps the rule on intervals, or one of its records has lost the last live id of its interval and the row is still to be looked at
abbrev pub KeepsOrLoses : List (Member FileBlocks) → List InodeId → InodeId → RowHistory → Type 0
KeepsOrLoses fewer todo id rows = Recorded fewer 0 (numbers_in rows) ⊎ (Loses fewer 0 (numbers_in rows) × Contains todo id)

-- what holds of records and index meanwhile: all but the rule on intervals of the rows to be looked at
pub record AreLeft (t : Tabled) (fewer : List (Member FileBlocks)) (issued : ℕ) (todo : List InodeId) : Type 0 where
  pub numbers : (id : InodeId) (rows : RowHistory) → rows_at t.rows id ≡ Some rows → KeepsOrLoses fewer todo id rows
  pub within : (id : InodeId) (rows : RowHistory) (number : ℕ) → rows_at t.rows id ≡ Some rows → Contains (numbers_in rows) number → number ≤ issued
  pub undoable : (id : InodeId) (dir : DirHistory) → rows_at t.rows id ≡ Some (Dir dir) → IsSound dir
  pub rising : IsRising t.index
  pub indexed : (id : InodeId) (rows : RowHistory) (number : ℕ) → rows_at t.rows id ≡ Some rows → Contains (numbers_in rows) number → IsIndexed t.index fewer id number

-- one snapshot is gone, no other
pub record IsGone (members fewer : List (Member FileBlocks)) (gone : Member FileBlocks) : Type 0 where
  pub was : Contains members gone
  pub fewer_among : AreAmong fewer members
  pub left : (m : Member FileBlocks) → Contains members m → m.snapshot.0 ≢ gone.snapshot.0 → Contains fewer m

-- as a snapshot is deleted
abbrev pub UnsnappedLaw : Type 0
UnsnappedLaw = (state : State FileBlocks) (gone : Member FileBlocks) → Contains state.members gone → IsGone state.members (unsnapped state gone.snapshot).members gone

-- the rows to be looked at are those that the index has from the snapshot's tick on
abbrev pub GoneRecordsLaw : Type 0
GoneRecordsLaw = (t : Tabled) (members fewer : List (Member FileBlocks)) (issued tick used : ℕ) (gone : Member FileBlocks)
    → IsGone members fewer gone → IsFilled t.index tick used → IsRecorded t members issued → AreLeft t fewer issued (made_between gone.tick tick t.rows t.index)

-- the record of a row that lost its last live id is merged away
abbrev pub MergeRecordsLaw : Type 0
MergeRecordsLaw = (t : Tabled) (fewer : List (Member FileBlocks)) (issued : ℕ) (id : InodeId) (todo : List InodeId) (row : RowState)
    → row_at t.rows id ≡ Some row → (lost : Loses fewer 0 (numbers_in row.rows)) → AreLeft t fewer issued (id ∷ todo) → AreLeft (merged id lost.i t) fewer issued todo

-- the index stays
abbrev pub MergeIndexLaw : Type 0
MergeIndexLaw = (t : Tabled) (id : InodeId) (i : ℕ) → (merged id i t).index ≡ t.index

-- a row that lost nothing stays
abbrev pub KeepRecordsLaw : Type 0
KeepRecordsLaw = (t : Tabled) (fewer : List (Member FileBlocks)) (issued : ℕ) (id : InodeId) (todo : List InodeId)
    → ((row : RowState) → row_at t.rows id ≡ Some row → Recorded fewer 0 (numbers_in row.rows)) → AreLeft t fewer issued (id ∷ todo) → AreLeft t fewer issued todo

-- at last all rules hold again
abbrev pub LeftRecordsLaw : Type 0
LeftRecordsLaw = (t : Tabled) (fewer : List (Member FileBlocks)) (issued : ℕ) → AreLeft t fewer issued [] → IsRecorded t fewer issued

-- ---- which record

-- a record without a live id in its interval is the one that was lost
abbrev pub WhichLostLaw : Type 0
WhichLostLaw = (fewer : List (Member FileBlocks)) (ns : List ℕ) (i : ℕ) → i < length ns → is_live_between fewer (before_at 0 ns i) (at_or ns i) ≡ false
    → Recorded fewer 0 ns ⊎ Loses fewer 0 ns → (lost : Loses fewer 0 ns) × (lost.i ≡ i)

-- where each has one, none was lost
abbrev pub NoneLostLaw : Type 0
NoneLostLaw = (fewer : List (Member FileBlocks)) (ns : List ℕ) → ((i : ℕ) → i < length ns → is_live_between fewer (before_at 0 ns i) (at_or ns i) ≡ true)
    → Recorded fewer 0 ns ⊎ Loses fewer 0 ns → Recorded fewer 0 ns
