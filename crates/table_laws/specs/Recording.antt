-- What each step of a table leaves of its records and of its index.
use Rattle.std.specs.Prelude.{◌≡◌, ℕ, ◌+◌, ◌<◌, ◌≤◌, List, [], ◌∷◌, ◌++◌, Some, true}
use Rattle.std.specs.List.{Contains}
use Rattle.hs_types.specs.Names.{Names}
use Rattle.hs_types.specs.declared.ids.InodeId.{InodeId}
use Rattle.hs_types.specs.declared.ids.SnapId.{SnapId}
use Rattle.hs_types.specs.declared.name.Spot.{Spot}
use Rattle.hs_plain.specs.declared.state.Member.{Member}
use Rattle.hs_plain.specs.declared.state.Node.{Node}
use Rattle.hs_plain.specs.declared.state.State.{State}
use Rattle.hs_plain.specs.declared.state.FileBlocks.{FileBlocks}
use Rattle.hs_plain.specs.Change.{resnapped, snapped}
use Rattle.hs_plain.specs.Tree.{node_at}
use Rattle.hs_plain.specs.Valid.{IsValid}
use Rattle.inode_table.specs.declared.change.Change.{Change}
use Rattle.inode_table.specs.declared.freed.Freed.{Freed}
use Rattle.inode_table.specs.Kept.{CanChange, IsBare}
use Rattle.inode_table.specs.Marks.{InCopy, IsChain, last_of, cover}
use Rattle.inode_table.specs.Released.{Releasing}
use Rattle.inode_table.specs.Reads.{id_of}
use Rattle.inode_table.specs.RowHistory.{RowHistory, Table, rows_at, marks_of, last_in, is_live_between, need, IsSafe}
use Rattle.inode_table.specs.Snaps.{NumbersWithin}
use Rattle.inode_table.specs.Stands.{Stands}
use Rattle.inode_table.specs.Start.{first_table}
use Rattle.inode_table.specs.Tabled.{Tabled, changed, changed_rows, inserted, stamp_of, marked_row}
use Rattle.inode_table.specs.Whole.{AreRecords, IsFilled, numbers_in}

-- what `AreRecords` says, of a whole table
abbrev pub IsRecorded : Tabled → List (Member FileBlocks) → ℕ → Type 0
IsRecorded t members issued = AreRecords t.rows t.index members issued

-- the first table has no records, and an empty index
abbrev pub StartRecordsLaw : Type 0
StartRecordsLaw = (spot : Spot) → IsRecorded (first_table spot) [] 0 × IsFilled (first_table spot).index 0 0

-- ---- a row is changed

-- each live snapshot was made before this tick
abbrev pub AreBefore : List (Member FileBlocks) → ℕ → Type 0
AreBefore members tick = (m : Member FileBlocks) → Contains members m → m.tick < tick

-- a number at which a row may be changed
pub record MayRecord (members : List (Member FileBlocks)) (issued : ℕ) (id : InodeId) (rows : RowHistory) (number tick : ℕ) : Type 0 where
  -- a record that is started has a live id in its interval
  pub starts : last_in rows < number → is_live_between members (last_in rows) number ≡ true
  -- the row's last number is then enough for each live id whose copied tree has the row
  pub enough : IsSafe members id rows number
  pub within : number ≤ issued
  pub earlier : AreBefore members tick

-- a change at such a number keeps records and index
abbrev pub ChangeRecordsLaw : Type 0
ChangeRecordsLaw = (t : Tabled) (members : List (Member FileBlocks)) (issued number tick : ℕ) (id : InodeId) (what : Change) → (can : CanChange t.rows id what)
    → MayRecord members issued id can.row.rows number tick → IsRecorded t members issued → IsRecorded (changed id number tick what t) members issued

-- it gives the index one entry at most
abbrev pub ChangeFilledLaw : Type 0
ChangeFilledLaw = (t : Tabled) (number tick used : ℕ) (id : InodeId) (what : Change) → 0 < tick → used < 3 → IsFilled t.index tick used → IsFilled (changed id number tick what t).index tick (used + 1)

-- and none where no record is started
abbrev pub NoRecordLaw : Type 0
NoRecordLaw = (t : Tabled) (number tick : ℕ) (id : InodeId) (what : Change) → (can : CanChange t.rows id what) → number ≤ last_in can.row.rows → (changed id number tick what t).index ≡ t.index

-- after a change the row may be changed again at that number, which starts no record
abbrev pub AgainRecordsLaw : Type 0
AgainRecordsLaw = (members : List (Member FileBlocks)) (issued number tick : ℕ) (id : InodeId) (what : Change) (rows : RowHistory)
    → MayRecord members issued id rows number tick → MayRecord members issued id (changed_rows number tick what rows) number tick × (number ≤ last_in (changed_rows number tick what rows))

-- ---- the need

-- a number is enough for each live id whose copied tree has the row
abbrev pub IsCover : List (Member FileBlocks) → InodeId → ℕ → Type 0
IsCover members id number = (m : Member FileBlocks) → Contains members m → InCopy m id → m.snapshot.0 ≤ number

-- the need is such a number
abbrev pub NeedRecordsLaw : Type 0
NeedRecordsLaw = (members : List (Member FileBlocks)) (issued most tick : ℕ) (id : InodeId) (rows : RowHistory)
    → IsCover members id most → most ≤ issued → AreBefore members tick → MayRecord members issued id rows (need members (last_in rows) most) tick

-- by the cover of a live row, found by its chain, at the next tick of a valid state
abbrev pub LiveRecordsLaw : Type 0
LiveRecordsLaw = (table : Table) (state : State FileBlocks) (issued : ℕ) (path : Names) (chain : List InodeId) (id : InodeId) (rows : RowHistory)
    → Stands table state issued → IsChain (node_at state.tree) path chain → id_of (node_at state.tree path) ≡ Some id → IsValid state
    → MayRecord state.members issued id rows (need state.members (last_in rows) (cover (last_of state.members) (marks_of table) chain)) (state.tick + 1)

-- ---- a row is made, a row gets its marks, rows go

-- a new row has no records yet
abbrev pub InsertRecordsLaw : Type 0
InsertRecordsLaw = (t : Tabled) (members : List (Member FileBlocks)) (issued since : ℕ) (id : InodeId) (rows : RowHistory)
    → IsBare rows → IsRecorded t members issued → IsRecorded (inserted id rows since t) members issued

-- and gets one entry in the index, at the tick of its stamp
abbrev pub InsertFilledLaw : Type 0
InsertFilledLaw = (t : Tabled) (since tick used : ℕ) (id : InodeId) (rows : RowHistory) → stamp_of rows ≡ tick → 0 < tick → used < 3 → IsFilled t.index tick used → IsFilled (inserted id rows since t).index tick (used + 1)

-- marks are no part of records
abbrev pub MarkRecordsLaw : Type 0
MarkRecordsLaw = (t : Tabled) (members : List (Member FileBlocks)) (issued since carry : ℕ) (id : InodeId) → IsRecorded t members issued → IsRecorded (marked_row id since carry t) members issued

-- rows that go take their records along; the index stays, with entries of rows that are gone
abbrev pub ReleaseRecordsLaw : Type 0
ReleaseRecordsLaw = (before after : Tabled) (freed : Freed) (members : List (Member FileBlocks)) (issued : ℕ)
    → Releasing before freed after → IsRecorded before members issued → IsRecorded after members issued × (after.index ≡ before.index)

-- ---- a snapshot is made, or gets another name

-- a new snapshot, with the next id, at a tick that isn't below those of the index
abbrev pub SnapRecordsLaw : Type 0
SnapRecordsLaw = (t : Tabled) (members : List (Member FileBlocks)) (issued tick used : ℕ) (m : Member FileBlocks)
    → m.snapshot.0 ≡ issued + 1 → tick ≤ m.tick → IsFilled t.index tick used → IsRecorded t members issued → IsRecorded t (members ++ m ∷ []) (issued + 1)

-- as the plain machine makes one
abbrev pub SnappedRecordsLaw : Type 0
SnappedRecordsLaw = (t : Tabled) (state : State FileBlocks) (issued used : ℕ) (name : List ℕ) (place : Names × Node FileBlocks)
    → state.next_snapshot ≡ issued + 1 → IsFilled t.index state.tick used → IsRecorded t state.members issued → IsRecorded t (snapped state name place).members (issued + 1)

-- the same snapshot, perhaps with another name
pub record IsSame (m n : Member FileBlocks) : Type 0 where
  pub snapshot : n.snapshot.0 ≡ m.snapshot.0
  pub tick : n.tick ≡ m.tick
  pub tree : n.tree ≡ m.tree

-- each of the first is among the second
abbrev pub AreAmong : List (Member FileBlocks) → List (Member FileBlocks) → Type 0
AreAmong fewer members = (m : Member FileBlocks) → Contains fewer m → (n : Member FileBlocks) × Contains members n × IsSame m n

-- as a snapshot gets another name
abbrev pub ResnappedLaw : Type 0
ResnappedLaw = (state : State FileBlocks) (name : List ℕ) (id : SnapId) → AreAmong (resnapped state name id).members state.members × AreAmong state.members (resnapped state name id).members

-- which changes no record
abbrev pub RenamedRecordsLaw : Type 0
RenamedRecordsLaw = (t : Tabled) (members renamed : List (Member FileBlocks)) (issued : ℕ) → AreAmong renamed members → AreAmong members renamed → IsRecorded t members issued → IsRecorded t renamed issued

-- nor what the table stands for: live tree, copied trees, spots and marks
abbrev pub RenamedStandsLaw : Type 0
RenamedStandsLaw = (table : Table) (state : State FileBlocks) (issued : ℕ) (name : List ℕ) (id : SnapId) → Stands table state issued → Stands table (resnapped state name id) issued

-- ---- what follows

-- the numbers of each row rise and were issued
abbrev pub NumbersRecordsLaw : Type 0
NumbersRecordsLaw = (t : Tabled) (members : List (Member FileBlocks)) (issued : ℕ) → IsRecorded t members issued → NumbersWithin t.rows issued

-- without snapshots there are no records
abbrev pub BareRecordsLaw : Type 0
BareRecordsLaw = (t : Tabled) (issued : ℕ) (id : InodeId) (rows : RowHistory) → IsRecorded t [] issued → rows_at t.rows id ≡ Some rows → numbers_in rows ≡ []
