-- The whole of what a namenode's table, snapshots and store stand for. That whole calls keep it are laws of `table_laws`.
use Rattle.std.specs.Prelude.{◌≡◌, ◌≢◌, ℕ, ◌+◌, ◌<◌, ◌≤◌, ◌==◌, List, [], ◌∷◌, map, length, true, Option, Some, is_some}
use Rattle.std.specs.List.{Contains}
use Rattle.std.specs.FinMap.Entries.{is_sorted}
use Rattle.hs_types.specs.Blocks.{BlockMap}
use Rattle.hs_types.specs.declared.ids.InodeId.{InodeId}
use Rattle.hs_types.specs.declared.ids.BlockId.{BlockId}
use Rattle.hs_plain.specs.declared.state.Member.{Member}
use Rattle.hs_plain.specs.declared.state.State.{State}
use Rattle.hs_plain.specs.declared.state.FileBlocks.{FileBlocks}
use Rattle.hs_plain.specs.State.{is_snapshottable}
use Rattle.hs_plain.specs.Valid.{IsValid}
use Rattle.hs_plain.specs.Viewed as viewed
use Rattle.hs_plain.specs.Viewed.{HasBytes}
use Rattle.dir_changes.specs.Counts.{one_where}
use Rattle.dir_changes.specs.History.{DirHistory}
use Rattle.dir_changes.specs.Sound.{IsSound}
use Rattle.snapshot_manager.specs.Snapshots.{Snapshots, snaps_of}
use Rattle.inode_table.specs.declared.noted.Noted.{Noted}
use Rattle.inode_table.specs.Acyclic.{AllEnd}
use Rattle.inode_table.specs.Blocked.{AreBlocks}
use Rattle.inode_table.specs.Indexed.{Index, IsRising}
use Rattle.inode_table.specs.Joined.{AreTold}
use Rattle.inode_table.specs.Marks.{InCopy}
use Rattle.inode_table.specs.Names.{times_named}
use Rattle.inode_table.specs.Once.{IsOnce}
use Rattle.inode_table.specs.Records.{Recorded}
use Rattle.inode_table.specs.RowHistory.{Table, RowHistory, RowState, File, Dir, id_order, row_at, rows_at, shown, marks_of, last_in}
use Rattle.inode_table.specs.Stands.{Stands, root_id}
use Rattle.inode_table.specs.Tabled.{Tabled}
use Rattle.inode_table.specs.Totals as totals

-- ---- records

abbrev pub numbers_in : RowHistory → List ℕ
numbers_in (File file) = map (λ r. r.number.0) file.records
numbers_in (Dir dir) = map (λ r. r.number.0) dir.records

-- the index has the tick of a record: above those of all live snapshots up to its number, and at most those of later ones that have the row
pub record IsIndexed (index : Index) (members : List (Member FileBlocks)) (id : InodeId) (number : ℕ) : Type 0 where
  pub tick : ℕ
  pub named : Contains index (record { tick = tick; id = id })
  pub after : (m : Member FileBlocks) → Contains members m → m.snapshot.0 ≤ number → m.tick < tick
  pub before : (m : Member FileBlocks) → Contains members m → number < m.snapshot.0 → InCopy m id → tick ≤ m.tick

-- numbers rise, each interval has a live id, undo is defined at each record, and the index has each record's tick
pub record AreRecords (table : Table) (index : Index) (members : List (Member FileBlocks)) (issued : ℕ) : Type 0 where
  pub numbers : (id : InodeId) (rows : RowHistory) → rows_at table id ≡ Some rows → Recorded members 0 (numbers_in rows)
  pub within : (id : InodeId) (rows : RowHistory) → rows_at table id ≡ Some rows → last_in rows ≤ issued
  pub undoable : (id : InodeId) (dir : DirHistory) → rows_at table id ≡ Some (Dir dir) → IsSound dir
  pub rising : IsRising index
  pub indexed : (id : InodeId) (rows : RowHistory) (number : ℕ) → rows_at table id ≡ Some rows → Contains (numbers_in rows) number → IsIndexed index members id number

-- how many entries of the index have this tick
abbrev pub noted_at : ℕ → Index → ℕ
noted_at tick [] = 0
noted_at tick (entry ∷ index) = one_where (entry.tick == tick) + noted_at tick index

-- ticks begin at 1, and none is above this one; each tick has at most three entries, and this one at most so many
pub record IsFilled (index : Index) (tick used : ℕ) : Type 0 where
  pub first : (entry : Noted) → Contains index entry → 0 < entry.tick
  pub upto : (entry : Noted) → Contains index entry → entry.tick ≤ tick
  pub few : (other : ℕ) → noted_at other index ≤ 3
  pub now : noted_at tick index ≤ used

-- ---- names

-- each id in a list has a row, which knows how many lists name it; an id stands in at most one current list, and going up from it ends
pub record AreNames (table : Table) : Type 0 where
  pub there : (id : InodeId) → 0 < times_named id table → is_some (row_at table id) ≡ true
  pub counted : (id : InodeId) (row : RowState) → row_at table id ≡ Some row → row.names ≡ times_named id table
  pub once : IsOnce (shown table 0).entries
  pub ends : AllEnd (shown table 0).entries

-- the rows stand in the order of their ids, none twice
abbrev pub AreInOrder : Table → Type 0
AreInOrder table = is_sorted id_order table ≡ true

-- the rows are in order, know truly how often they are named, and no list names the root
pub record AreNamed (table : Table) : Type 0 where
  pub order : AreInOrder table
  pub names : AreNames table
  pub root : times_named root_id table ≡ 0

-- each row but the root is named: after each call, not within one, nor before `release`
abbrev pub AllNamed : Table → Type 0
AllNamed table = (id : InodeId) (rows : RowHistory) → rows_at table id ≡ Some rows → id ≢ root_id → 0 < times_named id table

-- ---- marks

-- the marks of all rows are within what was issued, and the root's are 0
pub record AreMarksIssued (table : Table) (issued : ℕ) : Type 0 where
  pub since : (id : InodeId) (row : RowState) → row_at table id ≡ Some row → row.since ≤ issued
  pub carry : (id : InodeId) (row : RowState) → row_at table id ≡ Some row → row.carry ≤ issued
  pub root : marks_of table root_id ≡ record { since = 0; carry = 0 }

-- ---- the whole

-- table and snapshots stand for a state in which files are blocks
pub record StandsFor (table : Tabled) (snaps : Snapshots) (state : State FileBlocks) : Type 0 where
  pub valid : IsValid state
  -- live, frozen, spots and marks
  pub stands : Stands table.rows state snaps.issued.0
  pub marks : AreMarksIssued table.rows snaps.issued.0
  pub records : AreRecords table.rows table.index state.members snaps.issued.0
  -- the index has at most three entries a tick, none of a later one
  pub filled : IsFilled table.index state.tick 3
  pub naming : AreNamed table.rows
  pub named : AllNamed table.rows
  -- snapshottable directories, and the snapshots in order of making, with names, ids and ticks
  pub told : AreTold state.members snaps
  pub snapshottable : (id : InodeId) → is_snapshottable state id ≡ is_some (snaps_of snaps id)
  pub next_inode : table.greatest + 1 ≡ state.next_inode
  pub next_snapshot : snaps.issued.0 + 1 ≡ state.next_snapshot
  pub ids : (id : InodeId) (row : RowState) → row_at table.rows id ≡ Some row → id.0 ≤ table.greatest
  -- the table keeps no block for its next release
  pub handed_out : table.waiting ≡ []

-- table, snapshots and store stand for a plain state: `made` is the greatest number that the store has given, `waiting` what waits to be freed
pub record StandsForPlain (table : Tabled) (snaps : Snapshots) (store : Option BlockMap) (made : ℕ) (waiting : List BlockId) (plain : State (List ℕ)) : Type 0 where
  pub state : State FileBlocks
  pub stands : StandsFor table snaps state
  pub sized : viewed.StandsFor state plain
  pub bytes : HasBytes store state plain
  pub blocks : AreBlocks table.rows store made waiting

-- rows, records, entries of lists and live snapshots
abbrev pub weight : Tabled → State FileBlocks → ℕ
weight table state = totals.weight table.rows + length state.members
