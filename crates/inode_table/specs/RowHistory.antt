-- Rows by inode, what they show at a snapshot, and when a change starts a record.
use Rattle.std.specs.Prelude.{◌≡◌, ◌≢◌, ℕ, ◌<◌, ◌≤◌, Bool, ◌&&◌, nat_lt, nat_le, if◌then◌else◌, List, [], Option, Some, None}
use Rattle.std.specs.List.{Contains, list_any}
use Rattle.std.specs.Option.{option_map}
use Rattle.std.specs.Ordering.{nat_cmp}
use Rattle.std.specs.declared.cmp.Ordering.{Ordering}
use Rattle.std.specs.FinMap.Entries.{find}
use Rattle.hs_types.specs.declared.ids.InodeId.{InodeId}
use Rattle.hs_types.specs.declared.name.Spot.{Spot}
use Rattle.hs_plain.specs.declared.state.Node.{Node}
use Rattle.hs_plain.specs.declared.state.Body.TheVariants as bodies
use Rattle.hs_plain.specs.declared.state.Member.{Member}
use Rattle.hs_plain.specs.declared.state.FileBlocks.{FileBlocks}
use Rattle.hs_plain.specs.Tree.{node_at}
use Rattle.file_changes.specs.History as files
use Rattle.file_changes.specs.History.{FileHistory, state_at}
use Rattle.file_changes.specs.declared.state.FileState.{FileState}
use Rattle.dir_changes.specs.Entries.{Entries}
use Rattle.dir_changes.specs.History as dirs
use Rattle.dir_changes.specs.History.{DirHistory, children_at, marks_at}
use Rattle.inode_table.specs.Reads.{Shown, ReadsAs}
use Rattle.inode_table.specs.Marks.{Mark, RowMarks, InCopy}

-- the states of a file or a directory
pub data RowHistory : Type 0 where
  File : FileHistory → RowHistory
  Dir : DirHistory → RowHistory

-- a row: its marks, how often lists name it, and its states
pub record RowState : Type 0 where
  pub since : ℕ
  pub carry : ℕ
  pub names : ℕ
  pub rows : RowHistory

-- ---- what a row shows at a snapshot; at 0 its current state

abbrev pub file_node : InodeId → FileState → Node FileBlocks
file_node id state = record { id = id; mode = state.mode; stamp = state.stamp; body = bodies.File (record { size = state.size; blocks = state.blocks }) }

abbrev pub dir_node : InodeId → dirs.Marks → Node FileBlocks
dir_node id marks = record { id = id; mode = marks.mode; stamp = marks.stamp; body = bodies.Dir }

abbrev pub node_in : InodeId → ℕ → RowHistory → Node FileBlocks
node_in id s (File file) = file_node id (state_at s file)
node_in id s (Dir dir) = dir_node id (marks_at s dir)

abbrev pub entries_in : ℕ → RowHistory → Entries
entries_in s (File file) = []
entries_in s (Dir dir) = children_at s dir

abbrev pub spot_in : ℕ → RowHistory → Spot
spot_in s (File file) = (state_at s file).spot
spot_in s (Dir dir) = (marks_at s dir).spot

abbrev pub entries_of : ℕ → Option RowHistory → Entries
entries_of s None = []
entries_of s (Some rows) = entries_in s rows

-- ---- the rows of a table

-- by rising ids
abbrev pub Table : Type 0
Table = List (InodeId × RowState)

abbrev pub id_order : InodeId → InodeId → Ordering
id_order a b = nat_cmp a.0 b.0

abbrev pub row_at : Table → InodeId → Option RowState
row_at table id = find id_order id table

abbrev pub rows_at : Table → InodeId → Option RowHistory
rows_at table id = option_map (λ row. row.rows) (row_at table id)

abbrev pub shown : Table → ℕ → Shown FileBlocks
shown table s = record {
  node = λ id. option_map (node_in id s) (rows_at table id);
  entries = λ id. entries_of s (rows_at table id);
  spot = λ id. option_map (spot_in s) (rows_at table id);
}

abbrev pub mark_of : Option RowState → Mark
mark_of None = record { since = 0; carry = 0 }
mark_of (Some row) = record { since = row.since; carry = row.carry }

abbrev pub marks_of : Table → RowMarks
marks_of table id = mark_of (row_at table id)

-- the number of the last record, or 0
abbrev pub last_in : RowHistory → ℕ
last_in (File file) = files.last_number file
last_in (Dir dir) = dirs.last_number dir

-- each copied tree is read at its id from its directory
abbrev pub IsFrozen : Table → List (Member FileBlocks) → Type 0
IsFrozen table members = (m : Member FileBlocks) → Contains members m → ReadsAs (shown table m.snapshot.0) m.directory (node_at m.tree)

-- ---- need

-- a live id is above one number and at most another
abbrev pub is_live_between : {B : Type 0} → List (Member B) → ℕ → ℕ → Bool
is_live_between members low high = list_any (λ m. nat_lt low m.snapshot.0 && nat_le m.snapshot.0 high) members

-- the need of a row, by the number of its last record and its cover
abbrev pub need : {B : Type 0} → List (Member B) → ℕ → ℕ → ℕ
need members last cover = if is_live_between members last cover then cover else 0

-- the number of the last record after one is started where a number is above it
abbrev pub last_after : ℕ → ℕ → ℕ
last_after last number = if nat_lt last number then number else last

-- two histories read alike at a snapshot
pub record ReadsAlike (s : ℕ) (before after : RowHistory) : Type 0 where
  pub node : (id : InodeId) → node_in id s after ≡ node_in id s before
  pub entries : entries_in s after ≡ entries_in s before
  pub spot : spot_in s after ≡ spot_in s before

-- a row's current state was changed, after a record was started where its number was above the last: what the two row crates promise
pub record Changes (last number : ℕ) (before after : RowHistory) : Type 0 where
  pub reads : (s : ℕ) → 0 < s → s ≤ last_after last number → ReadsAlike s before after

-- the rows that were there read alike at each live id whose copied tree has them; others may be new, or gone
pub record ChangesRows (members : List (Member FileBlocks)) (before after : Table) : Type 0 where
  pub kept : (id : InodeId) (old : RowHistory) (m : Member FileBlocks) → rows_at before id ≡ Some old → Contains members m → InCopy m id →
      (new : RowHistory) × (rows_at after id ≡ Some new) × ReadsAlike m.snapshot.0 old new

-- one row has changed, after a record was started where that number was above the last: what a table's `change` promises
pub record Changed (before after : Table) (id : InodeId) (number : ℕ) (old new : RowHistory) : Type 0 where
  pub was : rows_at before id ≡ Some old
  pub here : rows_at after id ≡ Some new
  pub there : (other : InodeId) → other ≢ id → rows_at after other ≡ rows_at before other
  pub reads : (s : ℕ) → 0 < s → s ≤ last_after (last_in old) number → ReadsAlike s old new
  pub last : last_in new ≡ last_after (last_in old) number
  pub marks : (other : InodeId) → marks_of after other ≡ marks_of before other

-- a record of that number is enough for each live id whose copied tree has the row
abbrev pub IsSafe : List (Member FileBlocks) → InodeId → RowHistory → ℕ → Type 0
IsSafe members id rows number = (m : Member FileBlocks) → Contains members m → InCopy m id → m.snapshot.0 ≤ last_after (last_in rows) number

abbrev pub FrozenStepLaw : Type 0
FrozenStepLaw = (members : List (Member FileBlocks)) (before after : Table) (id : InodeId) (number : ℕ) (old new : RowHistory) → ((m : Member FileBlocks) → Contains members m → 0 < m.snapshot.0)
    → Changed before after id number old new → IsSafe members id old number → IsFrozen before members → IsFrozen after members

abbrev pub ReadingKeptLaw : Type 0
ReadingKeptLaw = (members : List (Member FileBlocks)) (m : Member FileBlocks) (last cover : ℕ) (before after : RowHistory) → Contains members m → 0 < m.snapshot.0 → m.snapshot.0 ≤ cover
    → Changes last (need members last cover) before after → ReadsAlike m.snapshot.0 before after

abbrev pub FrozenKeptLaw : Type 0
FrozenKeptLaw = (members : List (Member FileBlocks)) (before after : Table) → ChangesRows members before after → IsFrozen before members → IsFrozen after members
