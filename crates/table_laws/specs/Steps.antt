-- What one call of a table does to its rows, in the words of the laws of rows.
use Rattle.std.specs.Prelude.{◌≡◌, ◌≢◌, ℕ, ◌<◌, ◌≤◌, Some}
use Rattle.hs_types.specs.declared.ids.InodeId.{InodeId}
use Rattle.hs_types.specs.declared.name.Spot.{Spot}
use Rattle.hs_plain.specs.declared.state.Node.{Node}
use Rattle.hs_plain.specs.declared.state.Body.TheVariants as bodies
use Rattle.hs_plain.specs.declared.state.FileBlocks.{FileBlocks}
use Rattle.dir_changes.specs.Entries.{Entries, with_entry, without_name}
use Rattle.inode_table.specs.declared.change.Change.{Change}
use Rattle.inode_table.specs.declared.change.Change.TheVariants as changes
use Rattle.inode_table.specs.Kept.{AreSound, CanChange, FitsRows}
use Rattle.inode_table.specs.RowHistory.{Table, RowHistory, rows_at, marks_of, node_in, entries_in, spot_in, last_in, last_after, ReadsAlike, Changed}
use Rattle.inode_table.specs.Deeds.{Inserts}
use Rattle.inode_table.specs.Tabled.{Tabled, changed, changed_rows, inserted, marked_row}

-- ---- one row

-- the node after a change: all but a new spot set the stamp
abbrev pub node_after : ℕ → Change → Node FileBlocks → Node FileBlocks
node_after tick (changes.Mode mode) node = record node { mode = mode; stamp = tick }
node_after tick (changes.Body size blocks) node = record node { stamp = tick; body = bodies.File (record { size = size; blocks = blocks }) }
node_after tick (changes.Add name id) node = record node { stamp = tick }
node_after tick (changes.Remove name) node = record node { stamp = tick }
node_after tick (changes.Move spot) node = node

-- its entries
abbrev pub entries_after : Change → Entries → Entries
entries_after (changes.Mode mode) entries = entries
entries_after (changes.Body size blocks) entries = entries
entries_after (changes.Add name id) entries = with_entry name id entries
entries_after (changes.Remove name) entries = without_name name entries
entries_after (changes.Move spot) entries = entries

-- and its spot
abbrev pub spot_after : Change → Spot → Spot
spot_after (changes.Mode mode) spot = spot
spot_after (changes.Body size blocks) spot = spot
spot_after (changes.Add name id) spot = spot
spot_after (changes.Remove name) spot = spot
spot_after (changes.Move new) spot = new

-- the current state is the changed one
pub record ShowsChange (tick : ℕ) (what : Change) (old new : RowHistory) : Type 0 where
  pub node : (id : InodeId) → node_in id 0 new ≡ node_after tick what (node_in id 0 old)
  pub entries : entries_in 0 new ≡ entries_after what (entries_in 0 old)
  pub spot : spot_in 0 new ≡ spot_after what (spot_in 0 old)

-- a change of one row: it is read as before up to the last number, its current state is changed, and undo stays defined
pub record ChangesRow (number tick : ℕ) (what : Change) (old new : RowHistory) : Type 0 where
  pub reads : (s : ℕ) → 0 < s → s ≤ last_after (last_in old) number → ReadsAlike s old new
  pub last : last_in new ≡ last_after (last_in old) number
  pub shows : ShowsChange tick what old new
  pub sound : AreSound new

abbrev pub ChangesRowLaw : Type 0
ChangesRowLaw = (number tick : ℕ) (what : Change) (rows : RowHistory) → AreSound rows → FitsRows what rows → ChangesRow number tick what rows (changed_rows number tick what rows)

-- ---- a table

-- a change of one row; how often another is named is no part of its states
abbrev pub ChangedLaw : Type 0
ChangedLaw = (t : Tabled) (id : InodeId) (number tick : ℕ) (what : Change) (can : CanChange t.rows id what) → AreSound can.row.rows
    → Changed t.rows (changed id number tick what t).rows id number can.row.rows (changed_rows number tick what can.row.rows)

-- a new row
abbrev pub InsertedLaw : Type 0
InsertedLaw = (t : Tabled) (id : InodeId) (rows : RowHistory) (since : ℕ) → Inserts t.rows (inserted id rows since t).rows since id rows

-- other marks of one row
pub record Remarks (before after : Table) (id : InodeId) (since carry : ℕ) : Type 0 where
  pub rows : (other : InodeId) → rows_at after other ≡ rows_at before other
  pub here : marks_of after id ≡ record { since = since; carry = carry }
  pub there : (other : InodeId) → other ≢ id → marks_of after other ≡ marks_of before other

abbrev pub MarkedLaw : Type 0
MarkedLaw = (t : Tabled) (id : InodeId) (since carry : ℕ) (rows : RowHistory) → rows_at t.rows id ≡ Some rows → Remarks t.rows (marked_row id since carry t).rows id since carry
