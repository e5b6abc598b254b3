-- A table in memory: its rows by their inodes, and the plain table that they stand for.
use Rattle.std.specs.Prelude.{ℕ, suc, List, [], ◌∷◌, map, Option, Some, None, slice_get}
use Rattle.std.specs.FinMap.Entries.{find}
use Rattle.hs_types.specs.declared.ids.InodeId.{InodeId}
use Rattle.hs_types.specs.declared.ids.SnapId.{SnapId}
use Rattle.snapshot_manager.specs.Snapshots.{Snapshots, snaps_in, last_id}
use Rattle.inode_table.specs.declared.row.Row.{Row}
use Rattle.inode_table.specs.declared.row.Rows.{Rows}
use Rattle.inode_table.specs.declared.row.Rows.TheVariants as kinds
use Rattle.inode_table.specs.Marks.{Mark, RowMarks}
use Rattle.inode_table.specs.RowHistory.{RowHistory, RowState, File, Dir, Table, id_order}

-- the rows that are there, each with its place as its inode
abbrev pub numbered : {X : Type 0} → ℕ → List (Option X) → List (InodeId × X)
numbered place [] = []
numbered place (None ∷ rows) = numbered (suc place) rows
numbered place (Some row ∷ rows) = (record { 0 = place }, row) ∷ numbered (suc place) rows

abbrev pub flat : {X : Type 0} → Option (Option X) → Option X
flat None = None
flat (Some o) = o

-- what stands at an inode's place
abbrev pub at_place : {X : Type 0} → List (Option X) → InodeId → Option X
at_place rows id = flat (slice_get rows id.0)

-- the row of an inode
abbrev pub row_of : List (InodeId × Row) → InodeId → Option Row
row_of rows id = find id_order id rows

-- the histories, without the room beside them
abbrev pub history_of : Rows → RowHistory
history_of (kinds.File file) = File file.history
history_of (kinds.Dir dir) = Dir dir.history

abbrev pub state_of : Row → RowState
state_of row = record { since = row.since.0; carry = row.carry.0; names = row.names; rows = history_of row.rows }

-- the plain table of these rows
abbrev pub table_of : List (InodeId × Row) → Table
table_of rows = map (λ e. (e.0, state_of e.1)) rows

-- the marks of a row; 0 and 0 where there is none
abbrev pub mark_of_row : Option Row → Mark
mark_of_row None = record { since = 0; carry = 0 }
mark_of_row (Some row) = record { since = row.since.0; carry = row.carry.0 }

abbrev pub marks_in : List (InodeId × Row) → RowMarks
marks_in rows id = mark_of_row (row_of rows id)

abbrev pub number_or : Option SnapId → ℕ
number_or None = 0
number_or (Some id) = id.0

-- the greatest live id of a directory, or 0
abbrev pub last_live : Snapshots → InodeId → ℕ
last_live snaps dir = number_or (last_id (snaps_in snaps dir))

-- the row with these marks
abbrev pub with_marks : SnapId → SnapId → Row → Row
with_marks since carry row = record row { since = since; carry = carry }

-- the row named so often
abbrev pub with_names : (ℕ → ℕ) → Row → Row
with_names names row = record row { names = names row.names }
