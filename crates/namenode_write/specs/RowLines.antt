-- The lines of the live tree by the rows of a table. For proofs: contracts speak of the plain state's lines.
use Rattle.std.specs.Prelude.{ℕ, zero, suc, ◌+◌, true, false, List, [], ◌∷◌, ◌++◌, map, length, Option, Some, None}
use Rattle.hs_types.specs.declared.shown.TreeLine.{TreeLine}
use Rattle.dir_changes.specs.Entries.{Entry}
use Rattle.inode_table.specs.RowHistory.{Table, RowHistory, File, Dir, rows_at}
use Rattle.namenode_write.specs.declared.rows.lines.Pending.{Pending}

-- the line of a row
abbrev pub line_in : Pending → RowHistory → TreeLine
line_in next (File file) = record { depth = next.depth; id = next.id; is_dir = false; mode = file.current.mode; stamp = file.current.stamp; size = file.current.size; name = next.name }
line_in next (Dir dir) = record { depth = next.depth; id = next.id; is_dir = true; mode = dir.marks.mode; stamp = dir.marks.stamp; size = length dir.children; name = next.name }

abbrev pub lines_at : Pending → Option RowHistory → List TreeLine
lines_at next None = []
lines_at next (Some rows) = line_in next rows ∷ []

-- a child so deep
abbrev pub child_line : ℕ → Entry → Pending
child_line depth entry = record { depth = depth; name = Some entry.0; id = entry.1 }

-- the children of a row so deep, in name order
abbrev pub below_in : ℕ → RowHistory → List Pending
below_in depth (File file) = []
below_in depth (Dir dir) = map (child_line (depth + 1)) dir.children

abbrev pub below_at : ℕ → Option RowHistory → List Pending
below_at depth None = []
below_at depth (Some rows) = below_in depth rows

-- the lines of these nodes and of all below them, each node before its children: at most so many
abbrev pub walked : Table → ℕ → List Pending → List TreeLine
walked table zero pending = []
walked table (suc n) [] = []
walked table (suc n) (next ∷ pending) = lines_at next (rows_at table next.id) ++ walked table n (below_at next.depth (rows_at table next.id) ++ pending)

abbrev pub root_line : Pending
root_line = record { depth = 0; name = None; id = record { 0 = 1 } }
