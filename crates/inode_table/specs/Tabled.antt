-- A table as plain data, and what its calls make of it.
use Rattle.std.specs.Prelude.{ℕ, ◌+◌, ◌-◌, Bool, false, nat_lt, if◌then◌else◌, List, map, Option, Some, None}
use Rattle.std.specs.FinMap.Entries.{put}
use Rattle.hs_types.specs.declared.ids.InodeId.{InodeId}
use Rattle.hs_types.specs.declared.ids.BlockId.{BlockId}
use Rattle.hs_plain.specs.Tree.{same_inode}
use Rattle.file_changes.specs.History as files
use Rattle.file_changes.specs.History.{FileHistory}
use Rattle.dir_changes.specs.Entries.{id_at}
use Rattle.dir_changes.specs.History as dirs
use Rattle.dir_changes.specs.History.{DirHistory}
use Rattle.dir_changes.specs.Counts.{keeps_removed}
use Rattle.inode_table.specs.declared.change.Change.{Change}
use Rattle.inode_table.specs.declared.change.Change.TheVariants as changes
use Rattle.inode_table.specs.declared.change.Recount.{Recount}
use Rattle.inode_table.specs.declared.change.Recount.TheVariants as recounts
use Rattle.inode_table.specs.RowHistory.{RowHistory, RowState, File, Dir, Table, id_order, row_at, last_in}
use Rattle.inode_table.specs.Edited.{begun, stamp_dir}
use Rattle.inode_table.specs.Indexed.{Index, noted}

pub record Tabled : Type 0 where
  pub rows : Table
  pub index : Index
  -- the greatest id so far
  pub greatest : ℕ
  -- the blocks that the next release hands out
  pub waiting : List BlockId

-- ---- one row's change

-- whether a record of that number is started
abbrev pub starts : ℕ → RowHistory → Bool
starts cover rows = nat_lt (last_in rows) cover

abbrev pub begun_file : ℕ → FileHistory → FileHistory
begun_file number file = if nat_lt (files.last_number file) number then files.saved (record { 0 = number }) file else file

-- with a record started where its number is above the last
abbrev pub begun_rows : ℕ → RowHistory → RowHistory
begun_rows cover (File file) = File (begun_file cover file)
begun_rows cover (Dir dir) = Dir (begun cover dir)

abbrev pub edited_file : ℕ → Change → FileHistory → FileHistory
edited_file tick (changes.Mode mode) file = record file { current = record file.current { mode = mode; stamp = tick } }
edited_file tick (changes.Body size blocks) file = record file { current = record file.current { size = size; blocks = blocks; stamp = tick } }
edited_file tick (changes.Add name id) file = file
edited_file tick (changes.Remove name) file = file
edited_file tick (changes.Move spot) file = record file { current = record file.current { spot = spot } }

abbrev pub edited_dir : ℕ → Change → DirHistory → DirHistory
edited_dir tick (changes.Mode mode) dir = record dir { marks = record dir.marks { mode = mode; stamp = tick } }
edited_dir tick (changes.Body size blocks) dir = dir
edited_dir tick (changes.Add name id) dir = stamp_dir tick (dirs.added name id dir)
edited_dir tick (changes.Remove name) dir = stamp_dir tick (dirs.removed name dir)
edited_dir tick (changes.Move spot) dir = record dir { marks = record dir.marks { spot = spot } }

-- the current state changed; all but a new spot set the stamp
abbrev pub edited : ℕ → Change → RowHistory → RowHistory
edited tick what (File file) = File (edited_file tick what file)
edited tick what (Dir dir) = Dir (edited_dir tick what dir)

abbrev pub changed_rows : ℕ → ℕ → Change → RowHistory → RowHistory
changed_rows cover tick what rows = edited tick what (begun_rows cover rows)

-- ---- how often rows are named

abbrev pub Entered : Type 0
Entered = InodeId × RowState

abbrev pub recounted_row : (ℕ → ℕ) → InodeId → Entered → Entered
recounted_row names id row = if same_inode row.0 id then (row.0, record row.1 { names = names row.1.names }) else row

-- a row named once more
abbrev pub named_more : InodeId → Table → Table
named_more id table = map (recounted_row (λ n. n + 1) id) table

-- a row named once less
abbrev pub named_less : InodeId → Table → Table
named_less id table = map (recounted_row (λ n. n - 1) id) table

abbrev pub recounted : Recount → Table → Table
recounted recounts.Same table = table
recounted (recounts.More id) table = named_more id table
recounted (recounts.Less id) table = named_less id table

abbrev pub lost_unless : Bool → Option InodeId → Recount
lost_unless keeps None = recounts.Same
lost_unless keeps (Some id) = if keeps then recounts.Same else recounts.Less id

-- a removed entry names its inode no more, unless it goes to a deleted list
abbrev pub recount_removed : List ℕ → DirHistory → Recount
recount_removed name dir = lost_unless (keeps_removed name dir) (id_at name dir.children)

abbrev pub recount_dir : Change → DirHistory → Recount
recount_dir (changes.Mode mode) dir = recounts.Same
recount_dir (changes.Body size blocks) dir = recounts.Same
recount_dir (changes.Add name id) dir = recounts.More id
recount_dir (changes.Remove name) dir = recount_removed name dir
recount_dir (changes.Move spot) dir = recounts.Same

-- whose names a change of these rows counts anew
abbrev pub recount_of : Change → RowHistory → Recount
recount_of what (File file) = recounts.Same
recount_of what (Dir dir) = recount_dir what dir

-- ---- whole steps

abbrev pub changed_row : ℕ → ℕ → Change → RowState → RowState
changed_row cover tick what row = record row { rows = changed_rows cover tick what row.rows }

abbrev pub put_changed : InodeId → ℕ → ℕ → Change → Option RowState → Table → Table
put_changed id cover tick what None table = table
put_changed id cover tick what (Some row) table = put id_order id (changed_row cover tick what row) table

-- the table with that row changed, and the same names
abbrev pub with_changed : InodeId → ℕ → ℕ → Change → Table → Table
with_changed id cover tick what table = put_changed id cover tick what (row_at table id) table

abbrev pub recount_in : ℕ → Change → Option RowState → Recount
recount_in cover what None = recounts.Same
recount_in cover what (Some row) = recount_of what (begun_rows cover row.rows)

abbrev pub starts_in : ℕ → Option RowState → Bool
starts_in cover None = false
starts_in cover (Some row) = starts cover row.rows

-- one row changed, a record started before where the cover is above the last number, which is noted; and what the changed entry
-- names counted anew
abbrev pub changed : InodeId → ℕ → ℕ → Change → Tabled → Tabled
changed id cover tick what t = record t {
  rows = recounted (recount_in cover what (row_at t.rows id)) (with_changed id cover tick what t.rows);
  index = if starts_in cover (row_at t.rows id) then noted tick id t.index else t.index;
}

-- the stamp of the current state
abbrev pub stamp_of : RowHistory → ℕ
stamp_of (File file) = file.current.stamp
stamp_of (Dir dir) = dir.marks.stamp

abbrev pub fresh_row : RowHistory → ℕ → RowState
fresh_row rows since = record { since = since; carry = 0; names = 0; rows = rows }

-- a new row, of an id above all
abbrev pub inserted : InodeId → RowHistory → ℕ → Tabled → Tabled
inserted id rows since t = record t {
  rows = put id_order id (fresh_row rows since) t.rows;
  index = noted (stamp_of rows) id t.index;
  greatest = id.0;
}

-- other marks of a row that is there
abbrev pub put_marks : InodeId → ℕ → ℕ → Option RowState → Table → Table
put_marks id since carry None table = table
put_marks id since carry (Some row) table = put id_order id (record row { since = since; carry = carry }) table

abbrev pub marked_row : InodeId → ℕ → ℕ → Tabled → Tabled
marked_row id since carry t = record t { rows = put_marks id since carry (row_at t.rows id) t.rows }
