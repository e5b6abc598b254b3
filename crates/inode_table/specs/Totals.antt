-- Sums over the rows of a table.
use Rattle.std.specs.Prelude.{ℕ, ◌+◌, List, [], ◌∷◌, length}
use Rattle.file_changes.specs.declared.state.FileRecord.{FileRecord}
use Rattle.dir_changes.specs.Counts as counts
use Rattle.inode_table.specs.declared.counting.TableCounts.{TableCounts}
use Rattle.inode_table.specs.RowHistory.{RowHistory, RowState, File, Dir, Table}

-- what the rows weigh together
abbrev pub total : (RowState → ℕ) → Table → ℕ
total weight [] = 0
total weight (row ∷ table) = weight row.1 + total weight table

-- how many records a row has
abbrev pub records_in : RowHistory → ℕ
records_in (File file) = length file.records
records_in (Dir dir) = length dir.records

-- how many entries its lists have
abbrev pub entries_of : RowHistory → ℕ
entries_of (File file) = 0
entries_of (Dir dir) = counts.list_entries dir

abbrev pub blocks_saved : List FileRecord → ℕ
blocks_saved [] = 0
blocks_saved (saved ∷ records) = length saved.state.blocks + blocks_saved records

-- how many blocks its states name, each as often as it is named
abbrev pub block_count : RowHistory → ℕ
block_count (File file) = length file.current.blocks + blocks_saved file.records
block_count (Dir dir) = 0

abbrev pub counts_of : Table → TableCounts
counts_of table = record { rows = length table; records = total (λ row. records_in row.rows) table; list_entries = total (λ row. entries_of row.rows) table }

-- rows, records and entries together
abbrev pub weight : Table → ℕ
weight table = length table + (total (λ row. records_in row.rows) table + total (λ row. entries_of row.rows) table)

-- how many blocks all states name
abbrev pub blocks_named : Table → ℕ
blocks_named table = total (λ row. block_count row.rows) table
