-- Private: what one place adds to the counts of a table.
use Rattle.std.specs.Prelude.{ℕ, zero, suc, ◌+◌, List, [], ◌∷◌, length, Option, Some, None}
use Rattle.dir_changes.specs.History.{Past}
use Rattle.inode_table.specs.declared.row.Row.{Row}
use Rattle.inode_table.specs.Numbered.{history_of}
use Rattle.inode_table.specs.Totals.{records_in, entries_of}

-- the entries of record i
abbrev pub entries_at : ℕ → List Past → ℕ
entries_at i [] = 0
entries_at zero (past ∷ records) = length past.diff.created + length past.diff.deleted
entries_at (suc i) (past ∷ records) = entries_at i records

abbrev pub slot_rows : Option Row → ℕ
slot_rows None = 0
slot_rows (Some row) = 1

abbrev pub slot_records : Option Row → ℕ
slot_records None = 0
slot_records (Some row) = records_in (history_of row.rows)

abbrev pub slot_entries : Option Row → ℕ
slot_entries None = 0
slot_entries (Some row) = entries_of (history_of row.rows)

abbrev pub slot_weight : Option Row → ℕ
slot_weight slot = slot_rows slot + (slot_records slot + slot_entries slot)
