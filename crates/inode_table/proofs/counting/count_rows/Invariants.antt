use Rattle.std.proofs.Common.{◌≡◌, ◌+◌}
use Rattle.inode_table.specs.Totals.{total, records_in, entries_of}
use Rattle.inode_table.proofs.Summing.{rest_from}
use Rattle.inode_table.proofs.counting.count_rows.Given as goal

abbrev pub invariant-loop-slot : goal.invariant-loop-slot
invariant-loop-slot l = record {
  rows : l.counts.rows + total (λ _. 1) (rest_from l.slot-index l.rows) ≡ total (λ _. 1) (rest_from 0 l.rows);
  records : l.counts.records + total (λ row. records_in row.rows) (rest_from l.slot-index l.rows) ≡ total (λ row. records_in row.rows) (rest_from 0 l.rows);
  entries : l.counts.list_entries + total (λ row. entries_of row.rows) (rest_from l.slot-index l.rows) ≡ total (λ row. entries_of row.rows) (rest_from 0 l.rows);
}
