use Rattle.std.proofs.Common.{◌≡◌, length, ap, ◌∙◌, arith}
use Rattle.inode_table.specs.Slots.{table_in}
use Rattle.inode_table.specs.Totals.{total, records_in, entries_of}
use Rattle.inode_table.proofs.Placing.{total-one}
use Rattle.inode_table.proofs.Summing.{rest_from, rest-all, passes}
use Rattle.inode_table.proofs.counting.count_rows.Goals as goal

pub plus-counts-requires : goal.plus-counts-requires
plus-counts-requires c =
    let pass = passes c.loop-slot.slot-index c.args.rows.now c.slot-item.result c.loop-slot-test.true c.slot-item.is in
    let kept = c.loop-slot.invariant in
    let ones = total-one (table_in c.args.rows.now) in
    omega (arith, pass.ones, pass.records, pass.entries, kept.rows, kept.records, kept.entries, ones, c.requires)

pub loop-slot-preserved : goal.loop-slot-preserved
loop-slot-preserved c =
    let pass = passes c.loop-slot.slot-index c.args.rows.now c.slot-item.result c.loop-slot-test.true c.slot-item.is in
    let kept = c.loop-slot.invariant in
    let step = c.plus-counts.ensures in
    record {
      rows = omega (arith, pass.ones, kept.rows, step.rows);
      records = omega (arith, pass.records, kept.records, step.records);
      entries = omega (arith, pass.entries, kept.entries, step.entries);
    }

pub returns : goal.returns
returns c =
    let rows = c.args.rows.now in
    let ends : c.loop-slot.slot-index ≡ length rows = omega (arith, c.loop-slot-test.false, c.loop-slot.auto.slot-index-end) in
    let kept = c.loop-slot.invariant in
    let ones : total (λ _. 1) (rest_from c.loop-slot.slot-index rows) ≡ 0 = ap (λ n. total (λ _. 1) (rest_from n rows)) ends ∙ rest-all (λ _. 1) (length rows) rows in
    let records : total (λ row. records_in row.rows) (rest_from c.loop-slot.slot-index rows) ≡ 0 = ap (λ n. total (λ row. records_in row.rows) (rest_from n rows)) ends ∙ rest-all (λ row. records_in row.rows) (length rows) rows in
    let entries : total (λ row. entries_of row.rows) (rest_from c.loop-slot.slot-index rows) ≡ 0 = ap (λ n. total (λ row. entries_of row.rows) (rest_from n rows)) ends ∙ rest-all (λ row. entries_of row.rows) (length rows) rows in
    let all = total-one (table_in rows) in
    let a : c.loop-slot.counts.rows ≡ length (table_in rows) = omega (arith, kept.rows, ones, all) in
    let b : c.loop-slot.counts.records ≡ total (λ row. records_in row.rows) (table_in rows) = omega (arith, kept.records, records) in
    let d : c.loop-slot.counts.list_entries ≡ total (λ row. entries_of row.rows) (table_in rows) = omega (arith, kept.entries, entries) in
    λ i. record { rows = a i; records = b i; list_entries = d i }
