-- What changes and new rows add to a table's weight.
use Rattle.std.proofs.Common.{◌≡◌, ℕ, ◌+◌, ◌-◌, ◌≤◌, Some, refl, sym, ap, subst, ◌∙◌, arith}
use Rattle.std.specs.Prelude.{Option}
use Rattle.std.specs.Option.{option_map}
use Rattle.std.specs.FinMap.Entries.{put}
use Rattle.hs_types.specs.declared.ids.InodeId.{InodeId}
use Rattle.inode_table.specs.declared.change.Change.{Change}
use Rattle.inode_table.specs.declared.change.Recount.{Recount}
use Rattle.inode_table.specs.declared.change.Recount.TheVariants as recounts
use Rattle.inode_table.specs.Kept.{AreSound, CanChange}
use Rattle.inode_table.specs.RowHistory.{Table, RowHistory, RowState, File, Dir, id_order, row_at, rows_at}
use Rattle.inode_table.specs.Tabled.{Tabled, changed, changed_row, put_changed, recounted, recount_in}
use Rattle.inode_table.specs.Totals.{weight}
use Rattle.inode_table.specs.Whole.{AreInOrder}
use Rattle.inode_table.proofs.Lessening.{one_weight, weight_is}
use Rattle.inode_table.proofs.Naming.{put-total}
use Rattle.inode_table.proofs.Placing.{total-recounted}
use Rattle.inode_table.proofs.Stepping.{changed-weight}
use Rattle.table_laws.specs.Naming.{AllSound}

recounted-weight : (recount : Recount) (table : Table) → weight (recounted recount table) ≡ weight table
recounted-weight recounts.Same table = refl
recounted-weight (recounts.More id) table = weight_is (recounted (recounts.More id) table) ∙ total-recounted (λ n. n + 1) one_weight (λ r n. refl) id table ∙ sym (weight_is table)
recounted-weight (recounts.Less id) table = weight_is (recounted (recounts.Less id) table) ∙ total-recounted (λ n. n - 1) one_weight (λ r n. refl) id table ∙ sym (weight_is table)

sound-row : (table : Table) (id : InodeId) (row : RowState) → AllSound table → row_at table id ≡ Some row → AreSound row.rows
sound-row table id row sound there = by row.rows (ap (option_map (λ (r : RowState). r.rows)) there)
  where
    by : (rows : RowHistory) → rows_at table id ≡ Some rows → AreSound rows
    by (File file) is = tt
    by (Dir dir) is = sound id dir is

put-weight : (table : Table) (id : InodeId) (cover tick : ℕ) (what : Change) → AreInOrder table → AllSound table → (can : CanChange table id what) → weight (put id_order id (changed_row cover tick what can.row) table) ≤ weight table + 3
put-weight table id cover tick what order sound can =
    let sum = put-total one_weight table id can.row (changed_row cover tick what can.row) order can.there in
    let more = changed-weight cover tick what can.row.rows (sound-row table id can.row sound can.there) can.fits in
    let a = weight_is (put id_order id (changed_row cover tick what can.row) table) in
    let b = weight_is table in
    omega (arith, sum, more, a, b)

-- a change adds at most a record and two entries
pub weight-changed : (t : Tabled) (id : InodeId) (cover tick : ℕ) (what : Change) → AreInOrder t.rows → AllSound t.rows → CanChange t.rows id what → weight (changed id cover tick what t).rows ≤ weight t.rows + 3
weight-changed t id cover tick what order sound can =
    let same = recounted-weight (recount_in cover what (row_at t.rows id)) (put_changed id cover tick what (row_at t.rows id) t.rows) in
    let most = subst (λ (o : Option RowState). weight (put_changed id cover tick what o t.rows) ≤ weight t.rows + 3) (sym can.there) (put-weight t.rows id cover tick what order sound can) in
    omega (arith, same, most)
