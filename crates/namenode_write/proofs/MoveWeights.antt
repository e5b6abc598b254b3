-- The weight of a table as a row gets other marks.
use Rattle.std.proofs.Common.{◌≡◌, ℕ, Option, Some, None, refl, arith}
use Rattle.std.specs.FinMap.Entries.{put}
use Rattle.hs_types.specs.declared.ids.InodeId.{InodeId}
use Rattle.inode_table.specs.RowHistory.{RowState, id_order, row_at}
use Rattle.inode_table.specs.Tabled.{Tabled, put_marks, marked_row}
use Rattle.inode_table.specs.Totals.{weight}
use Rattle.inode_table.specs.Whole.{AreInOrder}
use Rattle.inode_table.proofs.Lessening.{one_weight, weight_is}
use Rattle.inode_table.proofs.Naming.{put-total}

pub weight-marked : (t : Tabled) (id : InodeId) (since carry : ℕ) → AreInOrder t.rows → weight (marked_row id since carry t).rows ≡ weight t.rows
weight-marked t id since carry order = by (row_at t.rows id) refl
  where
    by : (o : Option RowState) → row_at t.rows id ≡ o → weight (put_marks id since carry o t.rows) ≡ weight t.rows
    by None e = refl
    by (Some row) e =
        let new : RowState = record row { since = since; carry = carry } in
        let sum = put-total one_weight t.rows id row new order e in
        let a = weight_is (put id_order id new t.rows) in
        let b = weight_is t.rows in
        omega (arith, sum, a, b)
