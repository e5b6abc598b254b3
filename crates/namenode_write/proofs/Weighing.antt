-- What new rows add to a table's weight, and that changes keep its order.
use Rattle.std.proofs.Common.{◌≡◌, ℕ, ◌+◌, ◌≤◌, [], ◌∷◌, refl, sym, subst, arith}
use Rattle.std.specs.declared.cmp.Ordering.TheVariants.{Less, Equal, Greater}
use Rattle.std.specs.FinMap.Entries.{put, by_order}
use Rattle.hs_types.specs.declared.ids.InodeId.{InodeId}
use Rattle.inode_table.specs.declared.change.Change.{Change}
use Rattle.inode_table.specs.Kept.{IsBare, CanChange}
use Rattle.inode_table.specs.RowHistory.{Table, RowHistory, RowState, File, Dir, id_order}
use Rattle.inode_table.specs.Tabled.{Tabled, changed, changed_row, inserted, fresh_row, recount_of, begun_rows}
use Rattle.inode_table.specs.Totals.{total, weight, records_in, entries_of}
use Rattle.inode_table.specs.Whole.{AreInOrder}
use Rattle.inode_table.proofs.Lessening.{one_weight, weight_is}
use Rattle.table_laws.proofs.BlockSteps.{changed-is}
use Rattle.table_laws.proofs.NamedSteps.{order-recount}
use Rattle.table_laws.proofs.NamedTables.{order-put}

-- ---- a new row

bare-weight : (rows : RowHistory) → IsBare rows → records_in rows + entries_of rows ≡ 0
bare-weight (File file) bare = rw bare refl
bare-weight (Dir dir) bare = rw (bare.0, bare.1) refl

-- what is put in adds at most itself
put-most : (w : RowState → ℕ) (id : InodeId) (v : RowState) (table : Table) → total w (put id_order id v table) ≤ total w table + w v
put-most w id v [] = omega arith
put-most w id v (e ∷ es) = elim (id_order id e.0) as (λ o. total w (by_order o ((id, v) ∷ e ∷ es) ((e.0, v) ∷ es) (e ∷ put id_order id v es)) ≤ total w (e ∷ es) + w v) [
  | Less ↦ omega arith
  | Equal ↦ omega arith
  | Greater ↦ let rest = put-most w id v es in omega (arith, rest)
]

pub weight-inserted : (t : Tabled) (id : InodeId) (rows : RowHistory) (since : ℕ) → IsBare rows → weight (inserted id rows since t).rows ≤ weight t.rows + 1
weight-inserted t id rows since bare =
    let most = put-most one_weight id (fresh_row rows since) t.rows in
    let none = bare-weight rows bare in
    let a = weight_is (put id_order id (fresh_row rows since) t.rows) in
    let b = weight_is t.rows in
    omega (arith, most, none, a, b)

-- ---- order

pub order-changed : (t : Tabled) (id : InodeId) (cover tick : ℕ) (what : Change) → CanChange t.rows id what → AreInOrder t.rows → AreInOrder (changed id cover tick what t).rows
order-changed t id cover tick what can order = subst AreInOrder (sym (changed-is t id cover tick what can.row can.there))
    (order-recount (put id_order id (changed_row cover tick what can.row) t.rows) (recount_of what (begun_rows cover can.row.rows)) (order-put id (changed_row cover tick what can.row) t.rows order))
