-- The deletion of a snapshot tells how many rows went.
use Rattle.std.proofs.Common.{◌≡◌, ℕ, ◌+◌, ◌-◌, List, [], ◌∷◌, Some, length, refl, sym, ap, subst, ◌∙◌, arith}
use Rattle.std.specs.FinMap.Entries.{put}
use Rattle.hs_types.specs.declared.ids.InodeId.{InodeId}
use Rattle.inode_table.specs.declared.freed.Freed.{Freed}
use Rattle.inode_table.specs.Merged.{merged, merged_from, merged_rows, ids_dropped}
use Rattle.inode_table.specs.Names.{named_in}
use Rattle.inode_table.specs.Released.{all_named_less, without_row, let_go, ReleasedBy, Releasing}
use Rattle.inode_table.specs.RowHistory.{RowState, Table, id_order, row_at}
use Rattle.inode_table.specs.Tabled.{Tabled, named_less}
use Rattle.inode_table.specs.Totals.{total}
use Rattle.inode_table.specs.Whole.{AreInOrder}
use Rattle.inode_table.proofs.Naming.{put-total}
use Rattle.inode_table.proofs.Placing.{total-recounted}
use Rattle.table_laws.specs.NameCalls.{MergedBy}
use Rattle.table_laws.proofs.NamedTables.{order-put, order-all-less, order-without, total-without}

-- each row counts one
abbrev one : RowState → ℕ
one row = 1

ones : (table : Table) → total one table ≡ length table
ones [] = refl
ones (e ∷ es) = let rest = ones es in omega (arith, rest)

ones_less : (ids : List InodeId) (table : Table) → total one (all_named_less ids table) ≡ total one table
ones_less [] table = refl
ones_less (id ∷ ids) table = ones_less ids (named_less id table) ∙ total-recounted (λ n. n - 1) one (λ r n. refl) id table

-- a merge takes no row away
merged_ones : (t : Tabled) (id : InodeId) (i : ℕ) (row : RowState) → row_at t.rows id ≡ Some row → AreInOrder t.rows → (total one (merged id i t).rows ≡ total one t.rows) × AreInOrder (merged id i t).rows
merged_ones t id i row there order = subst (λ o. (total one (merged_from id i o t).rows ≡ total one t.rows) × AreInOrder (merged_from id i o t).rows) (sym there)
    (let new : RowState = record row { rows = merged_rows i row.rows } in
    let same = ones_less (ids_dropped i row.rows) (put id_order id new t.rows) in
    let sum = put-total one t.rows id row new order there in
    (omega (arith, same, sum), order-all-less (ids_dropped i row.rows) (put id_order id new t.rows) (order-put id new t.rows order)))

merges_ones : (t middle : Tabled) (records : List (InodeId × ℕ)) → MergedBy t records middle → AreInOrder t.rows → (total one middle.rows ≡ total one t.rows) × AreInOrder middle.rows
merges_ones t middle [] same order = (ap (λ (x : Tabled). total one x.rows) same, subst (λ (x : Tabled). AreInOrder x.rows) (sym same) order)
merges_ones t middle (first ∷ more) step order =
    let here = merged_ones t first.0 first.1 step.0 step.1 order in
    let rest = merges_ones (merged first.0 first.1 t) middle more step.3 here.1 in
    (rest.0 ∙ here.0, rest.1)

released_ones : (before : Tabled) (gone : List InodeId) (after : Tabled) → ReleasedBy before gone after → AreInOrder before.rows → total one after.rows + length gone ≡ total one before.rows
released_ones before [] after same order = let e = ap (λ (x : Tabled). total one x.rows) same in omega (arith, e)
released_ones before (id ∷ gone) after step order =
    let row = step.0 in
    let rest = released_ones (let_go id row.rows before) gone after step.2 (order-all-less (named_in row.rows) (without_row id before.rows) (order-without id before.rows order)) in
    let same = ones_less (named_in row.rows) (without_row id before.rows) in
    let fewer = total-without one before.rows id row order step.1.there in
    omega (arith, rest, same, fewer)

pub drop-rows : (t middle after : Tabled) (records : List (InodeId × ℕ)) (freed : Freed) → MergedBy t records middle → Releasing middle freed after → AreInOrder t.rows → length t.rows ≡ length after.rows + freed.rows
drop-rows t middle after records freed merges going order =
    let m = merges_ones t middle records merges order in
    let r = released_ones middle going.gone (record after { waiting = freed.blocks }) going.steps m.1 in
    let a = ones t.rows in
    let b = ones after.rows in
    omega (arith, m.0, r, a, b, going.rows)
