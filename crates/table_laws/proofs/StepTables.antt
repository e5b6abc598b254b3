-- One call of a table: what it does to the rows and the marks.
use Rattle.std.proofs.Common.{◌≡◌, ℕ, ◌+◌, true, false, cond, [], ◌∷◌, Option, Some, None, map, refl, sym, ap, subst, ◌∙◌, arith}
use Rattle.std.specs.Prelude.{◌≢◌, ◌-◌}
use Rattle.std.specs.Option.{option_map}
use Rattle.std.specs.Ordering.{eq_by_cmp, is_eq}
use Rattle.std.specs.FinMap.{nat_cmp-IsAntisymmetric}
use Rattle.std.specs.declared.cmp.Ordering.TheVariants.{Less, Equal, Greater}
use Rattle.std.specs.FinMap.Entries.{put, by_order}
use Rattle.std.proofs.lemmas.Bool.Decides.{nat_tests}
use Rattle.hs_types.specs.declared.ids.InodeId.{InodeId}
use Rattle.hs_plain.specs.Tree.{same_inode}
use Rattle.inode_table.specs.declared.change.Change.{Change}
use Rattle.inode_table.specs.declared.change.Recount.{Recount}
use Rattle.inode_table.specs.declared.change.Recount.TheVariants as recounts
use Rattle.inode_table.specs.RowHistory.{RowHistory, RowState, Table, row_at, rows_at, marks_of, mark_of, id_order, Changed}
use Rattle.inode_table.specs.Deeds.{Inserts}
use Rattle.inode_table.specs.Kept.{AreSound, CanChange, FitsRows}
use Rattle.inode_table.specs.Tabled.{Tabled, recounted_row, recounted, put_changed, changed_row, changed_rows, changed, recount_in, fresh_row, inserted, put_marks, marked_row}
use Rattle.inode_table.proofs.Reading.{by_id}
use Rattle.table_laws.specs.Steps.{ChangesRow, Remarks}
use Rattle.table_laws.proofs.StepRows.{changes-row}

-- ---- a row put into a table

not_tied : (x y : InodeId) → x ≢ y → eq_by_cmp id_order x y ≡ false
not_tied x y apart = apart_by (λ e. apart (ap (λ (n : ℕ). record { 0 = n }) e))
  where
    apart_by : (x.0 ≡ y.0 → ⊥) → eq_by_cmp id_order x y ≡ false
    apart_by ne = grind (arith, nat_tests, ne)

tied : (x : InodeId) → eq_by_cmp id_order x x ≡ true
tied x = grind (arith, nat_tests)

pub put-there : (id x : InodeId) (v : RowState) (t : Table) → x ≢ id → row_at (put id_order id v t) x ≡ row_at t x
put-there id x v [] apart = ap (λ b. cond b (Some v) None) (not_tied x id apart)
put-there id x v (e ∷ es) apart = elim (id_order id e.0) as (λ o. id_order id e.0 ≡ o → row_at (by_order o ((id, v) ∷ e ∷ es) ((e.0, v) ∷ es) (e ∷ put id_order id v es)) x ≡ row_at (e ∷ es) x) [
  | Less ↦ λ t. ap (λ b. cond b (Some v) (row_at (e ∷ es) x)) (not_tied x id apart)
  | Equal ↦ λ t. let other = not_tied x e.0 (λ same. apart (same ∙ ap (λ (n : ℕ). record { 0 = n }) (sym (nat_cmp-IsAntisymmetric id.0 e.0.0 t)))) in
      ap (λ b. cond b (Some v) (row_at es x)) other ∙ sym (ap (λ b. cond b (Some e.1) (row_at es x)) other)
  | Greater ↦ λ t. ap (λ o. cond (eq_by_cmp id_order x e.0) (Some e.1) o) (put-there id x v es apart)
] refl

pub put-here : (id : InodeId) (v : RowState) (t : Table) → row_at (put id_order id v t) id ≡ Some v
put-here id v [] = ap (λ b. cond b (Some v) None) (tied id)
put-here id v (e ∷ es) = elim (id_order id e.0) as (λ o. id_order id e.0 ≡ o → row_at (by_order o ((id, v) ∷ e ∷ es) ((e.0, v) ∷ es) (e ∷ put id_order id v es)) id ≡ Some v) [
  | Less ↦ λ t. ap (λ b. cond b (Some v) (row_at (e ∷ es) id)) (tied id)
  | Equal ↦ λ t. ap (λ o. cond (is_eq o) (Some v) (row_at es id)) t
  | Greater ↦ λ t. ap (λ o. cond (is_eq o) (Some e.1) (row_at (put id_order id v es) id)) t ∙ put-here id v es
] refl

-- ---- what doesn't look at names

module _ {Y : Type 0} (h : Option RowState → Y) (blind : (r : RowState) (n : ℕ) → h (Some (record r { names = n })) ≡ h (Some r)) where
  renamed : (f : ℕ → ℕ) (id x : InodeId) (t : Table) → h (row_at (map (recounted_row f id) t) x) ≡ h (row_at t x)
  renamed f id x [] = refl
  renamed f id x (e ∷ es) = elim (same_inode e.0 id) as (λ b. h (cond (eq_by_cmp id_order x (cond b (e.0, record e.1 { names = f e.1.names }) e).0) (Some (cond b (e.0, record e.1 { names = f e.1.names }) e).1) (row_at (map (recounted_row f id) es) x)) ≡ h (row_at (e ∷ es) x)) [
    | true ↦ elim (eq_by_cmp id_order x e.0) as (λ b. h (cond b (Some (record e.1 { names = f e.1.names })) (row_at (map (recounted_row f id) es) x)) ≡ h (cond b (Some e.1) (row_at es x))) [
      | true ↦ blind e.1 (f e.1.names)
      | false ↦ renamed f id x es
    ]
    | false ↦ elim (eq_by_cmp id_order x e.0) as (λ b. h (cond b (Some e.1) (row_at (map (recounted_row f id) es) x)) ≡ h (cond b (Some e.1) (row_at es x))) [
      | true ↦ refl
      | false ↦ renamed f id x es
    ]
  ]

  pub same-recounted : (r : Recount) (x : InodeId) (t : Table) → h (row_at (recounted r t) x) ≡ h (row_at t x)
  same-recounted recounts.Same x t = refl
  same-recounted (recounts.More id) x t = renamed (λ n. n + 1) id x t
  same-recounted (recounts.Less id) x t = renamed (λ n. n - 1) id x t

abbrev rows_of : Option RowState → Option RowHistory
rows_of row = option_map (λ r. r.rows) row

-- ---- the calls

pub changed-row : (t : Tabled) (id : InodeId) (number tick : ℕ) (what : Change) (row : RowState) → row_at t.rows id ≡ Some row → FitsRows what row.rows → AreSound row.rows
    → Changed t.rows (changed id number tick what t).rows id number row.rows (changed_rows number tick what row.rows)
changed-row t id number tick what row there fits sound = subst (λ (o : Option RowState). Changed t.rows (recounted (recount_in number what o) (put_changed id number tick what o t.rows)) id number row.rows (changed_rows number tick what row.rows)) (sym there) (record {
  was = ap rows_of there;
  here = same-recounted rows_of (λ r n. refl) (recount_in number what (Some row)) id (put id_order id new t.rows) ∙ ap rows_of (put-here id new t.rows);
  there = λ other ne. same-recounted rows_of (λ r n. refl) (recount_in number what (Some row)) other (put id_order id new t.rows) ∙ ap rows_of (put-there id other new t.rows ne);
  reads = step.reads;
  last = step.last;
  marks = λ other. same-recounted mark_of (λ r n. refl) (recount_in number what (Some row)) other (put id_order id new t.rows) ∙ by_id other id
      (λ e. ap (λ (j : InodeId). marks_of (put id_order id new t.rows) j) e ∙ ap mark_of (put-here id new t.rows) ∙ sym (ap mark_of there) ∙ sym (ap (λ (j : InodeId). marks_of t.rows j) e))
      (λ ne. ap mark_of (put-there id other new t.rows ne));
})
  where
    new : RowState
    new = changed_row number tick what row

    step : ChangesRow number tick what row.rows (changed_rows number tick what row.rows)
    step = changes-row number tick what row.rows sound fits

pub changed-step : (t : Tabled) (id : InodeId) (number tick : ℕ) (what : Change) (can : CanChange t.rows id what) → AreSound can.row.rows
    → Changed t.rows (changed id number tick what t).rows id number can.row.rows (changed_rows number tick what can.row.rows)
changed-step t id number tick what can sound = changed-row t id number tick what can.row can.there can.fits sound

pub inserted-step : (t : Tabled) (id : InodeId) (rows : RowHistory) (since : ℕ) → Inserts t.rows (inserted id rows since t).rows since id rows
inserted-step t id rows since = record {
  here = ap rows_of (put-here id (fresh_row rows since) t.rows);
  there = λ other ne. ap rows_of (put-there id other (fresh_row rows since) t.rows ne);
  mark = ap mark_of (put-here id (fresh_row rows since) t.rows);
  marks = λ other ne. ap mark_of (put-there id other (fresh_row rows since) t.rows ne);
}

-- a row whose states are there
row_of_rows : (o : Option RowState) (rows : RowHistory) → rows_of o ≡ Some rows → (row : RowState) × (o ≡ Some row)
row_of_rows None rows h = cc
row_of_rows (Some row) rows h = (row, refl)

pub row-there : (t : Table) (id : InodeId) (rows : RowHistory) → rows_at t id ≡ Some rows → (row : RowState) × (row_at t id ≡ Some row)
row-there t id rows h = row_of_rows (row_at t id) rows h

pub marked-step : (t : Tabled) (id : InodeId) (since carry : ℕ) (rows : RowHistory) → rows_at t.rows id ≡ Some rows → Remarks t.rows (marked_row id since carry t).rows id since carry
marked-step t id since carry rows was = let found = row-there t.rows id rows was in marked_as found.0 found.1
  where
    marked_as : (row : RowState) → row_at t.rows id ≡ Some row → Remarks t.rows (marked_row id since carry t).rows id since carry
    marked_as row there = subst (λ (o : Option RowState). Remarks t.rows (put_marks id since carry o t.rows) id since carry) (sym there) (record {
      rows = λ other. by_id other id
          (λ e. ap (rows_at (put id_order id (record row { since = since; carry = carry }) t.rows)) e ∙ ap rows_of (put-here id (record row { since = since; carry = carry }) t.rows) ∙ sym (ap rows_of there) ∙ ap (rows_at t.rows) (sym e))
          (λ ne. ap rows_of (put-there id other (record row { since = since; carry = carry }) t.rows ne));
      here = ap mark_of (put-here id (record row { since = since; carry = carry }) t.rows);
      there = λ other ne. ap mark_of (put-there id other (record row { since = since; carry = carry }) t.rows ne);
    })
