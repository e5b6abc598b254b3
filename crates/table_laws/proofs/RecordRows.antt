-- The rows of a table as one is put in or goes, and as names are counted anew.
use Rattle.std.proofs.Common.{◌≡◌, ℕ, Bool, true, false, cond, nat_lt, [], ◌∷◌, map, Option, Some, None, refl, sym, ap, ◌∙◌, arith}
use Rattle.std.specs.Prelude.{◌≢◌, not}
use Rattle.std.specs.Option.{option_map}
use Rattle.std.specs.Ordering.{eq_by_cmp}
use Rattle.std.specs.Cmp.{IsTotalOrder, nat_cmp_total}
use Rattle.std.specs.FinMap.{nat_cmp-IsAntisymmetric}
use Rattle.std.specs.FinMap.Entries.{put, find-put, find-where_key}
use Rattle.std.proofs.lemmas.Bool.Decides.{nat_tests}
use Rattle.hs_types.specs.declared.ids.InodeId.{InodeId}
use Rattle.hs_plain.specs.Tree.{same_inode}
use Rattle.hs_plain.proofs.ValidShapes.{none_some}
use Rattle.inode_table.specs.declared.change.Change.{Change}
use Rattle.inode_table.specs.declared.change.Recount.{Recount}
use Rattle.inode_table.specs.declared.change.Recount.TheVariants as recounts
use Rattle.inode_table.specs.Indexed.{noted}
use Rattle.inode_table.specs.Names.{named_in}
use Rattle.inode_table.specs.Released.{without_row, let_go}
use Rattle.inode_table.specs.RowHistory.{RowHistory, RowState, Table, id_order, row_at, rows_at, last_in}
use Rattle.inode_table.specs.Tabled.{Tabled, recounted, recounted_row, changed_row, changed_rows, put_changed, with_changed, starts_in, recount_in, changed, put_marks, marked_row}
use Rattle.inode_table.proofs.Going.{kept-all-less}
use Rattle.inode_table.proofs.Reading.{by_id}

abbrev rows_of : RowState → RowHistory
rows_of row = row.rows

-- ---- a row is put in

id_total : IsTotalOrder id_order
id_total = record { antisymm = λ x y. nat_cmp_total.antisymm x.0 y.0; trans = λ x y z. nat_cmp_total.trans x.0 y.0 z.0; congr = λ x y z. nat_cmp_total.congr x.0 y.0 z.0 }

tied : (x : InodeId) → eq_by_cmp id_order x x ≡ true
tied x = grind (arith, nat_tests)

not_tied : (x y : InodeId) → x ≢ y → eq_by_cmp id_order x y ≡ false
not_tied x y apart = apart_by (λ e. apart (ap (λ (n : ℕ). record { 0 = n }) e))
  where
    apart_by : (x.0 ≡ y.0 → ⊥) → eq_by_cmp id_order x y ≡ false
    apart_by ne = grind (arith, nat_tests, ne)

pub put-here : (id : InodeId) (row : RowState) (table : Table) → rows_at (put id_order id row table) id ≡ Some row.rows
put-here id row table = ap (option_map rows_of) (find-put id_order id_total id id row table ∙ ap (λ b. cond b (Some row) (row_at table id)) (tied id))

pub put-there : (id x : InodeId) (row : RowState) (table : Table) → x ≢ id → rows_at (put id_order id row table) x ≡ rows_at table x
put-there id x row table apart = ap (option_map rows_of) (find-put id_order id_total x id row table ∙ ap (λ b. cond b (Some row) (row_at table x)) (not_tied x id apart))

-- ---- names are counted anew

kept_named : (names : ℕ → ℕ) (id x : InodeId) (table : Table) → rows_at (map (recounted_row names id) table) x ≡ rows_at table x
kept_named names id x [] = refl
kept_named names id x (e ∷ es) = elim (same_inode e.0 id) as (λ b. option_map rows_of (cond (eq_by_cmp id_order x (cond b (e.0, record e.1 { names = names e.1.names }) e).0) (Some (cond b (e.0, record e.1 { names = names e.1.names }) e).1) (row_at (map (recounted_row names id) es) x)) ≡ rows_at (e ∷ es) x) [
  | true ↦ elim (eq_by_cmp id_order x e.0) as (λ b. option_map rows_of (cond b (Some (record e.1 { names = names e.1.names })) (row_at (map (recounted_row names id) es) x)) ≡ option_map rows_of (cond b (Some e.1) (row_at es x))) [
    | true ↦ refl
    | false ↦ kept_named names id x es
  ]
  | false ↦ elim (eq_by_cmp id_order x e.0) as (λ b. option_map rows_of (cond b (Some e.1) (row_at (map (recounted_row names id) es) x)) ≡ option_map rows_of (cond b (Some e.1) (row_at es x))) [
    | true ↦ refl
    | false ↦ kept_named names id x es
  ]
]

kept_recounted : (recount : Recount) (x : InodeId) (table : Table) → rows_at (recounted recount table) x ≡ rows_at table x
kept_recounted recounts.Same x table = refl
kept_recounted (recounts.More id) x table = kept_named _ id x table
kept_recounted (recounts.Less id) x table = kept_named _ id x table

-- ---- a row is changed

pub changed-here : (t : Tabled) (id : InodeId) (number tick : ℕ) (what : Change) (row : RowState) → row_at t.rows id ≡ Some row → rows_at (changed id number tick what t).rows id ≡ Some (changed_rows number tick what row.rows)
changed-here t id number tick what row there = kept_recounted (recount_in number what (row_at t.rows id)) id (with_changed id number tick what t.rows)
    ∙ ap (λ (o : Option RowState). rows_at (put_changed id number tick what o t.rows) id) there
    ∙ put-here id (changed_row number tick what row) t.rows

pub changed-there : (t : Tabled) (id x : InodeId) (number tick : ℕ) (what : Change) (row : RowState) → row_at t.rows id ≡ Some row → x ≢ id → rows_at (changed id number tick what t).rows x ≡ rows_at t.rows x
changed-there t id x number tick what row there apart = kept_recounted (recount_in number what (row_at t.rows id)) x (with_changed id number tick what t.rows)
    ∙ ap (λ (o : Option RowState). rows_at (put_changed id number tick what o t.rows) x) there
    ∙ put-there id x (changed_row number tick what row) t.rows apart

pub changed-index : (t : Tabled) (id : InodeId) (number tick : ℕ) (what : Change) (row : RowState) → row_at t.rows id ≡ Some row
    → (changed id number tick what t).index ≡ cond (nat_lt (last_in row.rows) number) (noted tick id t.index) t.index
changed-index t id number tick what row there = ap (λ (o : Option RowState). cond (starts_in number o) (noted tick id t.index) t.index) there

-- ---- a row gets marks

pub marked-same : (t : Tabled) (id x : InodeId) (since carry : ℕ) → rows_at (marked_row id since carry t).rows x ≡ rows_at t.rows x
marked-same t id x since carry = by (row_at t.rows id) refl
  where
    by : (o : Option RowState) → row_at t.rows id ≡ o → rows_at (put_marks id since carry o t.rows) x ≡ rows_at t.rows x
    by None e = refl
    by (Some row) e = by_id x id
        (λ same. ap (λ (i : InodeId). rows_at (put id_order id (record row { since = since; carry = carry }) t.rows) i) same ∙ put-here id (record row { since = since; carry = carry }) t.rows
        ∙ sym (ap (option_map rows_of) e) ∙ ap (rows_at t.rows) (sym same))
        (λ apart. put-there id x (record row { since = since; carry = carry }) t.rows apart)

-- ---- a row goes

without_was : (id x : InodeId) (table : Table) (rows : RowHistory) → rows_at (without_row id table) x ≡ Some rows → rows_at table x ≡ Some rows
without_was id x table rows h = by (not (same_inode x id))
    (sym (ap (option_map rows_of) (find-where_key id_order (λ other. not (same_inode other id)) x (λ y tie. ap (λ (n : ℕ). not (same_inode (record { 0 = n }) id)) (sym (nat_cmp-IsAntisymmetric x.0 y.0 tie))) table)) ∙ h)
  where
    by : (b : Bool) → option_map rows_of (cond b (row_at table x) None) ≡ Some rows → rows_at table x ≡ Some rows
    by true k = k
    by false k = absurd (none_some k)

-- what is left was there
pub gone-was : (t : Tabled) (id x : InodeId) (gone rows : RowHistory) → rows_at (let_go id gone t).rows x ≡ Some rows → rows_at t.rows x ≡ Some rows
gone-was t id x gone rows h = without_was id x t.rows rows (sym (kept-all-less (option_map rows_of) (λ r n. refl) (named_in gone) x (without_row id t.rows)) ∙ h)
