-- Plain tables: what stands in them, and how often they name, as a row is put in, goes, or is named otherwise.
use Rattle.std.proofs.Common.{◌≡◌, ℕ, ◌+◌, ◌-◌, Bool, true, false, cond, not, ◌&&◌, List, [], ◌∷◌, map, Option, Some, None, is_some, refl, sym, ap, subst, ◌∙◌, is_lt, arith}
use Rattle.std.specs.Prelude.{◌≢◌}
use Rattle.std.specs.Option.{option_map}
use Rattle.std.specs.Ordering.{eq_by_cmp}
use Rattle.std.specs.Cmp.{IsTotalOrder, nat_cmp_total, on_total}
use Rattle.std.specs.FinMap.Entries.{put, find-put, is_sorted, below_all, is_sorted-put, is_sorted-where_key}
use Rattle.std.proofs.lemmas.Bool.Decides.{Decides-eqb, nat_tests}
use Rattle.hs_types.specs.declared.ids.InodeId.{InodeId}
use Rattle.hs_plain.specs.Tree.{same_inode}
use Rattle.hs_plain.proofs.ValidTrees.{first, second, holds_so, is_so}
use Rattle.hs_plain.proofs.ValidShapes.{none_some, same_some}
use Rattle.dir_changes.specs.Counts.{times, one_where, same_id}
use Rattle.inode_table.specs.RowHistory.{RowState, Table, id_order, row_at, rows_at}
use Rattle.inode_table.specs.Names.{named_in, times_named}
use Rattle.inode_table.specs.Tabled.{recounted_row, named_less, named_more}
use Rattle.inode_table.specs.Released.{all_named_less, without_row}
use Rattle.inode_table.specs.Totals.{total}
use Rattle.inode_table.proofs.Reading.{by_id, same_id_so}
use Rattle.inode_table.proofs.Placing.{total-recounted}
use Rattle.inode_table.specs.Whole.{AreInOrder}
use Rattle.inode_table.proofs.Going.{row_at-without}

-- ---- ids

pub ids_total : IsTotalOrder id_order
ids_total = on_total (λ (i : InodeId). i.0) nat_cmp_total

untied : (x y : InodeId) → (x.0 ≡ y.0 → ⊥) → eq_by_cmp id_order x y ≡ false
untied x y apart = grind (arith, nat_tests, apart)

pub not-tied : (x y : InodeId) → x ≢ y → eq_by_cmp id_order x y ≡ false
not-tied x y apart = untied x y (λ e. apart (same_id_so x y e))

pub tied-same : (x y : InodeId) → x ≡ y → eq_by_cmp id_order x y ≡ true
tied-same x y same = let e : x.0 ≡ y.0 = ap (λ (i : InodeId). i.0) same in grind (arith, nat_tests, e)

pub is-same : (x y : InodeId) → x ≡ y → same_inode x y ≡ true
is-same x y same = (Decides-eqb x.0 y.0).1 (ap (λ (i : InodeId). i.0) same)

pub is-other : (x y : InodeId) → x ≢ y → same_inode x y ≡ false
is-other x y apart = elim (same_inode x y) as (λ b. same_inode x y ≡ b → b ≡ false) [
  | true ↦ λ e. absurd (apart (same_id_so x y ((Decides-eqb x.0 y.0).0 e)))
  | false ↦ λ e. refl
] refl

pub one-same : (x y : InodeId) → x ≡ y → one_where (same_id x y) ≡ 1
one-same x y same = ap one_where (is-same x y same)

pub one-other : (x y : InodeId) → x ≢ y → one_where (same_id x y) ≡ 0
one-other x y apart = ap one_where (is-other x y apart)

-- ---- a row is put in

pub row-put-here : (id : InodeId) (v : RowState) (t : Table) → row_at (put id_order id v t) id ≡ Some v
row-put-here id v t = find-put id_order ids_total id id v t ∙ ap (λ b. cond b (Some v) (row_at t id)) (tied-same id id refl)

pub row-put-there : (id x : InodeId) (v : RowState) (t : Table) → x ≢ id → row_at (put id_order id v t) x ≡ row_at t x
row-put-there id x v t apart = find-put id_order ids_total x id v t ∙ ap (λ b. cond b (Some v) (row_at t x)) (not-tied x id apart)

pub order-put : (id : InodeId) (v : RowState) (t : Table) → AreInOrder t → AreInOrder (put id_order id v t)
order-put id v t h = is_so _ (is_sorted-put id_order ids_total id v t (holds_so h))

-- ---- a row is named otherwise

module _ (f : ℕ → ℕ) (id : InodeId) where
  pub row-recounted-here : (t : Table) → row_at (map (recounted_row f id) t) id ≡ option_map (λ (r : RowState). record r { names = f r.names }) (row_at t id)
  row-recounted-here [] = refl
  row-recounted-here (e ∷ es) = by_id e.0 id
      (λ same. let a = is-same e.0 id same in let b = tied-same id e.0 (sym same) in rw (a, b) refl)
      (λ apart. let a = is-other e.0 id apart in let b = not-tied id e.0 (λ s. apart (sym s)) in rw (a, b) (row-recounted-here es))

  pub row-recounted-there : (x : InodeId) (t : Table) → x ≢ id → row_at (map (recounted_row f id) t) x ≡ row_at t x
  row-recounted-there x [] other = refl
  row-recounted-there x (e ∷ es) other = by_id e.0 id
      (λ same. let a = is-same e.0 id same in let b = not-tied x e.0 (λ s. other (s ∙ same)) in rw (a, b) (row-recounted-there x es other))
      (λ apart. let a = is-other e.0 id apart in rw a (ap (λ (o : Option RowState). cond (eq_by_cmp id_order x e.0) (Some e.1) o) (row-recounted-there x es other)))

  below_recounted : (k : InodeId) (t : Table) → below_all id_order k (map (recounted_row f id) t) ≡ below_all id_order k t
  below_recounted k [] = refl
  below_recounted k (e ∷ es) = elim (same_inode e.0 id) as (λ b. (is_lt (id_order k (cond b (e.0, record e.1 { names = f e.1.names }) e).0) && below_all id_order k (map (recounted_row f id) es)) ≡ below_all id_order k (e ∷ es)) [
    | true ↦ ap (λ b. is_lt (id_order k e.0) && b) (below_recounted k es)
    | false ↦ ap (λ b. is_lt (id_order k e.0) && b) (below_recounted k es)
  ]

  sorted_recounted : (t : Table) → is_sorted id_order (map (recounted_row f id) t) ≡ is_sorted id_order t
  sorted_recounted [] = refl
  sorted_recounted (e ∷ es) =
      let below = below_recounted e.0 es in
      let rest = sorted_recounted es in
      elim (same_inode e.0 id) as (λ b. (below_all id_order (cond b (e.0, record e.1 { names = f e.1.names }) e).0 (map (recounted_row f id) es) && is_sorted id_order (map (recounted_row f id) es)) ≡ is_sorted id_order (e ∷ es)) [
        | true ↦ rw (below, rest) refl
        | false ↦ rw (below, rest) refl
      ]

  pub order-recounted : (t : Table) → AreInOrder t → AreInOrder (map (recounted_row f id) t)
  order-recounted t h = sorted_recounted t ∙ h

  pub times-recounted : (x : InodeId) (t : Table) → times_named x (map (recounted_row f id) t) ≡ times_named x t
  times-recounted x t = total-recounted f (λ row. times x (named_in row.rows)) (λ row n. refl) id t

  same_rows : (o : Option RowState) → option_map (λ (r : RowState). r.rows) (option_map (λ (r : RowState). record r { names = f r.names }) o) ≡ option_map (λ (r : RowState). r.rows) o
  same_rows None = refl
  same_rows (Some row) = refl

  same_some_row : (o : Option RowState) → is_some (option_map (λ (r : RowState). record r { names = f r.names }) o) ≡ is_some o
  same_some_row None = refl
  same_some_row (Some row) = refl

  pub rows-recounted : (x : InodeId) (t : Table) → rows_at (map (recounted_row f id) t) x ≡ rows_at t x
  rows-recounted x t = by_id x id
      (λ same. subst (λ (y : InodeId). rows_at (map (recounted_row f id) t) y ≡ rows_at t y) (sym same) (ap (option_map (λ (r : RowState). r.rows)) (row-recounted-here t) ∙ same_rows (row_at t id)))
      (λ apart. ap (option_map (λ (r : RowState). r.rows)) (row-recounted-there x t apart))

  pub some-recounted : (x : InodeId) (t : Table) → is_some (row_at (map (recounted_row f id) t) x) ≡ is_some (row_at t x)
  some-recounted x t = by_id x id
      (λ same. subst (λ (y : InodeId). is_some (row_at (map (recounted_row f id) t) y) ≡ is_some (row_at t y)) (sym same) (ap is_some (row-recounted-here t) ∙ same_some_row (row_at t id)))
      (λ apart. ap is_some (row-recounted-there x t apart))

-- and several
pub order-all-less : (ids : List InodeId) (t : Table) → AreInOrder t → AreInOrder (all_named_less ids t)
order-all-less [] t h = h
order-all-less (id ∷ ids) t h = order-all-less ids (named_less id t) (order-recounted (λ n. n - 1) id t h)

pub times-all-less : (ids : List InodeId) (x : InodeId) (t : Table) → times_named x (all_named_less ids t) ≡ times_named x t
times-all-less [] x t = refl
times-all-less (id ∷ ids) x t = times-all-less ids x (named_less id t) ∙ times-recounted (λ n. n - 1) id x t

pub rows-all-less : (ids : List InodeId) (x : InodeId) (t : Table) → rows_at (all_named_less ids t) x ≡ rows_at t x
rows-all-less [] x t = refl
rows-all-less (id ∷ ids) x t = rows-all-less ids x (named_less id t) ∙ rows-recounted (λ n. n - 1) id x t

pub some-all-less : (ids : List InodeId) (x : InodeId) (t : Table) → is_some (row_at (all_named_less ids t) x) ≡ is_some (row_at t x)
some-all-less [] x t = refl
some-all-less (id ∷ ids) x t = some-all-less ids x (named_less id t) ∙ some-recounted (λ n. n - 1) id x t

-- ---- a row goes

pub order-without : (id : InodeId) (t : Table) → AreInOrder t → AreInOrder (without_row id t)
order-without id t h = is_so _ (is_sorted-where_key id_order (λ other. not (same_inode other id)) t (holds_so h))

pub row-without-here : (id : InodeId) (t : Table) → row_at (without_row id t) id ≡ None
row-without-here id [] = refl
row-without-here id (e ∷ es) = by_id e.0 id
    (λ same. let a = is-same e.0 id same in rw a (row-without-here id es))
    (λ apart. let a = is-other e.0 id apart in let b = not-tied id e.0 (λ s. apart (sym s)) in rw (a, b) (row-without-here id es))

-- where there is none, nothing goes
without_none : (id : InodeId) (t : Table) → row_at t id ≡ None → without_row id t ≡ t
without_none id [] h = refl
without_none id (e ∷ es) h = by_id e.0 id
    (λ same. let b = tied-same id e.0 (sym same) in absurd (none_some (sym h ∙ ap (λ t. cond t (Some e.1) (row_at es id)) b)))
    (λ apart. let a = is-other e.0 id apart in let b = not-tied id e.0 (λ s. apart (sym s)) in
    let rest : row_at es id ≡ None = ap (λ t. cond t (Some e.1) (row_at es id)) (sym b) ∙ h in
    rw a (ap (λ (t : Table). e ∷ t) (without_none id es rest)))

below_none : (k : InodeId) (t : Table) → below_all id_order k t ≡ true → row_at t k ≡ None
below_none k [] h = refl
below_none k (e ∷ es) h =
    let here = first (is_lt (id_order k e.0)) (below_all id_order k es) h in
    let rest = below_none k es (second (is_lt (id_order k e.0)) (below_all id_order k es) h) in
    by_id k e.0
    (λ same. absurd (not_less (λ b. b) (sym here ∙ ap (λ (i : InodeId). is_lt (id_order k i)) (sym same))))
    (λ apart. let b = not-tied k e.0 apart in rw b rest)
  where
    not_less : (Bool → Bool) → true ≡ is_lt (id_order k k) → ⊥
    not_less f h = grind (arith, nat_tests, h)

pub total-without : (weight : RowState → ℕ) (t : Table) (id : InodeId) (row : RowState) → AreInOrder t → row_at t id ≡ Some row → total weight (without_row id t) + weight row ≡ total weight t
total-without weight [] id row sorted h = absurd (none_some h)
total-without weight (e ∷ es) id row sorted h = by_id e.0 id
    (λ same. let a = is-same e.0 id same in let b = tied-same id e.0 (sym same) in
    let is : e.1 ≡ row = same_some (ap (λ t. cond t (Some e.1) (row_at es id)) (sym b) ∙ h) in
    let none : row_at es id ≡ None = subst (λ (k : InodeId). row_at es k ≡ None) same (below_none e.0 es (first (below_all id_order e.0 es) _ sorted)) in
    let rest = ap (total weight) (without_none id es none) in
    let here = ap weight is in
    rw a (omega (arith, rest, here)))
    (λ apart. let a = is-other e.0 id apart in let b = not-tied id e.0 (λ s. apart (sym s)) in
    let there : row_at es id ≡ Some row = ap (λ t. cond t (Some e.1) (row_at es id)) (sym b) ∙ h in
    let rest = total-without weight es id row (second (below_all id_order e.0 es) _ sorted) there in
    rw a (omega (arith, rest)))

-- ---- true counts

-- each row is named by the lists, and once more for each of these ids
pub record Counted (t : Table) (more : List InodeId) : Type 0 where
  pub counted : (x : InodeId) (row : RowState) → row_at t x ≡ Some row → row.names ≡ times_named x t + times x more

module _ (id : InodeId) {P : Type 0} (f : ℕ → ℕ) (row : RowState) where
  -- what a row was that is named otherwise
  pub from-renamed : (o : Option RowState) → option_map (λ (r : RowState). record r { names = f r.names }) o ≡ Some row → ((old : RowState) → o ≡ Some old → row.names ≡ f old.names → P) → P
  from-renamed None h then = absurd (none_some h)
  from-renamed (Some old) h then = then old refl (ap (λ (r : RowState). r.names) (sym (same_some h)))

pub counted-less : (id : InodeId) (rest : List InodeId) (t : Table) → Counted t (id ∷ rest) → Counted (named_less id t) rest
counted-less id rest t are = record {
  counted = λ x row h. let same = times-recounted (λ n. n - 1) id x t in by_id x id
      (λ e. from-renamed id (λ n. n - 1) row (row_at t id) (sym (row-recounted-here (λ n. n - 1) id t) ∙ ap (row_at (named_less id t)) (sym e) ∙ h) (λ old was names.
      let count = are.counted x old (ap (row_at t) e ∙ was) in
      let one = one-same id x (sym e) in
      omega (arith, count, same, one, names)))
      (λ ne. let count = are.counted x row (sym (row-recounted-there (λ n. n - 1) id x t ne) ∙ h) in
      let none = one-other id x (λ s. ne (sym s)) in
      omega (arith, count, same, none));
}

pub counted-all-less : (ids : List InodeId) (t : Table) → Counted t ids → Counted (all_named_less ids t) []
counted-all-less [] t are = are
counted-all-less (id ∷ ids) t are = counted-all-less ids (named_less id t) (counted-less id ids t are)

pub counted-more : (id : InodeId) (t : Table) → ((x : InodeId) (row : RowState) → row_at t x ≡ Some row → row.names + one_where (same_id id x) ≡ times_named x t) → Counted (named_more id t) []
counted-more id t are = record {
  counted = λ x row h. let same = times-recounted (λ n. n + 1) id x t in by_id x id
      (λ e. from-renamed id (λ n. n + 1) row (row_at t id) (sym (row-recounted-here (λ n. n + 1) id t) ∙ ap (row_at (named_more id t)) (sym e) ∙ h) (λ old was names.
      let count = are x old (ap (row_at t) e ∙ was) in
      let one = one-same id x (sym e) in
      omega (arith, count, same, one, names)))
      (λ ne. let count = are x row (sym (row-recounted-there (λ n. n + 1) id x t ne) ∙ h) in
      let none = one-other id x (λ s. ne (sym s)) in
      omega (arith, count, same, none));
}
