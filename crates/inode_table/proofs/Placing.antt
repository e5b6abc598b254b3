-- Rows at their places: one written, one put behind all, one named otherwise; and sums over them.
use Rattle.std.proofs.Common.{◌≡◌, ℕ, zero, suc, ◌+◌, ◌<◌, ◌≤◌, true, false, cond, List, [], ◌∷◌, ◌++◌, Option, Some, None, slice_get, get_or, set, map, length, refl, sym, ap, ◌∙◌, arith}
use Rattle.std.specs.Prelude.{◌≢◌, IsSome}
use Rattle.std.specs.Option.{option_map}
use Rattle.std.specs.Ordering.{eq_by_cmp, is_eq}
use Rattle.std.specs.declared.cmp.Ordering.TheVariants.{Less, Equal, Greater}
use Rattle.std.specs.FinMap.Entries.{put, by_order, is_sorted, below_all}
use Rattle.std.proofs.lemmas.Bool.Decides.{nat_tests}
use Rattle.std.proofs.lemmas.Option.{slice_get_within, slice_get-get_or, slice_get_past}
use Rattle.hs_types.specs.declared.ids.InodeId.{InodeId}
use Rattle.hs_plain.specs.Tree.{same_inode}
use Rattle.hs_plain.proofs.ValidShapes.{none_some, same_some, true_false}
use Rattle.inode_table.specs.declared.row.Row.{Row}
use Rattle.inode_table.specs.RowHistory.{RowState, Table, id_order, row_at}
use Rattle.inode_table.specs.Numbered.{numbered, table_of, state_of, row_of, at_place, flat, with_names}
use Rattle.inode_table.specs.Slots.{Slots, table_in}
use Rattle.inode_table.specs.Tabled.{recounted_row}
use Rattle.inode_table.specs.Totals.{total}
use Rattle.inode_table.proofs.Numbers.{found}
use Rattle.inode_table.proofs.Telling.{row-told}
use Rattle.inode_table.proofs.Naming.{put-total}

abbrev pub from : ℕ → Slots → Table
from n rows = table_of (numbered n rows)

is_less : (id : InodeId) (n : ℕ) → id.0 < n → id_order id (record { 0 = n }) ≡ Less
is_less id n lt = grind (arith, nat_tests, lt)

is_equal : (id : InodeId) (n : ℕ) → id.0 ≡ n → id_order id (record { 0 = n }) ≡ Equal
is_equal id n same = grind (arith, nat_tests, same)

is_greater : (id : InodeId) (n : ℕ) → n < id.0 → id_order id (record { 0 = n }) ≡ Greater
is_greater id n lt = grind (arith, nat_tests, lt)

pub is_here : (id : InodeId) (n : ℕ) → id.0 ≡ n → same_inode (record { 0 = n }) id ≡ true
is_here id n same = grind (arith, nat_tests, same)

pub is_there : (id : InodeId) (n : ℕ) → (id.0 ≡ n → ⊥) → same_inode (record { 0 = n }) id ≡ false
is_there id n apart = grind (arith, nat_tests, apart)

-- ---- order

below_from : (k : InodeId) (n : ℕ) (rows : Slots) → k.0 < n → below_all id_order k (from n rows) ≡ true
below_from k n [] lt = refl
below_from k n (None ∷ rows) lt = below_from k (suc n) rows (omega (arith, lt))
below_from k n (Some row ∷ rows) lt = rw (is_less k n lt) (below_from k (suc n) rows (omega (arith, lt)))

sorted_from : (n : ℕ) (rows : Slots) → is_sorted id_order (from n rows) ≡ true
sorted_from n [] = refl
sorted_from n (None ∷ rows) = sorted_from (suc n) rows
sorted_from n (Some row ∷ rows) = rw (below_from (record { 0 = n }) (suc n) rows (omega arith)) (sorted_from (suc n) rows)

pub sorted-table : (rows : Slots) → is_sorted id_order (table_in rows) ≡ true
sorted-table rows = sorted_from 0 rows

-- ---- a row is written

put_before : (id : InodeId) (n : ℕ) (rows : Slots) (v : RowState) → id.0 < n → put id_order id v (from n rows) ≡ (id, v) ∷ from n rows
put_before id n [] v lt = refl
put_before id n (None ∷ rows) v lt = put_before id (suc n) rows v (omega (arith, lt))
put_before id n (Some row ∷ rows) v lt = rw (is_less id n lt) refl

put_from : (id : InodeId) (n : ℕ) (rows : Slots) (i : ℕ) (row : Row) → id.0 ≡ n + i → i < length rows → from n (set rows i (Some row)) ≡ put id_order id (state_of row) (from n rows)
put_from id n [] i row is lt = absurd (omega (arith, lt))
put_from id n (None ∷ rows) zero row is lt =
    let same : n ≡ id.0 = omega (arith, is) in
    ap (λ (k : ℕ). (record { 0 = k }, state_of row) ∷ from (suc n) rows) same ∙ sym (put_before id (suc n) rows (state_of row) (omega (arith, is)))
put_from id n (None ∷ rows) (suc i) row is lt = put_from id (suc n) rows i row (omega (arith, is)) (omega (arith, lt))
put_from id n (Some old ∷ rows) zero row is lt = rw (is_equal id n (omega (arith, is))) refl
put_from id n (Some old ∷ rows) (suc i) row is lt = rw (is_greater id n (omega (arith, is))) (ap (λ (t : Table). (record { 0 = n }, state_of old) ∷ t) (put_from id (suc n) rows i row (omega (arith, is)) (omega (arith, lt))))

pub table-put : (rows : Slots) (id : InodeId) (row : Row) → id.0 < length rows → table_in (set rows id.0 (Some row)) ≡ put id_order id (state_of row) (table_in rows)
table-put rows id row lt = put_from id 0 rows id.0 row (omega arith) lt

-- ---- a row behind all

pub numbered-none : {X : Type 0} (n : ℕ) (rows : List (Option X)) → numbered n (rows ++ None ∷ []) ≡ numbered n rows
numbered-none n [] = refl
numbered-none n (None ∷ rows) = numbered-none (suc n) rows
numbered-none n (Some x ∷ rows) = ap (λ es. (record { 0 = n }, x) ∷ es) (numbered-none (suc n) rows)

put_behind : (id : InodeId) (n : ℕ) (rows : Slots) (row : Row) → id.0 ≡ n + length rows → from n (rows ++ Some row ∷ []) ≡ put id_order id (state_of row) (from n rows)
put_behind id n [] row is = let same : n ≡ id.0 = omega (arith, is) in ap (λ (k : ℕ). (record { 0 = k }, state_of row) ∷ []) same
put_behind id n (None ∷ rows) row is = put_behind id (suc n) rows row (omega (arith, is))
put_behind id n (Some old ∷ rows) row is = rw (is_greater id n (omega (arith, is))) (ap (λ (t : Table). (record { 0 = n }, state_of old) ∷ t) (put_behind id (suc n) rows row (omega (arith, is))))

pub table-behind : (rows : Slots) (id : InodeId) (row : Row) → id.0 ≡ length rows → table_in (rows ++ Some row ∷ []) ≡ put id_order id (state_of row) (table_in rows)
table-behind rows id row is = put_behind id 0 rows row (omega (arith, is))

-- ---- a row is named otherwise

module _ (f : ℕ → ℕ) where
  unmoved : (id : InodeId) (n : ℕ) (rows : Slots) → id.0 < n → map (recounted_row f id) (from n rows) ≡ from n rows
  unmoved id n [] lt = refl
  unmoved id n (None ∷ rows) lt = unmoved id (suc n) rows (omega (arith, lt))
  unmoved id n (Some row ∷ rows) lt = rw (is_there id n (λ same. omega (arith, lt, same))) (ap (λ (t : Table). (record { 0 = n }, state_of row) ∷ t) (unmoved id (suc n) rows (omega (arith, lt))))

  recounted_from : (id : InodeId) (n : ℕ) (rows : Slots) (i : ℕ) → id.0 ≡ n + i → from n (set rows i (option_map (with_names f) (flat (slice_get rows i)))) ≡ map (recounted_row f id) (from n rows)
  recounted_from id n [] i is = refl
  recounted_from id n (None ∷ rows) zero is = sym (unmoved id (suc n) rows (omega (arith, is)))
  recounted_from id n (None ∷ rows) (suc i) is = recounted_from id (suc n) rows i (omega (arith, is))
  recounted_from id n (Some row ∷ rows) zero is = rw (is_here id n (omega (arith, is))) (ap (λ (t : Table). (record { 0 = n }, state_of (with_names f row)) ∷ t) (sym (unmoved id (suc n) rows (omega (arith, is)))))
  recounted_from id n (Some row ∷ rows) (suc i) is = rw (is_there id n (λ same. omega (arith, is, same))) (ap (λ (t : Table). (record { 0 = n }, state_of row) ∷ t) (recounted_from id (suc n) rows i (omega (arith, is))))

  pub table-recounted : (rows : Slots) (id : InodeId) → table_in (set rows id.0 (option_map (with_names f) (at_place rows id))) ≡ map (recounted_row f id) (table_in rows)
  table-recounted rows id = recounted_from id 0 rows id.0 (omega arith)

  -- sums that don't look at names
  pub total-recounted : (weight : RowState → ℕ) → ((row : RowState) (n : ℕ) → weight (record row { names = n }) ≡ weight row) → (id : InodeId) (table : Table) → total weight (map (recounted_row f id) table) ≡ total weight table
  total-recounted weight blind id [] = refl
  total-recounted weight blind id (e ∷ es) = elim (same_inode e.0 id) as (λ b. weight (cond b (e.0, record e.1 { names = f e.1.names }) e).1 + total weight (map (recounted_row f id) es) ≡ total weight (e ∷ es)) [
    | true ↦ let here = blind e.1 (f e.1.names) in let rest = total-recounted weight blind id es in omega (arith, here, rest)
    | false ↦ let rest = total-recounted weight blind id es in omega (arith, rest)
  ]

-- ---- rows of the table

-- the plain row of a place
pub slot-told : (rows : Slots) (id : InodeId) → row_at (table_in rows) id ≡ option_map state_of (at_place rows id)
slot-told rows id = row-told (numbered 0 rows) id ∙ ap (option_map state_of) (found id rows)

pub told_slot : (o : Option Row) (s : RowState) → option_map state_of o ≡ Some s → (row : Row) × (o ≡ Some row) × (state_of row ≡ s)
told_slot None s h = absurd (none_some h)
told_slot (Some row) s h = (row, refl, same_some h)

-- ---- sums, as rows are written

pub total-new : (weight : RowState → ℕ) (id : InodeId) (v : RowState) (table : Table) → row_at table id ≡ None → total weight (put id_order id v table) ≡ weight v + total weight table
total-new weight id v [] h = refl
total-new weight id v (e ∷ es) h = elim (id_order id e.0) as (λ o. cond (is_eq o) (Some e.1) (row_at es id) ≡ None → total weight (by_order o ((id, v) ∷ e ∷ es) ((e.0, v) ∷ es) (e ∷ put id_order id v es)) ≡ weight v + total weight (e ∷ es)) [
  | Less ↦ λ g. refl
  | Equal ↦ λ g. absurd (none_some (sym g))
  | Greater ↦ λ g. let rest = total-new weight id v es g in omega (arith, rest)
] h

pub total-one : (table : Table) → total (λ _. 1) table ≡ length table
total-one [] = refl
total-one (e ∷ es) = let rest = total-one es in omega (arith, rest)

pub length-put-old : (table : Table) (id : InodeId) (old new : RowState) → is_sorted id_order table ≡ true → row_at table id ≡ Some old → length (put id_order id new table) ≡ length table
length-put-old table id old new sorted h = let same = put-total (λ _. 1) table id old new sorted h in let a = total-one (put id_order id new table) in let b = total-one table in omega (arith, same, a, b)

pub length-put-new : (table : Table) (id : InodeId) (v : RowState) → row_at table id ≡ None → length (put id_order id v table) ≡ length table + 1
length-put-new table id v h = let more = total-new (λ _. 1) id v table h in let a = total-one (put id_order id v table) in let b = total-one table in omega (arith, more, a, b)

-- no sum is less than one of its parts
pub total-most : (weight : RowState → ℕ) (table : Table) (id : InodeId) (row : RowState) → row_at table id ≡ Some row → weight row ≤ total weight table
total-most weight [] id row h = absurd (none_some h)
total-most weight (e ∷ es) id row h = elim (eq_by_cmp id_order id e.0) as (λ b. cond b (Some e.1) (row_at es id) ≡ Some row → weight row ≤ weight e.1 + total weight es) [
  | true ↦ λ k. let same = ap weight (same_some k) in omega (arith, same)
  | false ↦ λ k. let rest = total-most weight es id row k in omega (arith, rest)
] h

pub total-mono : (a b : RowState → ℕ) → ((row : RowState) → a row ≤ b row) → (table : Table) → total a table ≤ total b table
total-mono a b le [] = omega arith
total-mono a b le (e ∷ es) = let here = le e.1 in let rest = total-mono a b le es in omega (arith, here, rest)

-- ---- places, as one is written

pub place-within : (rows : Slots) (id : InodeId) (row : Row) → at_place rows id ≡ Some row → id.0 < length rows
place-within rows id row h = slot_within (slice_get rows id.0) refl h
  where
    slot_within : (o : Option (Option Row)) → slice_get rows id.0 ≡ o → flat o ≡ Some row → id.0 < length rows
    slot_within None e g = absurd (none_some g)
    slot_within (Some slot) e g = slice_get_within rows id.0 slot e

get_set_here : (rows : Slots) (i : ℕ) (v : Option Row) → i < length rows → slice_get (set rows i v) i ≡ Some v
get_set_here [] i v lt = absurd (omega (arith, lt))
get_set_here (r ∷ rows) zero v lt = refl
get_set_here (r ∷ rows) (suc i) v lt = get_set_here rows i v (omega (arith, lt))

get_set_there : (rows : Slots) (i j : ℕ) (v : Option Row) → (j ≡ i → ⊥) → slice_get (set rows i v) j ≡ slice_get rows j
get_set_there [] i j v apart = refl
get_set_there (r ∷ rows) zero zero v apart = absurd (apart refl)
get_set_there (r ∷ rows) zero (suc j) v apart = refl
get_set_there (r ∷ rows) (suc i) zero v apart = refl
get_set_there (r ∷ rows) (suc i) (suc j) v apart = get_set_there rows i j v (λ e. apart (ap suc e))

pub place-set-here : (rows : Slots) (id : InodeId) (v : Option Row) → id.0 < length rows → at_place (set rows id.0 v) id ≡ v
place-set-here rows id v lt = ap flat (get_set_here rows id.0 v lt)

pub place-set-there : (rows : Slots) (id other : InodeId) (v : Option Row) → other ≢ id → at_place (set rows id.0 v) other ≡ at_place rows other
place-set-there rows id other v apart = ap flat (get_set_there rows id.0 other.0 v (λ e. apart (ap (λ (n : ℕ). record { 0 = n }) e)))

-- another row with the same states changes nothing in the plain table
same_from : (n : ℕ) (rows : Slots) (i : ℕ) (new : Option Row) → i < length rows → option_map state_of new ≡ option_map state_of (flat (slice_get rows i)) → from n (set rows i new) ≡ from n rows
same_from n [] i new lt e = absurd (omega arith)
same_from n (None ∷ rows) zero None lt e = refl
same_from n (None ∷ rows) zero (Some r) lt e = absurd (none_some (sym e))
same_from n (Some row ∷ rows) zero None lt e = absurd (none_some e)
same_from n (Some row ∷ rows) zero (Some r) lt e = ap (λ (s : RowState). (record { 0 = n }, s) ∷ from (suc n) rows) (same_some e)
same_from n (None ∷ rows) (suc i) new lt e = same_from (suc n) rows i new (omega arith) e
same_from n (Some row ∷ rows) (suc i) new lt e = ap (λ (t : Table). (record { 0 = n }, state_of row) ∷ t) (same_from (suc n) rows i new (omega arith) e)

pub table-same : (rows : Slots) (id : InodeId) (new : Option Row) → id.0 < length rows → option_map state_of new ≡ option_map state_of (at_place rows id) → table_in (set rows id.0 new) ≡ table_in rows
table-same rows id new lt e = same_from 0 rows id.0 new lt e

-- ---- what is read of places

pub some_row : (o : Option Row) → IsSome o → (row : Row) × (o ≡ Some row)
some_row None h = absurd (true_false h refl)
some_row (Some row) h = (row, refl)

pub place-some : (rows : Slots) (id : InodeId) → IsSome (at_place rows id) → id.0 < length rows
place-some rows id h = let r = some_row (at_place rows id) h in place-within rows id r.0 r.1

pub slot-read : (rows : Slots) (id : InodeId) (v : Option Row) → id.0 < length rows → v ≡ get_or rows id.0 v → v ≡ at_place rows id
slot-read rows id v lt e = e ∙ sym (ap flat (slice_get-get_or rows id.0 v lt))

pub slot-past : (rows : Slots) (id : InodeId) → length rows ≤ id.0 → at_place rows id ≡ None
slot-past rows id le = ap flat (slice_get_past rows id.0 le)

get_behind : (rows : Slots) (v : Option Row) (i : ℕ) → i ≡ length rows → slice_get (rows ++ v ∷ []) i ≡ Some v
get_behind [] v zero is = refl
get_behind [] v (suc i) is = absurd (omega (arith, is))
get_behind (r ∷ rows) v zero is = absurd (omega (arith, is))
get_behind (r ∷ rows) v (suc i) is = get_behind rows v i (omega (arith, is))

get_before : (rows : Slots) (v : Option Row) (i : ℕ) → (i ≡ length rows → ⊥) → slice_get (rows ++ v ∷ []) i ≡ slice_get rows i
get_before [] v zero apart = absurd (apart refl)
get_before [] v (suc i) apart = refl
get_before (r ∷ rows) v zero apart = refl
get_before (r ∷ rows) v (suc i) apart = get_before rows v i (λ e. apart (ap suc e))

pub place-behind-here : (rows : Slots) (id : InodeId) (row : Row) → id.0 ≡ length rows → at_place (rows ++ Some row ∷ []) id ≡ Some row
place-behind-here rows id row is = ap flat (get_behind rows (Some row) id.0 is)

pub place-behind-there : (rows : Slots) (id other : InodeId) (row : Row) → id.0 ≡ length rows → other ≢ id → at_place (rows ++ Some row ∷ []) other ≡ at_place rows other
place-behind-there rows id other row is apart = ap flat (get_before rows (Some row) other.0 (λ e. apart (ap (λ (n : ℕ). record { 0 = n }) (e ∙ sym is))))

-- rows that are numbered alike are read alike
pub place-alike : (a b : Slots) (id : InodeId) → numbered 0 a ≡ numbered 0 b → at_place a id ≡ at_place b id
place-alike a b id same = sym (found id a) ∙ ap (λ rows. row_of rows id) same ∙ found id b
