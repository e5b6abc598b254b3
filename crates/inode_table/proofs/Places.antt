-- Rows at their places: one place written, and what the table is then.
use Rattle.std.proofs.Common.{◌≡◌, ℕ, zero, suc, ◌+◌, ◌-◌, ◌<◌, ◌≤◌, true, false, cond, nat_eq, List, [], ◌∷◌, Option, Some, None, slice_get, set, length, refl, sym, ap, subst, ◌∙◌, arith}
use Rattle.std.specs.Prelude.{nat_lt}
use Rattle.std.specs.Option.{option_map}
use Rattle.std.proofs.lemmas.Bool.Decides.{nat_tests}
use Rattle.hs_types.specs.declared.ids.InodeId.{InodeId}
use Rattle.hs_types.specs.declared.ids.SnapId.{SnapId}
use Rattle.dir_changes.specs.Counts.{one_where}
use Rattle.inode_table.specs.declared.row.Row.{Row}
use Rattle.inode_table.specs.RowHistory.{Table}
use Rattle.inode_table.specs.Numbered.{at_place, flat, with_marks}
use Rattle.inode_table.specs.Tabled.{named_less}
use Rattle.inode_table.specs.Totals.{total}
use Rattle.inode_table.specs.RowHistory.{RowState}
use Rattle.inode_table.specs.Numbered.{state_of}
use Rattle.inode_table.specs.Released.{all_named_less, without_row}
use Rattle.inode_table.specs.Slots.{Slots, table_in, is_named, named_rows}
use Rattle.inode_table.specs.Lessened.{lessened, lessen_at, lessen_all, is_last, ended_at}
use Rattle.inode_table.proofs.Placing.{from, is_here, is_there, table-recounted, total-recounted}

-- ---- a place is emptied

passes : (id : InodeId) (n : ℕ) (rows : Slots) → id.0 < n → without_row id (from n rows) ≡ from n rows
passes id n [] lt = refl
passes id n (None ∷ rows) lt = passes id (suc n) rows (omega (arith, lt))
passes id n (Some row ∷ rows) lt = rw (is_there id n (λ same. omega (arith, lt, same))) (ap (λ (t : Table). (record { 0 = n }, state_of row) ∷ t) (passes id (suc n) rows (omega (arith, lt))))

emptied : (id : InodeId) (n : ℕ) (rows : Slots) (i : ℕ) → id.0 ≡ n + i → from n (set rows i None) ≡ without_row id (from n rows)
emptied id n [] i is = refl
emptied id n (None ∷ rows) zero is = sym (passes id (suc n) rows (omega (arith, is)))
emptied id n (None ∷ rows) (suc i) is = emptied id (suc n) rows i (omega (arith, is))
emptied id n (Some row ∷ rows) zero is = rw (is_here id n (omega (arith, is))) (sym (passes id (suc n) rows (omega (arith, is))))
emptied id n (Some row ∷ rows) (suc i) is = rw (is_there id n (λ same. omega (arith, is, same))) (ap (λ (t : Table). (record { 0 = n }, state_of row) ∷ t) (emptied id (suc n) rows i (omega (arith, is))))

pub table-emptied : (rows : Slots) (id : InodeId) → table_in (set rows id.0 None) ≡ without_row id (table_in rows)
table-emptied rows id = emptied id 0 rows id.0 (omega arith)

-- ---- a row is named once less

pub table-less : (id : InodeId) (rows : Slots) → table_in (lessen_at id rows) ≡ named_less id (table_in rows)
table-less id rows = table-recounted (λ n. n - 1) rows id

pub table-all-less : (ids : List InodeId) (rows : Slots) → table_in (lessen_all ids rows) ≡ all_named_less ids (table_in rows)
table-all-less [] rows = refl
table-all-less (id ∷ ids) rows = table-all-less ids (lessen_at id rows) ∙ ap (all_named_less ids) (table-less id rows)

-- ---- sums as a place is written

abbrev pub weight_at : (RowState → ℕ) → Option Row → ℕ
weight_at weight None = 0
weight_at weight (Some row) = weight (state_of row)

written : (weight : RowState → ℕ) (n : ℕ) (rows : Slots) (i : ℕ) (new : Option Row)
    → i < length rows → total weight (from n (set rows i new)) + weight_at weight (flat (slice_get rows i)) ≡ total weight (from n rows) + weight_at weight new
written weight n [] i new lt = absurd (omega arith)
written weight n (None ∷ rows) zero None lt = refl
written weight n (None ∷ rows) zero (Some row) lt = omega arith
written weight n (Some row ∷ rows) zero None lt = omega arith
written weight n (Some row ∷ rows) zero (Some other) lt = omega arith
written weight n (None ∷ rows) (suc i) new lt = written weight (suc n) rows i new (omega arith)
written weight n (Some row ∷ rows) (suc i) new lt = let rest = written weight (suc n) rows i new (omega arith) in omega (arith, rest)

pub total-written : (weight : RowState → ℕ) (rows : Slots) (i : ℕ) (new : Option Row)
    → i < length rows → total weight (table_in (set rows i new)) + weight_at weight (flat (slice_get rows i)) ≡ total weight (table_in rows) + weight_at weight new
total-written weight rows i new lt = written weight 0 rows i new lt

-- what doesn't look at names stays as a row is named less
pub total-less : (weight : RowState → ℕ) → ((r : RowState) (n : ℕ) → weight (record r { names = n }) ≡ weight r) → (id : InodeId) (rows : Slots) → total weight (table_in (lessen_at id rows)) ≡ total weight (table_in rows)
total-less weight blind id rows = ap (total weight) (table-less id rows) ∙ total-recounted (λ n. n - 1) weight blind id (table_in rows)

-- ---- how many rows are named

ends_at : (x : InodeId) (n : ℕ) → one_where (nat_lt 0 (n - 1)) + length (cond (nat_eq n 1) (x ∷ []) []) ≡ one_where (nat_lt 0 n)
ends_at x zero = refl
ends_at x (suc zero) = refl
ends_at x (suc (suc n)) = grind (arith, nat_tests)

named_from : (x : InodeId) (rows : Slots) (i : ℕ) → named_rows (set rows i (option_map lessened (flat (slice_get rows i)))) + length (cond (is_last (flat (slice_get rows i))) (x ∷ []) []) ≡ named_rows rows
named_from x [] i = refl
named_from x (None ∷ rows) zero = omega arith
named_from x (Some row ∷ rows) zero = let here = ends_at x row.names in omega (arith, here)
named_from x (slot ∷ rows) (suc i) = let rest = named_from x rows i in omega (arith, rest)

-- a row less is named, or one id more has ended
pub named-less : (id : InodeId) (rows : Slots) → named_rows (lessen_at id rows) + length (ended_at id rows) ≡ named_rows rows
named-less id rows = named_from id rows id.0

pub named-ended : (id : InodeId) (rows : Slots) → is_last (at_place rows id) ≡ true → named_rows (lessen_at id rows) + 1 ≡ named_rows rows
named-ended id rows last = let sum = subst (λ b. named_rows (lessen_at id rows) + length (cond b (id ∷ []) []) ≡ named_rows rows) last (named-less id rows) in sum

pub named-not_ended : (id : InodeId) (rows : Slots) → is_last (at_place rows id) ≡ false → named_rows (lessen_at id rows) ≡ named_rows rows
named-not_ended id rows more = let sum = subst (λ b. named_rows (lessen_at id rows) + length (cond b (id ∷ []) []) ≡ named_rows rows) more (named-less id rows) in omega (arith, sum)

pub named-few : (rows : Slots) → named_rows rows ≤ length rows
named-few [] = omega arith
named-few (None ∷ rows) = let rest = named-few rows in omega (arith, rest)
named-few (Some row ∷ rows) = let rest = named-few rows in elim (nat_lt 0 row.names) as (λ b. one_where b + named_rows rows ≤ length (Some row ∷ rows)) [ true ↦ omega (arith, rest) | false ↦ omega (arith, rest) ]

-- a slot named alike is written
pub named-set : (rows : Slots) (i : ℕ) (new : Option Row) → is_named new ≡ is_named (flat (slice_get rows i)) → named_rows (set rows i new) ≡ named_rows rows
named-set [] i new same = refl
named-set (slot ∷ rows) zero new same = omega (arith, same)
named-set (slot ∷ rows) (suc i) new same = ap (λ n. is_named slot + n) (named-set rows i new same)

-- marks name nothing
pub named-marked : (rows : Slots) (id : InodeId) (since carry : SnapId) → named_rows (set rows id.0 (option_map (with_marks since carry) (at_place rows id))) ≡ named_rows rows
named-marked rows id since carry = named-set rows id.0 (option_map (with_marks since carry) (at_place rows id)) (by (at_place rows id))
  where
    by : (o : Option Row) → is_named (option_map (with_marks since carry) o) ≡ is_named o
    by None = refl
    by (Some row) = refl
