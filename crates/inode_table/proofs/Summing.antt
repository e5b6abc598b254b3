-- The sums that count a table, place by place.
use Rattle.std.proofs.Common.{◌≡◌, ℕ, zero, suc, ◌+◌, ◌<◌, ◌≤◌, List, [], ◌∷◌, Option, Some, None, slice_get, get_or, drop, length, add-one, refl, sym, ap, subst, ◌∙◌, arith}
use Rattle.std.proofs.lemmas.List.{get_or_default}
use Rattle.dir_changes.specs.Counts.{created_in, deleted_in}
use Rattle.dir_changes.specs.History.{Past}
use Rattle.hs_plain.proofs.ValidShapes.{none_some, same_some}
use Rattle.inode_table.specs.declared.row.Row.{Row}
use Rattle.inode_table.specs.RowHistory.{RowState, Table}
use Rattle.inode_table.specs.Numbered.{numbered, table_of}
use Rattle.inode_table.specs.Places.{entries_at, slot_rows, slot_records, slot_entries}
use Rattle.inode_table.specs.Slots.{Slots}
use Rattle.inode_table.specs.Totals.{total, records_in, entries_of}

abbrev pub entries_from : ℕ → List Past → ℕ
entries_from i rs = created_in (drop i rs) + deleted_in (drop i rs)

pub entries-step : (i : ℕ) (rs : List Past) → i < length rs → entries_from i rs ≡ entries_at i rs + entries_from (suc i) rs
entries-step i [] lt = absurd (omega arith)
entries-step zero (p ∷ rs) lt = omega arith
entries-step (suc i) (p ∷ rs) lt = entries-step i rs (omega (arith, lt))

pub entries-all : (rs : List Past) → entries_from (length rs) rs ≡ 0
entries-all [] = refl
entries-all (p ∷ rs) = entries-all rs

pub entries-most : (i : ℕ) (rs : List Past) → entries_at i rs ≤ created_in rs + deleted_in rs
entries-most i [] = omega arith
entries-most zero (p ∷ rs) = omega arith
entries-most (suc i) (p ∷ rs) = let rest = entries-most i rs in omega (arith, rest)

pub entries-found : (i : ℕ) (rs : List Past) (p : Past) → slice_get rs i ≡ Some p → entries_at i rs ≡ length p.diff.created + length p.diff.deleted
entries-found i [] p h = absurd (none_some h)
entries-found zero (q ∷ rs) p h = ap (λ (r : Past). length r.diff.created + length r.diff.deleted) (same_some h)
entries-found (suc i) (q ∷ rs) p h = entries-found i rs p h

pub entries-past : (i : ℕ) (rs : List Past) → slice_get rs i ≡ None → entries_at i rs ≡ 0
entries-past i [] h = refl
entries-past zero (q ∷ rs) h = absurd (none_some (sym h))
entries-past (suc i) (q ∷ rs) h = entries-past i rs h

-- the rows from place i on
abbrev pub rest_from : ℕ → Slots → Table
rest_from i rows = table_of (numbered i (drop i rows))

-- what the rows of one place weigh, as a sum over all
pub rest-step : (w : RowState → ℕ) (v : Option Row → ℕ) → (v None ≡ 0) → ((n : ℕ) (slot : Option Row) (rows : Slots) → total w (table_of (numbered n (slot ∷ rows))) ≡ v slot + total w (table_of (numbered (suc n) rows)))
    → (n i : ℕ) (rows : Slots) → i < length rows → total w (table_of (numbered n (drop i rows))) ≡ v (get_or rows i None) + total w (table_of (numbered (suc n) (drop (suc i) rows)))
rest-step w v none step n i [] lt = absurd (omega arith)
rest-step w v none step n zero (slot ∷ rows) lt = step n slot rows
rest-step w v none step n (suc i) (slot ∷ rows) lt = rest-step w v none step n i rows (omega (arith, lt))

pub rest-all : (w : RowState → ℕ) (n : ℕ) (rows : Slots) → total w (table_of (numbered n (drop (length rows) rows))) ≡ 0
rest-all w n [] = refl
rest-all w n (slot ∷ rows) = rest-all w n rows

one_slot : (n : ℕ) (slot : Option Row) (rows : Slots) → total (λ _. 1) (table_of (numbered n (slot ∷ rows))) ≡ slot_rows slot + total (λ _. 1) (table_of (numbered (suc n) rows))
one_slot n None rows = omega arith
one_slot n (Some row) rows = refl

records_slot : (n : ℕ) (slot : Option Row) (rows : Slots) → total (λ row. records_in row.rows) (table_of (numbered n (slot ∷ rows))) ≡ slot_records slot + total (λ row. records_in row.rows) (table_of (numbered (suc n) rows))
records_slot n None rows = omega arith
records_slot n (Some row) rows = refl

entries_slot : (n : ℕ) (slot : Option Row) (rows : Slots) → total (λ row. entries_of row.rows) (table_of (numbered n (slot ∷ rows))) ≡ slot_entries slot + total (λ row. entries_of row.rows) (table_of (numbered (suc n) rows))
entries_slot n None rows = omega arith
entries_slot n (Some row) rows = refl

-- the three sums, as a place is passed
pub record Passes (i : ℕ) (rows : Slots) (slot : Option Row) : Type 0 where
  pub ones : total (λ _. 1) (rest_from i rows) ≡ slot_rows slot + total (λ _. 1) (rest_from (i + 1) rows)
  pub records : total (λ row. records_in row.rows) (rest_from i rows) ≡ slot_records slot + total (λ row. records_in row.rows) (rest_from (i + 1) rows)
  pub entries : total (λ row. entries_of row.rows) (rest_from i rows) ≡ slot_entries slot + total (λ row. entries_of row.rows) (rest_from (i + 1) rows)

pub passes : (i : ℕ) (rows : Slots) (slot : Option Row) → i < length rows → slot ≡ get_or rows i slot → Passes i rows slot
passes i rows slot lt is = record {
  ones = by (λ _. 1) slot_rows refl one_slot;
  records = by (λ row. records_in row.rows) slot_records refl records_slot;
  entries = by (λ row. entries_of row.rows) slot_entries refl entries_slot;
}
  where
    same : get_or rows i None ≡ slot
    same = get_or_default rows i None slot lt ∙ sym is

    by : (w : RowState → ℕ) (v : Option Row → ℕ) → (v None ≡ 0) → ((n : ℕ) (s : Option Row) (rs : Slots) → total w (table_of (numbered n (s ∷ rs))) ≡ v s + total w (table_of (numbered (suc n) rs)))
        → total w (rest_from i rows) ≡ v slot + total w (rest_from (i + 1) rows)
    by w v none step = subst (λ n. total w (rest_from i rows) ≡ v slot + total w (rest_from n rows)) (sym (add-one i))
        (subst (λ s. total w (rest_from i rows) ≡ v s + total w (rest_from (suc i) rows)) same (rest-step w v none step i i rows lt))
