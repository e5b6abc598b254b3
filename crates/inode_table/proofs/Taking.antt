-- A record of the row at a place is taken away.
use Rattle.std.proofs.Common.{◌≡◌, ℕ, zero, suc, ◌+◌, ◌<◌, ◌≤◌, Bool, List, [], ◌∷◌, ◌++◌, Option, Some, None, slice_get, set, get_or, length, Result, Ok, Err, refl, sym, ap, subst, ◌∙◌, length-append, length-set, cond, true, false, inl, inr, ⊎_elim, arith}
use Rattle.std.specs.Prelude.{nat_lt, OnOk, IsSome}
use Rattle.std.specs.Option.{option_map}
use Rattle.std.specs.FinMap.Entries.{put}
use Rattle.hs_types.specs.declared.ids.BlockId.{BlockId}
use Rattle.hs_types.specs.declared.ids.InodeId.{InodeId}
use Rattle.hs_plain.proofs.ValidShapes.{none_some, same_some}
use Rattle.dir_changes.specs.Counts.{times, one_where}
use Rattle.inode_table.specs.declared.row.Row.{Row}
use Rattle.inode_table.specs.declared.row.Rows.{Rows}
use Rattle.inode_table.specs.declared.merging.Dropped.{Dropped}
use Rattle.inode_table.specs.RowHistory.{RowHistory, RowState, File, Dir, Table, id_order, row_at}
use Rattle.inode_table.specs.Names.{named_in, times_named}
use Rattle.inode_table.specs.Numbered.{numbered, table_of, history_of, state_of, row_of, at_place, flat}
use Rattle.inode_table.specs.Indexed.{Index}
use Rattle.inode_table.specs.Kept.{rows_in}
use Rattle.inode_table.specs.Totals.{total, block_count, blocks_named, weight}
use Rattle.inode_table.specs.Released.{all_named_less}
use Rattle.inode_table.specs.Merged.{merged_rows, ids_dropped, blocks_dropped, merged_from, merged, KeepsRow, LeavesRows, LeavesRow}
use Rattle.inode_table.specs.Prepared.{IsPreparedRow}
use Rattle.inode_table.specs.Dropping.{DropsRow, DropsAt, Leaves}
use Rattle.inode_table.specs.Slots.{Slots, table_in, is_named, named_rows, AreCounted, AreListed}
use Rattle.inode_table.specs.Lessened.{lessened, lessen_at, lessen_all, is_last, ended_at, ended, StaysOrGoes, told_in}
use Rattle.inode_table.proofs.Numbers.{found}
use Rattle.inode_table.proofs.Reading.{by_id}
use Rattle.inode_table.proofs.Places.{weight_at, total-written, table-all-less}
use Rattle.inode_table.proofs.Placing.{table-put, place-set-here, place-set-there, place-within, slot-told, told_slot}
use Rattle.inode_table.proofs.Lessening.{at_less, at_emptied, only-few, one_weight, weight_is}

-- ---- a written place

named_written_from : (rows : Slots) (i : ℕ) (v : Option Row) → i < length rows → named_rows (set rows i v) + is_named (flat (slice_get rows i)) ≡ named_rows rows + is_named v
named_written_from [] i v lt = absurd (omega arith)
named_written_from (None ∷ rows) zero v lt = omega arith
named_written_from (Some row ∷ rows) zero v lt = omega arith
named_written_from (slot ∷ rows) (suc i) v lt = let rest = named_written_from rows i v (omega arith) in omega (arith, rest)

pub dropped-few : (i : ℕ) (rows : RowHistory) → length (blocks_dropped i rows) + block_count (merged_rows i rows) ≤ block_count rows
dropped-few i (File file) = only-few i file
dropped-few i (Dir dir) = omega arith

drops-row : (i : ℕ) (o n : Option Row) (dropped : Dropped) (old : Row) → DropsAt i o n dropped → o ≡ Some old → (new : Row) × (n ≡ Some new) × DropsRow i old new dropped
drops-row i None n dropped old d e = absurd d
drops-row i (Some row) None dropped old d e = absurd d
drops-row i (Some row) (Some new) dropped old d e = (new, refl, subst (λ (r : Row). DropsRow i r new dropped) (same_some e) d)

module _ (rows : Slots) (id : InodeId) (i : ℕ) (old new : Row) (dropped : Dropped) (there : at_place rows id ≡ Some old) (d : DropsRow i old new dropped) where
  within : id.0 < length rows
  within = place-within rows id old there

  here : at_place (set rows id.0 (Some new)) id ≡ Some new
  here = place-set-here rows id (Some new) within

  names_same : new.names ≡ old.names
  names_same = ap (λ (r : Row). r.names) d.kept

  sum_written : (weight : RowState → ℕ) → total weight (table_in (set rows id.0 (Some new))) + weight (state_of old) ≡ total weight (table_in rows) + weight (state_of new)
  sum_written weight = subst (λ (o : Option Row). total weight (table_in (set rows id.0 (Some new))) + weight_at weight o ≡ total weight (table_in rows) + weight (state_of new)) there (total-written weight rows id.0 (Some new) within)

  names_sum : (x : InodeId) → times_named x (table_in (set rows id.0 (Some new))) + times x dropped.ids ≡ times_named x (table_in rows)
  names_sum x = let sum = sum_written (λ r. times x (named_in r.rows)) in let part = d.rows.named x in omega (arith, sum, part)

  counted_dropped : AreCounted rows [] → AreCounted (set rows id.0 (Some new)) dropped.ids
  counted_dropped are = record {
    counted = λ x r h. let sum = names_sum x in by_id x id
        (λ e. let is_new : r ≡ new = same_some (sym h ∙ ap (at_place (set rows id.0 (Some new))) e ∙ here) in
        let count = are.counted x old (ap (at_place rows) e ∙ there) in let names = names_same in
        let named : r.names ≡ new.names = ap (λ (q : Row). q.names) is_new in
        omega (arith, count, sum, names, named))
        (λ ne. let count = are.counted x r (sym (place-set-there rows id x (Some new) ne) ∙ h) in omega (arith, count, sum));
    there = λ x some. let sum = names_sum x in let was = are.there x (omega (arith, some, sum)) in by_id x id
        (λ e. (new, ap (at_place (set rows id.0 (Some new))) e ∙ here))
        (λ ne. (was.0, place-set-there rows id x (Some new) ne ∙ was.1));
  }

  listed_dropped : (unnamed : List InodeId) → AreListed rows unnamed → AreListed (set rows id.0 (Some new)) unnamed
  listed_dropped unnamed are x r h not_root none = by_id x id
      (λ e. let is_new : r ≡ new = same_some (sym h ∙ ap (at_place (set rows id.0 (Some new))) e ∙ here) in
      are x old (ap (at_place rows) e ∙ there) not_root (sym names_same ∙ ap (λ (q : Row). q.names) (sym is_new) ∙ none))
      (λ ne. are x r (sym (place-set-there rows id x (Some new) ne) ∙ h) not_root none)

  named_dropped : named_rows (set rows id.0 (Some new)) ≡ named_rows rows
  named_dropped =
      let sum = subst (λ (o : Option Row). named_rows (set rows id.0 (Some new)) + is_named o ≡ named_rows rows + is_named (Some new)) there (named_written_from rows id.0 (Some new) within) in
      let same : is_named (Some new) ≡ is_named (Some old) = ap (λ (r : Row). is_named (Some r)) d.kept in
      omega (arith, sum, same)

  blocks_left : dropped.count + blocks_named (table_in (set rows id.0 (Some new))) ≡ blocks_named (table_in rows)
  blocks_left = let sum = sum_written (λ r. block_count r.rows) in let count = d.rows.count in omega (arith, sum, count)

  few_blocks : length dropped.blocks ≤ dropped.count
  few_blocks =
      let few = dropped-few i (history_of old.rows) in let count = d.rows.count in
      let are = ap length d.rows.blocks in let same = ap block_count d.rows.rows in
      omega (arith, few, count, are, same)

  weight_left : weight (table_in (set rows id.0 (Some new))) ≤ weight (table_in rows)
  weight_left = let sum = sum_written one_weight in let less = d.rows.lighter in let a = weight_is (table_in (set rows id.0 (Some new))) in let b = weight_is (table_in rows) in omega (arith, sum, less, a, b)

  told_left : table_in (set rows id.0 (Some new)) ≡ put id_order id (record (state_of old) { rows = merged_rows i (history_of old.rows) }) (table_in rows)
  told_left = table-put rows id new within ∙ ap (λ (s : RowState). put id_order id s (table_in rows)) (ap state_of d.kept ∙ ap (λ (h : RowHistory). record (state_of old) { rows = h }) d.rows.rows)

  pub leaves_set : Leaves rows (set rows id.0 (Some new)) id i old dropped
  leaves_set = record {
    counted = counted_dropped;
    listed = listed_dropped;
    named = named_dropped;
    blocks = blocks_left;
    few = few_blocks;
    lighter = weight_left;
    len = length-set rows id.0 (Some new);
    told = told_left;
    there = λ other ne. place-set-there rows id other (Some new) ne;
    ids = d.rows.ids;
    waits = d.rows.blocks;
  }

pub leaves : (rows after : Slots) (id : InodeId) (i : ℕ) (old : Row) (dropped : Dropped) → at_place rows id ≡ Some old → DropsAt i (at_place rows id) (at_place after id) dropped → after ≡ set rows id.0 (at_place after id) → Leaves rows after id i old dropped
leaves rows after id i old dropped there d is =
    let new = drops-row i (at_place rows id) (at_place after id) dropped old d there in
    subst (λ (s : Slots). Leaves rows s id i old dropped) (sym (is ∙ ap (λ (o : Option Row). set rows id.0 o) new.1)) (leaves_set rows id i old new.0 dropped there new.2)

-- ---- what isn't named otherwise

rows_less : (id x : InodeId) (rows : Slots) → rows_in (at_place (lessen_at id rows) x) ≡ rows_in (at_place rows x)
rows_less id x rows = by_id x id
    (λ e. ap (λ (j : InodeId). rows_in (at_place (lessen_at id rows) j)) e ∙ ap rows_in (at_less rows id) ∙ blind (at_place rows id) ∙ ap (λ (j : InodeId). rows_in (at_place rows j)) (sym e))
    (λ ne. ap rows_in (place-set-there rows id x (option_map lessened (at_place rows id)) ne))
  where
    blind : (o : Option Row) → rows_in (option_map lessened o) ≡ rows_in o
    blind None = refl
    blind (Some row) = refl

pub rows-all-less : (ids : List InodeId) (x : InodeId) (rows : Slots) → rows_in (at_place (lessen_all ids rows) x) ≡ rows_in (at_place rows x)
rows-all-less [] x rows = refl
rows-all-less (id ∷ ids) x rows = rows-all-less ids x (lessen_at id rows) ∙ rows_less id x rows

-- a row goes, and others are named less
pub stays-gone : (old rows : Slots) (id : InodeId) (ids : List InodeId) → StaysOrGoes old rows → StaysOrGoes old (lessen_all ids (set rows id.0 None))
stays-gone old rows id ids stays x = by_id x id
    (λ e. inl (rows-all-less ids x (set rows id.0 None) ∙ ap rows_in (ap (at_place (set rows id.0 None)) e ∙ at_emptied rows id)))
    (λ ne. let same : rows_in (at_place (lessen_all ids (set rows id.0 None)) x) ≡ rows_in (at_place rows x) = rows-all-less ids x (set rows id.0 None) ∙ ap rows_in (place-set-there rows id x None ne) in
    ⊎_elim (λ none. inl (same ∙ none)) (λ as_before. inr (same ∙ as_before)) (stays x))

pub stays-all : (rows : Slots) → StaysOrGoes rows rows
stays-all rows x = inr refl

-- the row that loses a record, where others are named less
pub leaves-row : (rows after : Slots) (id : InodeId) (i : ℕ) (old : Row) (dropped : Dropped) (ids : List InodeId) → at_place rows id ≡ Some old → DropsAt i (at_place rows id) (at_place after id) dropped → LeavesRow (rows_in (at_place rows id)) (rows_in (at_place (lessen_all ids after) id))
leaves-row rows after id i old dropped ids there d =
    let new = drops-row i (at_place rows id) (at_place after id) dropped old d there in
    subst (λ (o : Option Rows). LeavesRow o (rows_in (at_place (lessen_all ids after) id))) (sym (ap rows_in there))
    (subst (LeavesRow (Some old.rows)) (sym (rows-all-less ids id after ∙ ap rows_in new.1)) new.2.rows.room)

-- rows that are there after stay as they were
pub stays-found : (old new : Slots) (id : InodeId) → StaysOrGoes old new → IsSome (row_of (numbered 0 new) id) → rows_in (row_of (numbered 0 new) id) ≡ rows_in (row_of (numbered 0 old) id)
stays-found old new id stays some =
    ⊎_elim (λ none. absurd (no_rows (row_of (numbered 0 new) id) some (ap rows_in (found id new) ∙ none))) (λ same. ap rows_in (found id new) ∙ same ∙ sym (ap rows_in (found id old))) (stays id)
  where
    no_rows : (o : Option Row) → IsSome o → rows_in o ≡ None → ⊥
    no_rows None h e = cc
    no_rows (Some row) h e = none_some (sym e)

pub ended-few : (ids : List InodeId) (rows : Slots) → length (ended ids rows) ≤ length ids
ended-few [] rows = omega arith
ended-few (id ∷ ids) rows = let rest = ended-few ids (lessen_at id rows) in let sum = length-append (ended_at id rows) (ended ids (lessen_at id rows)) in let one = at_most (at_place rows id) in omega (arith, rest, sum, one)
  where
    at_most : (o : Option Row) → length (cond (is_last o) (id ∷ []) []) ≤ 1
    at_most o = elim (is_last o) as (λ b. length (cond b (id ∷ []) []) ≤ 1) [ true ↦ omega arith | false ↦ omega arith ]

-- ---- the whole merge

pub merged-told : (rows after last : Slots) (id : InodeId) (i : ℕ) (old : Row) (dropped : Dropped) (index : Index) (g h : ℕ) (waiting now : List BlockId) → at_place rows id ≡ Some old → Leaves rows after id i old dropped
    → last ≡ lessen_all dropped.ids after → now ≡ waiting ++ dropped.blocks → h ≡ g → told_in last index h now ≡ merged id i (told_in rows index g waiting)
merged-told rows after last id i old dropped index g h waiting now there l is_last_ is_now is_h =
    ap (λ (t : Table). record { rows = t; index = index; greatest = h; waiting = now }) told_rows
    ∙ ap (λ (k : ℕ). record { rows = all_named_less (ids_dropped i (history_of old.rows)) (put id_order id (record (state_of old) { rows = merged_rows i (history_of old.rows) }) (table_in rows)); index = index; greatest = k; waiting = now }) is_h
    ∙ ap (λ (w : List BlockId). record { rows = all_named_less (ids_dropped i (history_of old.rows)) (put id_order id (record (state_of old) { rows = merged_rows i (history_of old.rows) }) (table_in rows)); index = index; greatest = g; waiting = w }) (is_now ∙ ap (λ (bs : List BlockId). waiting ++ bs) l.waits)
    ∙ sym (ap (λ (o : Option RowState). merged_from id i o (told_in rows index g waiting)) (slot-told rows id ∙ ap (option_map state_of) there))
  where
    told_rows : table_in last ≡ all_named_less (ids_dropped i (history_of old.rows)) (put id_order id (record (state_of old) { rows = merged_rows i (history_of old.rows) }) (table_in rows))
    told_rows = ap table_in is_last_ ∙ table-all-less dropped.ids after ∙ ap (all_named_less dropped.ids) l.told ∙ ap (λ (ids : List InodeId). all_named_less ids (put id_order id (record (state_of old) { rows = merged_rows i (history_of old.rows) }) (table_in rows))) l.ids

-- ---- other rows that stand for the same

module _ (old new : Slots) (same : table_in new ≡ table_in old) where
  old_row : (id : InodeId) (row : Row) → at_place new id ≡ Some row → (was : Row) × (at_place old id ≡ Some was) × (state_of was ≡ state_of row)
  old_row id row h = told_slot (at_place old id) (state_of row) (sym (slot-told old id) ∙ ap (λ (t : Table). row_at t id) (sym same) ∙ slot-told new id ∙ ap (option_map state_of) h)

  new_row : (id : InodeId) (row : Row) → at_place old id ≡ Some row → (now : Row) × (at_place new id ≡ Some now) × (state_of now ≡ state_of row)
  new_row id row h = told_slot (at_place new id) (state_of row) (sym (slot-told new id) ∙ ap (λ (t : Table). row_at t id) same ∙ slot-told old id ∙ ap (option_map state_of) h)

  pub counted-same : (ids : List InodeId) → AreCounted old ids → AreCounted new ids
  counted-same ids are = record {
    counted = λ id row h. let was = old_row id row h in let count = are.counted id was.0 was.1 in
        let names : was.0.names ≡ row.names = ap (λ (s : RowState). s.names) was.2 in let sum = ap (times_named id) same in omega (arith, count, names, sum);
    there = λ id some. let sum = ap (times_named id) same in let was = are.there id (omega (arith, some, sum)) in let now = new_row id was.0 was.1 in (now.0, now.1);
  }

  pub listed-same : (unnamed : List InodeId) → AreListed old unnamed → AreListed new unnamed
  listed-same unnamed are id row h not_root none = let was = old_row id row h in are id was.0 was.1 not_root (ap (λ (s : RowState). s.names) was.2 ∙ none)

  pub named-same : named_rows new ≡ named_rows old
  named-same = named_total 0 new ∙ ap (total (λ r. one_where (nat_lt 0 r.names))) same ∙ sym (named_total 0 old)
    where
      named_total : (n : ℕ) (rows : Slots) → named_rows rows ≡ total (λ r. one_where (nat_lt 0 r.names)) (table_of (numbered n rows))
      named_total n [] = refl
      named_total n (None ∷ rows) = let rest = named_total (suc n) rows in omega (arith, rest)
      named_total n (Some row ∷ rows) = ap (λ k. one_where (nat_lt 0 row.names) + k) (named_total (suc n) rows)

pub keeps-itself : (row : Option Row) → KeepsRow row row
keeps-itself row = record { changes = λ n cover h. h; merge = λ h. h }

pub keeps-both : (a b c : Option Row) → KeepsRow a b → KeepsRow b c → KeepsRow a c
keeps-both a b c h k = record { changes = λ n cover r. k.changes n cover (h.changes n cover r); merge = λ r. k.merge (h.merge r) }

pub keeps-prepared : (changes : Bool) (a b : Option Row) → KeepsRow a b → IsPreparedRow changes a → IsPreparedRow changes b
keeps-prepared changes a b h k = record { merge = h.merge k.merge; changed = λ so cover. h.changes 3 cover (k.changed so cover) }

pub keeps-found : (old new : Slots) → ((id : InodeId) → KeepsRow (at_place old id) (at_place new id)) → (id : InodeId) → KeepsRow (row_of (numbered 0 old) id) (row_of (numbered 0 new) id)
keeps-found old new kept id = subst (λ (o : Option Row). KeepsRow o (row_of (numbered 0 new) id)) (sym (found id old)) (subst (λ (o : Option Row). KeepsRow (at_place old id) o) (sym (found id new)) (kept id))

-- a place that is written, and the others
pub keeps-set : (rows : Slots) (id other : InodeId) (new : Option Row) → id.0 < length rows → KeepsRow (at_place rows id) new → KeepsRow (at_place rows other) (at_place (set rows id.0 new) other)
keeps-set rows id other new lt h = by_id other id
    (λ e. subst (λ (j : InodeId). KeepsRow (at_place rows j) (at_place (set rows id.0 new) j)) (sym e) (subst (λ (o : Option Row). KeepsRow (at_place rows id) o) (sym (place-set-here rows id new lt)) h))
    (λ ne. subst (λ (o : Option Row). KeepsRow (at_place rows other) o) (sym (place-set-there rows id other new ne)) (keeps-itself (at_place rows other)))

pub get_or_any : (ids : List InodeId) (i : ℕ) (a b : InodeId) → i < length ids → get_or ids i a ≡ get_or ids i b
get_or_any [] i a b lt = absurd (omega arith)
get_or_any (x ∷ ids) zero a b lt = refl
get_or_any (x ∷ ids) (suc i) a b lt = get_or_any ids i a b (omega arith)

pub on_ok : {A E P Q : Type 0} (r : Result A E) → (P → Q) → OnOk r P → OnOk r Q
on_ok (Ok x) f h = f h
on_ok (Err e) f h = h
