-- What is read as one record of one row is taken away.
use Rattle.std.proofs.Common.{◌≡◌, ℕ, zero, suc, ◌<◌, ◌≤◌, true, false, cond, List, [], ◌∷◌, map, Option, Some, None, length, refl, sym, ap, subst, ◌∙◌, arith}
use Rattle.std.specs.Prelude.{◌≢◌, remove}
use Rattle.std.specs.Option.{option_map}
use Rattle.std.specs.Ordering.{eq_by_cmp, is_eq}
use Rattle.std.specs.FinMap.{nat_cmp-IsAntisymmetric}
use Rattle.std.specs.FinMap.Entries.{put, by_order}
use Rattle.std.specs.declared.cmp.Ordering.TheVariants.{Less, Equal, Greater}
use Rattle.std.proofs.lemmas.Bool.Decides.{nat_tests}
use Rattle.hs_types.specs.declared.ids.InodeId.{InodeId}
use Rattle.file_changes.specs.History as files
use Rattle.file_changes.specs.History.{FileHistory}
use Rattle.file_changes.specs.declared.state.FileRecord.{FileRecord}
use Rattle.file_changes.specs.declared.state.FileState.{FileState}
use Rattle.file_changes.proofs.Reading.{state_at-below_removed, state_at-above_removed}
use Rattle.dir_changes.specs.History as dirs
use Rattle.dir_changes.specs.History.{DirHistory, Past}
use Rattle.dir_changes.proofs.ReadLaws.{children_at-combined_below, children_at-combined_above, marks_at-combined_below, marks_at-combined_above}
use Rattle.inode_table.specs.RowHistory.{RowHistory, RowState, File, Dir, Table, row_at, marks_of, mark_of, id_order, file_node, dir_node, ReadsAlike}
use Rattle.inode_table.specs.Records.{before_at, at_or, Merges}
use Rattle.inode_table.specs.Whole.{numbers_in}
use Rattle.inode_table.specs.Tabled.{Tabled}
use Rattle.inode_table.specs.Kept.{AreSound}
use Rattle.inode_table.specs.Merged.{merged_rows, ids_dropped, merged_from, merged, MergesOne}
use Rattle.inode_table.proofs.Reading.{by_id}
use Rattle.inode_table.proofs.Going.{kept-all-less}

-- ---- numbers

abbrev file_number : FileRecord → ℕ
file_number r = r.number.0

abbrev past_number : Past → ℕ
past_number p = p.number.0

file_at : (rs : List FileRecord) (i : ℕ) → at_or (map file_number rs) i ≡ files.number_at rs i
file_at [] i = refl
file_at (r ∷ rs) zero = refl
file_at (r ∷ rs) (suc i) = file_at rs i

past_at : (ps : List Past) (i : ℕ) → at_or (map past_number ps) i ≡ dirs.number_at ps i
past_at [] i = refl
past_at (p ∷ ps) zero = refl
past_at (p ∷ ps) (suc i) = past_at ps i

file_before_next : (b : ℕ) (rs : List FileRecord) (i : ℕ) → i < length rs → before_at b (map file_number rs) (suc i) ≡ files.number_at rs i
file_before_next b [] i lt = absurd (omega arith)
file_before_next b (r ∷ rs) zero lt = refl
file_before_next b (r ∷ rs) (suc i) lt = file_before_next r.number.0 rs i (omega arith)

past_before_next : (b : ℕ) (ps : List Past) (i : ℕ) → i < length ps → before_at b (map past_number ps) (suc i) ≡ dirs.number_at ps i
past_before_next b [] i lt = absurd (omega arith)
past_before_next b (p ∷ ps) zero lt = refl
past_before_next b (p ∷ ps) (suc i) lt = past_before_next p.number.0 ps i (omega arith)

file_before : (rs : List FileRecord) (i : ℕ) → i < length rs → before_at 0 (map file_number rs) i ≡ files.number_before rs i
file_before rs zero lt = refl
file_before rs (suc i) lt = file_before_next 0 rs i (omega arith)

past_before : (ps : List Past) (i : ℕ) → i < length ps → before_at 0 (map past_number ps) i ≡ dirs.number_before ps i
past_before ps zero lt = refl
past_before ps (suc i) lt = past_before_next 0 ps i (omega arith)

length_map : {X Y : Type 0} (f : X → Y) (xs : List X) → length (map f xs) ≡ length xs
length_map f [] = refl
length_map f (x ∷ xs) = let rest = length_map f xs in omega (arith, rest)

map_removed : {X Y : Type 0} (f : X → Y) (xs : List X) (i : ℕ) → map f (remove xs i) ≡ remove (map f xs) i
map_removed f [] zero = refl
map_removed f [] (suc i) = refl
map_removed f (x ∷ xs) zero = refl
map_removed f (x ∷ xs) (suc i) = ap (λ ys. f x ∷ ys) (map_removed f xs i)

taken_numbers : (p : Past) (ps : List Past) (i : ℕ) → map past_number (dirs.taken p ps i) ≡ p.number.0 ∷ remove (map past_number ps) i
taken_numbers p [] zero = refl
taken_numbers p [] (suc i) = refl
taken_numbers p (q ∷ ps) zero = refl
taken_numbers p (q ∷ ps) (suc i) = ap (λ ns. p.number.0 ∷ ns) (taken_numbers q ps i)

combined_numbers : (i : ℕ) (ps : List Past) → map past_number (dirs.combined_at i ps) ≡ remove (map past_number ps) i
combined_numbers zero [] = refl
combined_numbers (suc i) [] = refl
combined_numbers zero (p ∷ ps) = refl
combined_numbers (suc i) (p ∷ ps) = taken_numbers p ps i

merged_numbers : (i : ℕ) (rows : RowHistory) → numbers_in (merged_rows i rows) ≡ remove (numbers_in rows) i
merged_numbers i (File file) = map_removed file_number file.records i
merged_numbers i (Dir dir) = combined_numbers i dir.records

-- ---- readings

merged_reads : (i : ℕ) (rows : RowHistory) → AreSound rows → i < length (numbers_in rows) → Merges i (numbers_in rows) rows (merged_rows i rows)
merged_reads i (File file) sound lt = record {
  below = λ s le. alike s (state_at-below_removed file i s (subst (λ n. s ≤ n) (file_before file.records i within) le));
  above = λ s gt. alike s (state_at-above_removed file i s (subst (λ n. n < s) (file_at file.records i) gt));
}
  where
    within : i < length file.records
    within = let long = length_map file_number file.records in omega (arith, long, lt)

    alike : (s : ℕ) → files.state_at s (files.without_record i file) ≡ files.state_at s file → ReadsAlike s (File file) (File (files.without_record i file))
    alike s e = record { node = λ id. ap (file_node id) e; entries = refl; spot = ap (λ (f : FileState). f.spot) e }
merged_reads i (Dir dir) sound lt = record {
  below = λ s le. alike s (marks_at-combined_below dir i s (upto s le)) (children_at-combined_below dir i s sound.in_order sound.undoable (upto s le));
  above = λ s gt. alike s (marks_at-combined_above dir i s (over s gt)) (children_at-combined_above dir i s sound.in_order sound.undoable sound.rising (over s gt));
}
  where
    within : i < length dir.records
    within = let long = length_map past_number dir.records in omega (arith, long, lt)

    upto : (s : ℕ) → s ≤ before_at 0 (map past_number dir.records) i → s ≤ dirs.number_before dir.records i
    upto s le = subst (λ n. s ≤ n) (past_before dir.records i within) le

    over : (s : ℕ) → at_or (map past_number dir.records) i < s → dirs.number_at dir.records i < s
    over s gt = subst (λ n. n < s) (past_at dir.records i) gt

    alike : (s : ℕ) → dirs.marks_at s (dirs.without_record i dir) ≡ dirs.marks_at s dir → dirs.children_at s (dirs.without_record i dir) ≡ dirs.children_at s dir → ReadsAlike s (Dir dir) (Dir (dirs.without_record i dir))
    alike s e l = record { node = λ id. ap (dir_node id) e; entries = l; spot = ap (λ (m : dirs.Marks). m.spot) e }

-- ---- rows

not_tied : (x y : InodeId) → x ≢ y → eq_by_cmp id_order x y ≡ false
not_tied x y apart = apart_by (λ e. apart (ap (λ (n : ℕ). record { 0 = n }) e))
  where
    apart_by : (x.0 ≡ y.0 → ⊥) → eq_by_cmp id_order x y ≡ false
    apart_by ne = grind (arith, nat_tests, ne)

tied : (x : InodeId) → eq_by_cmp id_order x x ≡ true
tied x = grind (arith, nat_tests)

put_there : (id x : InodeId) (v : RowState) (t : Table) → x ≢ id → row_at (put id_order id v t) x ≡ row_at t x
put_there id x v [] apart = ap (λ b. cond b (Some v) None) (not_tied x id apart)
put_there id x v (e ∷ es) apart = elim (id_order id e.0) as (λ o. id_order id e.0 ≡ o → row_at (by_order o ((id, v) ∷ e ∷ es) ((e.0, v) ∷ es) (e ∷ put id_order id v es)) x ≡ row_at (e ∷ es) x) [
  | Less ↦ λ t. ap (λ b. cond b (Some v) (row_at (e ∷ es) x)) (not_tied x id apart)
  | Equal ↦ λ t. let other = not_tied x e.0 (λ same. apart (same ∙ ap (λ (n : ℕ). record { 0 = n }) (sym (nat_cmp-IsAntisymmetric id.0 e.0.0 t)))) in
      ap (λ b. cond b (Some v) (row_at es x)) other ∙ sym (ap (λ b. cond b (Some e.1) (row_at es x)) other)
  | Greater ↦ λ t. ap (λ o. cond (eq_by_cmp id_order x e.0) (Some e.1) o) (put_there id x v es apart)
] refl

pub put-here : (id : InodeId) (v : RowState) (t : Table) → row_at (put id_order id v t) id ≡ Some v
put-here id v [] = ap (λ b. cond b (Some v) None) (tied id)
put-here id v (e ∷ es) = elim (id_order id e.0) as (λ o. id_order id e.0 ≡ o → row_at (by_order o ((id, v) ∷ e ∷ es) ((e.0, v) ∷ es) (e ∷ put id_order id v es)) id ≡ Some v) [
  | Less ↦ λ t. ap (λ b. cond b (Some v) (row_at (e ∷ es) id)) (tied id)
  | Equal ↦ λ t. ap (λ o. cond (is_eq o) (Some v) (row_at es id)) t
  | Greater ↦ λ t. ap (λ o. cond (is_eq o) (Some e.1) (row_at (put id_order id v es) id)) t ∙ put-here id v es
] refl

pub merged-one : (t : Tabled) (id : InodeId) (i : ℕ) (row : RowState) → row_at t.rows id ≡ Some row → AreSound row.rows → i < length (numbers_in row.rows)
    → MergesOne t.rows (merged id i t).rows id i row.rows (merged_rows i row.rows)
merged-one t id i row there sound within = subst (λ (o : Option RowState). MergesOne t.rows (merged_from id i o t).rows id i row.rows (merged_rows i row.rows)) (sym there) (record {
  here = kept-all-less (option_map (λ (r : RowState). r.rows)) (λ r n. refl) (ids_dropped i row.rows) id (put id_order id (record row { rows = merged_rows i row.rows }) t.rows) ∙ ap (option_map (λ (r : RowState). r.rows)) (put-here id (record row { rows = merged_rows i row.rows }) t.rows);
  there = λ other apart. kept-all-less (option_map (λ (r : RowState). r.rows)) (λ r n. refl) (ids_dropped i row.rows) other (put id_order id (record row { rows = merged_rows i row.rows }) t.rows) ∙ ap (option_map (λ (r : RowState). r.rows)) (put_there id other (record row { rows = merged_rows i row.rows }) t.rows apart);
  marks = λ other. kept-all-less mark_of (λ r n. refl) (ids_dropped i row.rows) other (put id_order id (record row { rows = merged_rows i row.rows }) t.rows) ∙ by_id other id
      (λ e. ap (λ (j : InodeId). marks_of (put id_order id (record row { rows = merged_rows i row.rows }) t.rows) j) e ∙ ap mark_of (put-here id (record row { rows = merged_rows i row.rows }) t.rows) ∙ sym (ap mark_of there) ∙ sym (ap (λ (j : InodeId). marks_of t.rows j) e))
      (λ apart. ap mark_of (put_there id other (record row { rows = merged_rows i row.rows }) t.rows apart));
  numbers = merged_numbers i row.rows;
  reads = merged_reads i row.rows sound within;
})
