-- The records without their lists: their numbers and marks. An edit leaves these, and to combine record i removes its own.
use Rattle.std.proofs.Common.{◌≡◌, ℕ, zero, suc, ◌+◌, ◌<◌, ◌≤◌, List, [], ◌∷◌, map, refl, sym, ap, subst, ◌∙◌}
use Rattle.std.specs.Prelude.{IsTrue, remove}
use Rattle.std.proofs.lemmas.List.{length-map}
use Rattle.hs_types.specs.declared.ids.SnapId.{SnapId}
use Rattle.change_history.specs.History as history
use Rattle.change_history.proofs.Numbers.{rising-remove, last_removed, last_from-map, rising-map}
use Rattle.change_history.proofs.Readings.{saved_at-past, saved_at-current, saved_at-append, saved_at-below_removed, saved_at-above_removed, saved_at-map, number_at-map, number_before-map}
use Rattle.dir_changes.specs.Undo.{ListDiff}
use Rattle.dir_changes.specs.History.{Marks, Past, DirHistory, number_of, marks_saved, last_from, last_number, rising, number_at, number_before, marks_at, started, change_last, taken, combined_at, without_record}
use Rattle.dir_changes.specs.Edits.{LastCombined}

-- ---- a new record, and the current marks

pub marks_at-started : (dir : DirHistory) (k : SnapId) (s : ℕ) → marks_at s (started k dir) ≡ marks_at s dir
marks_at-started dir k s = saved_at-append number_of marks_saved s dir.records (record { number = k; marks = dir.marks; diff = record { created = []; deleted = [] } })

pub marks_at-past : (dir : DirHistory) (s : ℕ) → IsTrue (rising 0 dir.records) → last_number dir < s → marks_at s dir ≡ dir.marks
marks_at-past dir s rise above = saved_at-past number_of marks_saved s dir.records dir.marks rise above

-- up to the last number the current marks are not read
pub marks_at-current : (dir : DirHistory) (m : Marks) (s : ℕ) → 0 < s → s ≤ last_number dir → marks_at s (record dir { marks = m }) ≡ marks_at s dir
marks_at-current dir m s above le = saved_at-current number_of marks_saved s dir.records m dir.marks above le

-- ---- what is kept of a record

abbrev marked : Past → ℕ × Marks
marked p = (p.number.0, p.marks)

abbrev its_number : ℕ × Marks → ℕ
its_number m = m.0

abbrev its_marks : ℕ × Marks → Marks
its_marks m = m.1

last_seen : (n : ℕ) (rs : List Past) → last_from n rs ≡ history.last_from its_number n (map marked rs)
last_seen n rs = sym (last_from-map marked its_number n rs)

rising_seen : (n : ℕ) (rs : List Past) → rising n rs ≡ history.rising its_number n (map marked rs)
rising_seen n rs = sym (rising-map marked its_number n rs)

marks_seen : (s : ℕ) (rs : List Past) (m : Marks) → history.saved_at number_of marks_saved s rs m ≡ history.saved_at its_number its_marks s (map marked rs) m
marks_seen s rs m = sym (saved_at-map marked its_number its_marks s rs m)

-- ---- the last record is changed

marked-change_last : (f : ListDiff → ListDiff) (rs : List Past) → map marked (change_last f rs) ≡ map marked rs
marked-change_last f [] = refl
marked-change_last f (p ∷ []) = refl
marked-change_last f (p ∷ q ∷ rs) = ap (λ l. marked p ∷ l) (marked-change_last f (q ∷ rs))

pub last_from-change_last : (f : ListDiff → ListDiff) (n : ℕ) (rs : List Past) → last_from n (change_last f rs) ≡ last_from n rs
last_from-change_last f n rs = last_seen n (change_last f rs) ∙ ap (history.last_from its_number n) (marked-change_last f rs) ∙ sym (last_seen n rs)

pub rising-change_last : (f : ListDiff → ListDiff) (n : ℕ) (rs : List Past) → IsTrue (rising n rs) → IsTrue (rising n (change_last f rs))
rising-change_last f n rs rise = subst IsTrue (sym (rising_seen n (change_last f rs) ∙ ap (history.rising its_number n) (marked-change_last f rs) ∙ sym (rising_seen n rs))) rise

pub marks-change_last : (f : ListDiff → ListDiff) (s : ℕ) (rs : List Past) (m : Marks) → history.saved_at number_of marks_saved s (change_last f rs) m ≡ history.saved_at number_of marks_saved s rs m
marks-change_last f s rs m = marks_seen s (change_last f rs) m ∙ ap (λ l. history.saved_at its_number its_marks s l m) (marked-change_last f rs) ∙ sym (marks_seen s rs m)

-- ---- a record is combined

marked-taken : (p : Past) (rs : List Past) (i : ℕ) → map marked (taken p rs i) ≡ marked p ∷ remove (map marked rs) i
marked-taken p [] zero = refl
marked-taken p [] (suc i) = refl
marked-taken p (q ∷ rs) zero = refl
marked-taken p (q ∷ rs) (suc i) = ap (λ l. marked p ∷ l) (marked-taken q rs i)

marked-combined_at : (i : ℕ) (rs : List Past) → map marked (combined_at i rs) ≡ remove (map marked rs) i
marked-combined_at zero [] = refl
marked-combined_at (suc i) [] = refl
marked-combined_at zero (p ∷ rs) = refl
marked-combined_at (suc i) (p ∷ rs) = marked-taken p rs i

pub rising-combined_at : (n i : ℕ) (rs : List Past) → IsTrue (rising n rs) → IsTrue (rising n (combined_at i rs))
rising-combined_at n i rs rise =
    subst IsTrue (sym (rising_seen n (combined_at i rs) ∙ ap (history.rising its_number n) (marked-combined_at i rs)))
    (rising-remove its_number n (map marked rs) i (subst IsTrue (rising_seen n rs) rise))

pub last_combined : (dir : DirHistory) (i : ℕ) → LastCombined i dir (without_record i dir)
last_combined dir i =
    let rs = dir.records in
    let last : last_from 0 (combined_at i rs) ≡ history.last_from its_number 0 (remove (map marked rs) i) = last_seen 0 (combined_at i rs) ∙ ap (history.last_from its_number 0) (marked-combined_at i rs) in
    let seen = last_removed its_number (map marked rs) i in
    let long = length-map rs marked in (
      λ lt. last ∙ seen.0 (subst (λ n. i + 1 < n) (sym long) lt) ∙ sym (last_seen 0 rs),
      λ is. last ∙ seen.1 (is ∙ sym long) ∙ number_before-map marked its_number rs i,
    )

-- up to the number before, and above its own number, the marks are read as before
module _ (dir : DirHistory) (i s : ℕ) where
  gone : marks_at s (without_record i dir) ≡ history.saved_at its_number its_marks s (remove (map marked dir.records) i) dir.marks
  gone = marks_seen s (combined_at i dir.records) dir.marks ∙ ap (λ l. history.saved_at its_number its_marks s l dir.marks) (marked-combined_at i dir.records)

  pub marks_at-combined_below : s ≤ number_before dir.records i → marks_at s (without_record i dir) ≡ marks_at s dir
  marks_at-combined_below le =
      gone
      ∙ saved_at-below_removed its_number its_marks s (map marked dir.records) i dir.marks (subst (λ n. s ≤ n) (sym (number_before-map marked its_number dir.records i)) le)
      ∙ sym (marks_seen s dir.records dir.marks)

  pub marks_at-combined_above : number_at dir.records i < s → marks_at s (without_record i dir) ≡ marks_at s dir
  marks_at-combined_above above =
      gone
      ∙ saved_at-above_removed its_number its_marks s (map marked dir.records) i dir.marks (subst (λ n. n < s) (sym (number_at-map marked its_number dir.records i)) above)
      ∙ sym (marks_seen s dir.records dir.marks)
