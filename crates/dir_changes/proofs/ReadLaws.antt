-- What a change of the records does to the child list at a snapshot.
use Rattle.std.proofs.Common.{◌≡◌, ℕ, zero, suc, ◌<◌, ◌≤◌, true, List, [], ◌∷◌, ◌++◌, refl, sym, ap, subst, ◌∙◌, arith}
use Rattle.std.specs.Prelude.{IsTrue, nat_lt, nat_eq, if◌then◌else◌, filter}
use Rattle.hs_types.specs.declared.ids.SnapId.{SnapId}
use Rattle.change_history.proofs.Tests.{both, first, second, less, le_cases, le_yes, le_no, cond_same, zero_or_above}
use Rattle.change_history.proofs.Readings.{records_from-past}
use Rattle.dir_changes.specs.Entries.{Entries, in_order}
use Rattle.dir_changes.specs.Undo.{ListDiff, undo, can_undo}
use Rattle.dir_changes.specs.History.{Past, DirHistory, number_of, last_from, last_number, rising, number_at, number_before, records_from, undo_all, can_undo_all, children_at, started, change_last, with_later, taken, combined_at, without_record}
use Rattle.dir_changes.proofs.UndoLaw.{in_order-undo, undo-combined, combines_undo}
pub use Rattle.dir_changes.proofs.MarkedLaws.{marks_at-started, marks_at-past, marks_at-current, marks_at-combined_below, marks_at-combined_above}

-- ---- a new record with empty lists

filter_all : {X : Type 0} (xs : List X) → filter (λ _. true) xs ≡ xs
filter_all [] = refl
filter_all (x ∷ xs) = ap (λ ys. x ∷ ys) (filter_all xs)

undo-empty : (entries : Entries) → undo (record { created = []; deleted = [] }) entries ≡ entries
undo-empty entries = filter_all entries

undo_all-append : (rs : List Past) (r : Past) (x : Entries) → undo_all (rs ++ r ∷ []) x ≡ undo_all rs (undo r.diff x)
undo_all-append [] r x = refl
undo_all-append (p ∷ rs) r x = ap (undo p.diff) (undo_all-append rs r x)

can_undo_all-append : (rs : List Past) (r : Past) (x : Entries) → undo r.diff x ≡ x → IsTrue (can_undo r.diff x) → IsTrue (can_undo_all rs x) → IsTrue (can_undo_all (rs ++ r ∷ []) x)
can_undo_all-append [] r x same can all = can
can_undo_all-append (p ∷ rs) r x same can all = both _ _
    (can_undo_all-append rs r x same can (first (can_undo_all rs x) _ all))
    (subst (λ (y : Entries). IsTrue (can_undo p.diff y)) (sym (undo_all-append rs r x ∙ ap (undo_all rs) same)) (second (can_undo_all rs x) _ all))

reads-append : (s : ℕ) (rs : List Past) (r : Past) (x : Entries) → undo r.diff x ≡ x → undo_all (records_from s (rs ++ r ∷ [])) x ≡ undo_all (records_from s rs) x
reads-append s [] r x same = le_cases (λ l. undo_all l x ≡ x) s r.number.0 (r ∷ []) [] (λ _. same) (λ _. refl)
reads-append s (p ∷ rs) r x same =
    le_cases (λ l. undo_all l x ≡ undo_all (records_from s (p ∷ rs)) x) s p.number.0 (p ∷ (rs ++ r ∷ [])) (records_from s (rs ++ r ∷ []))
    (λ within. ap (undo p.diff) (undo_all-append rs r x ∙ ap (undo_all rs) same) ∙ sym (ap (λ l. undo_all l x) (le_yes s p.number.0 (p ∷ rs) (records_from s rs) within)))
    (λ beyond. reads-append s rs r x same ∙ sym (ap (λ l. undo_all l x) (le_no s p.number.0 (p ∷ rs) (records_from s rs) beyond)))

module _ (dir : DirHistory) (k : SnapId) where
  -- what `started` puts at the end
  abbrev new_record : Past
  new_record = record { number = k; marks = dir.marks; diff = record { created = []; deleted = [] } }

  pub children_at-started : (s : ℕ) → children_at s (started k dir) ≡ children_at s dir
  children_at-started s = ap (λ x. if nat_eq s 0 then dir.children else x) (reads-append s dir.records new_record dir.children (undo-empty dir.children))

  pub can_undo_all-started : IsTrue (can_undo_all dir.records dir.children) → IsTrue (can_undo_all (started k dir).records dir.children)
  can_undo_all-started all = can_undo_all-append dir.records new_record dir.children (undo-empty dir.children) refl all

pub children_at-past : (dir : DirHistory) (s : ℕ) → IsTrue (rising 0 dir.records) → last_number dir < s → children_at s dir ≡ dir.children
children_at-past dir s rise above = ap (λ l. if nat_eq s 0 then dir.children else undo_all l dir.children) (records_from-past number_of s 0 dir.records rise above) ∙ cond_same (nat_eq s 0) dir.children

-- ---- the last record is changed

-- the current list goes from x to y, and f keeps what undoing leads to
module _ (f : ListDiff → ListDiff) (x y : Entries) (same : (d : ListDiff) → IsTrue (can_undo d x) → undo (f d) y ≡ undo d x) (can : (d : ListDiff) → IsTrue (can_undo d x) → IsTrue (can_undo (f d) y)) where
  undo_all-change_last : (p : Past) (rs : List Past) → IsTrue (can_undo_all (p ∷ rs) x) → undo_all (change_last f (p ∷ rs)) y ≡ undo_all (p ∷ rs) x
  undo_all-change_last p [] all = same p.diff (second true _ all)
  undo_all-change_last p (q ∷ rs) all = ap (undo p.diff) (undo_all-change_last q rs (first (can_undo_all (q ∷ rs) x) _ all))

  pub can_undo_all-change_last : (rs : List Past) → IsTrue (can_undo_all rs x) → IsTrue (can_undo_all (change_last f rs) y)
  can_undo_all-change_last [] all = refl
  can_undo_all-change_last (p ∷ []) all = both _ _ refl (can p.diff (second true _ all))
  can_undo_all-change_last (p ∷ q ∷ rs) all = both _ _
      (can_undo_all-change_last (q ∷ rs) (first (can_undo_all (q ∷ rs) x) _ all))
      (subst (λ (z : Entries). IsTrue (can_undo p.diff z)) (sym (undo_all-change_last q rs (first (can_undo_all (q ∷ rs) x) _ all))) (second (can_undo_all (q ∷ rs) x) _ all))

  pub reads-change_last : (s n : ℕ) (rs : List Past) → n < s → s ≤ last_from n rs → IsTrue (can_undo_all rs x) → undo_all (records_from s (change_last f rs)) y ≡ undo_all (records_from s rs) x
  reads-change_last s n [] above le all = absurd (omega arith)
  reads-change_last s n (p ∷ []) above le all =
      ap (λ l. undo_all l y) (le_yes s p.number.0 (record p { diff = f p.diff } ∷ []) [] le) ∙ same p.diff (second true _ all) ∙ sym (ap (λ l. undo_all l x) (le_yes s p.number.0 (p ∷ []) [] le))
  reads-change_last s n (p ∷ q ∷ rs) above le all =
      le_cases (λ l. undo_all l y ≡ undo_all (records_from s (p ∷ q ∷ rs)) x) s p.number.0 (p ∷ change_last f (q ∷ rs)) (records_from s (change_last f (q ∷ rs)))
      (λ within. undo_all-change_last p (q ∷ rs) all ∙ sym (ap (λ l. undo_all l x) (le_yes s p.number.0 (p ∷ q ∷ rs) (records_from s (q ∷ rs)) within)))
      (λ beyond. reads-change_last s p.number.0 (q ∷ rs) beyond le (first (can_undo_all (q ∷ rs) x) _ all) ∙ sym (ap (λ l. undo_all l x) (le_no s p.number.0 (p ∷ q ∷ rs) (records_from s (q ∷ rs)) beyond)))

-- ---- a record is combined

pub in_order-undo_all : (rs : List Past) (x : Entries) → IsTrue (in_order x) → IsTrue (in_order (undo_all rs x))
in_order-undo_all [] x sorted = sorted
in_order-undo_all (p ∷ rs) x sorted = in_order-undo p.diff _ (in_order-undo_all rs x sorted)

module _ (x : Entries) (sorted : IsTrue (in_order x)) where
  undo_all-taken : (p : Past) (rs : List Past) (i : ℕ) → IsTrue (can_undo_all (p ∷ rs) x) → undo_all (taken p rs i) x ≡ undo_all (p ∷ rs) x
  undo_all-taken p [] i all = refl
  undo_all-taken p (q ∷ rs) zero all =
      let behind = first (can_undo_all (q ∷ rs) x) _ all in
      undo-combined p.diff q.diff (undo_all rs x) (in_order-undo_all rs x sorted) (second (can_undo_all rs x) _ behind) (second (can_undo_all (q ∷ rs) x) _ all)
  undo_all-taken p (q ∷ rs) (suc i) all = ap (undo p.diff) (undo_all-taken q rs i (first (can_undo_all (q ∷ rs) x) _ all))

  can_undo_all-taken : (p : Past) (rs : List Past) (i : ℕ) → IsTrue (can_undo_all (p ∷ rs) x) → IsTrue (can_undo_all (taken p rs i) x)
  can_undo_all-taken p [] i all = all
  can_undo_all-taken p (q ∷ rs) zero all =
      let behind = first (can_undo_all (q ∷ rs) x) _ all in
      both _ _ (first (can_undo_all rs x) _ behind)
      (combines_undo p.diff q.diff (undo_all rs x) (in_order-undo_all rs x sorted) (second (can_undo_all rs x) _ behind) (second (can_undo_all (q ∷ rs) x) _ all)).defined
  can_undo_all-taken p (q ∷ rs) (suc i) all =
      let behind = first (can_undo_all (q ∷ rs) x) _ all in
      both _ _ (can_undo_all-taken q rs i behind)
      (subst (λ (y : Entries). IsTrue (can_undo p.diff y)) (sym (undo_all-taken q rs i behind)) (second (can_undo_all (q ∷ rs) x) _ all))

  -- up to the number before, and above its own number, the reading stays
  reads-taken_below : (s : ℕ) (p : Past) (rs : List Past) (i : ℕ) → IsTrue (can_undo_all (p ∷ rs) x) → s ≤ number_at (p ∷ rs) i → undo_all (records_from s (taken p rs i)) x ≡ undo_all (records_from s (p ∷ rs)) x
  reads-taken_below s p [] i all le = refl
  reads-taken_below s p (q ∷ rs) zero all le =
      ap (λ l. undo_all l x) (le_yes s p.number.0 (with_later p q ∷ rs) (records_from s rs) le) ∙ undo_all-taken p (q ∷ rs) 0 all ∙ sym (ap (λ l. undo_all l x) (le_yes s p.number.0 (p ∷ q ∷ rs) (records_from s (q ∷ rs)) le))
  reads-taken_below s p (q ∷ rs) (suc i) all le =
      le_cases (λ l. undo_all l x ≡ undo_all (records_from s (p ∷ q ∷ rs)) x) s p.number.0 (p ∷ taken q rs i) (records_from s (taken q rs i))
      (λ within. undo_all-taken p (q ∷ rs) (suc i) all ∙ sym (ap (λ l. undo_all l x) (le_yes s p.number.0 (p ∷ q ∷ rs) (records_from s (q ∷ rs)) within)))
      (λ beyond. reads-taken_below s q rs i (first (can_undo_all (q ∷ rs) x) _ all) le ∙ sym (ap (λ l. undo_all l x) (le_no s p.number.0 (p ∷ q ∷ rs) (records_from s (q ∷ rs)) beyond)))

  reads-taken_above : (s n : ℕ) (p : Past) (rs : List Past) (i : ℕ) → IsTrue (can_undo_all (p ∷ rs) x) → IsTrue (rising n (p ∷ rs)) → number_at (p ∷ rs) (suc i) < s → undo_all (records_from s (taken p rs i)) x ≡ undo_all (records_from s (p ∷ rs)) x
  reads-taken_above s n p [] i all rise above = refl
  reads-taken_above s n p (q ∷ rs) zero all rise above =
      let beyond : p.number.0 < s = omega (arith, less p.number.0 q.number.0 (first (nat_lt p.number.0 q.number.0) _ (second (nat_lt n p.number.0) _ rise))) in
      ap (λ l. undo_all l x)
      (le_no s p.number.0 (with_later p q ∷ rs) (records_from s rs) beyond
      ∙ sym (le_no s q.number.0 (q ∷ rs) (records_from s rs) above)
      ∙ sym (le_no s p.number.0 (p ∷ q ∷ rs) (records_from s (q ∷ rs)) beyond))
  reads-taken_above s n p (q ∷ rs) (suc i) all rise above =
      le_cases (λ l. undo_all l x ≡ undo_all (records_from s (p ∷ q ∷ rs)) x) s p.number.0 (p ∷ taken q rs i) (records_from s (taken q rs i))
      (λ within. undo_all-taken p (q ∷ rs) (suc i) all ∙ sym (ap (λ l. undo_all l x) (le_yes s p.number.0 (p ∷ q ∷ rs) (records_from s (q ∷ rs)) within)))
      (λ beyond. reads-taken_above s p.number.0 q rs i (first (can_undo_all (q ∷ rs) x) _ all) (second _ _ rise) above ∙ sym (ap (λ l. undo_all l x) (le_no s p.number.0 (p ∷ q ∷ rs) (records_from s (q ∷ rs)) beyond)))

pub can_undo_all-combined_at : (x : Entries) (i : ℕ) (rs : List Past) → IsTrue (in_order x) → IsTrue (can_undo_all rs x) → IsTrue (can_undo_all (combined_at i rs) x)
can_undo_all-combined_at x i [] sorted all = all
can_undo_all-combined_at x zero (p ∷ rs) sorted all = first (can_undo_all rs x) _ all
can_undo_all-combined_at x (suc i) (p ∷ rs) sorted all = can_undo_all-taken x sorted p rs i all

reads-combined_below : (x : Entries) (s i : ℕ) (rs : List Past) → IsTrue (in_order x) → IsTrue (can_undo_all rs x) → 0 < s → s ≤ number_before rs i → undo_all (records_from s (combined_at i rs)) x ≡ undo_all (records_from s rs) x
reads-combined_below x s i [] sorted all above le = refl
reads-combined_below x s zero (p ∷ rs) sorted all above le = absurd (omega arith)
reads-combined_below x s (suc i) (p ∷ rs) sorted all above le = reads-taken_below x sorted s p rs i all le

reads-combined_above : (x : Entries) (s i : ℕ) (rs : List Past) → IsTrue (in_order x) → IsTrue (can_undo_all rs x) → IsTrue (rising 0 rs) → number_at rs i < s → undo_all (records_from s (combined_at i rs)) x ≡ undo_all (records_from s rs) x
reads-combined_above x s i [] sorted all rise above = refl
reads-combined_above x s zero (p ∷ rs) sorted all rise above = sym (ap (λ l. undo_all l x) (le_no s p.number.0 (p ∷ rs) (records_from s rs) above))
reads-combined_above x s (suc i) (p ∷ rs) sorted all rise above = reads-taken_above x sorted s 0 p rs i all rise above

module _ (dir : DirHistory) (i s : ℕ) (sorted : IsTrue (in_order dir.children)) (all : IsTrue (can_undo_all dir.records dir.children)) where
  pub children_at-combined_below : s ≤ number_before dir.records i → children_at s (without_record i dir) ≡ children_at s dir
  children_at-combined_below le = zero_or_above s dir.children dir.children _ _ (λ _. refl) (λ above. reads-combined_below dir.children s i dir.records sorted all above le)

  pub children_at-combined_above : IsTrue (rising 0 dir.records) → number_at dir.records i < s → children_at s (without_record i dir) ≡ children_at s dir
  children_at-combined_above rise above = zero_or_above s dir.children dir.children _ _ (λ _. refl) (λ _. reads-combined_above dir.children s i dir.records sorted all rise above)
