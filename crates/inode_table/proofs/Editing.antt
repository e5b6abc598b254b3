-- One row's change keeps its earlier readings.
use Rattle.std.proofs.Common.{◌≡◌, ℕ, ◌<◌, ◌≤◌, true, false, cond, List, [], ◌∷◌, ◌++◌, Option, Some, None, refl, sym, ap, subst, ◌∙◌, arith}
use Rattle.std.specs.Prelude.{nat_lt, is_some}
use Rattle.std.proofs.lemmas.Bool.Decides.{nat_tests}
use Rattle.hs_types.specs.declared.ids.InodeId.{InodeId}
use Rattle.dir_changes.specs.Entries.{Entries, id_at, without_name}
use Rattle.dir_changes.specs.Undo.{ListDiff}
use Rattle.dir_changes.specs.History.{DirHistory, Past, Marks, last_number, last_from, started, removed, removed_as, change_last, note_removed, children_at, marks_at}
use Rattle.dir_changes.specs.Sound.{IsSound}
use Rattle.dir_changes.proofs.ReadLaws.{children_at-started, marks_at-started, marks_at-current}
use Rattle.dir_changes.proofs.OrderLaws.{sound-started}
use Rattle.dir_changes.proofs.DirLaws.{children_at-removed_as, marks_at-removed_as}
use Rattle.inode_table.specs.RowHistory.{Dir, last_after, dir_node}
use Rattle.inode_table.specs.Edited.{RowEdited, begun, stamp_dir}

last_from-append : (n : ℕ) (rs : List Past) (r : Past) → last_from n (rs ++ r ∷ []) ≡ r.number.0
last_from-append n [] r = refl
last_from-append n (p ∷ rs) r = last_from-append p.number.0 rs r

pub last_from-changed : (f : ListDiff → ListDiff) (n : ℕ) (rs : List Past) → last_from n (change_last f rs) ≡ last_from n rs
last_from-changed f n [] = refl
last_from-changed f n (p ∷ []) = refl
last_from-changed f n (p ∷ q ∷ rs) = last_from-changed f p.number.0 (q ∷ rs)

-- a directory with or without a new record
record Begins (number : ℕ) (dir middle : DirHistory) : Type 0 where
  sound : IsSound middle
  last : last_number middle ≡ last_after (last_number dir) number
  children : middle.children ≡ dir.children
  marks : middle.marks ≡ dir.marks
  children_at : (s : ℕ) → children_at s middle ≡ children_at s dir
  marks_at : (s : ℕ) → marks_at s middle ≡ marks_at s dir

begins : (number : ℕ) (dir : DirHistory) → IsSound dir → Begins number dir (begun number dir)
begins number dir sound = elim (nat_lt (last_number dir) number) as (λ b. nat_lt (last_number dir) number ≡ b → Begins number dir (cond b (started (record { 0 = number }) dir) dir)) [
  | true ↦ λ t. record {
    sound = sound-started dir sound (record { 0 = number }) (grind (arith, nat_tests));
    last = last_from-append 0 dir.records (record { number = record { 0 = number }; marks = dir.marks; diff = record { created = []; deleted = [] } }) ∙ sym (ap (λ b. cond b number (last_number dir)) t);
    children = refl;
    marks = refl;
    children_at = children_at-started dir (record { 0 = number });
    marks_at = marks_at-started dir (record { 0 = number });
  }
  | false ↦ λ t. record { sound = sound; last = sym (ap (λ b. cond b number (last_number dir)) t); children = refl; marks = refl; children_at = λ s. refl; marks_at = λ s. refl }
] refl

removed-row : (dir middle : DirHistory) (number tick : ℕ) (name : List ℕ) (id : InodeId) → Begins number dir middle → id_at name middle.children ≡ Some id
    → RowEdited number tick (without_name name dir.children) (Dir dir) (Dir (stamp_dir tick (removed_as name (Some id) middle)))
removed-row dir middle number tick name id b found = record {
  reads = λ s above le. let upto : s ≤ last_number middle = subst (λ n. s ≤ n) (sym b.last) le in
      let same : marks_at s (stamp_dir tick (removed_as name (Some id) middle)) ≡ marks_at s dir =
      marks_at-current (removed_as name (Some id) middle) (record middle.marks { stamp = tick }) s above (subst (λ n. s ≤ n) (sym (last_from-changed (note_removed name id) 0 middle.records)) upto)
      ∙ marks_at-removed_as name (Some id) middle s ∙ b.marks_at s in
      record {
        node = λ i. ap (dir_node i) same;
        entries = children_at-removed_as name id middle b.sound found s above upto ∙ b.children_at s;
        spot = ap (λ (m : Marks). m.spot) same;
      };
  last = last_from-changed (note_removed name id) 0 middle.records ∙ b.last;
  edit = record { node = λ i. ap (λ (m : Marks). dir_node i (record m { stamp = tick })) b.marks; spot = ap (λ (m : Marks). m.spot) b.marks };
  entries = ap (without_name name) b.children;
}

pub remove-row : (dir : DirHistory) (number tick : ℕ) (name : List ℕ) (id : InodeId) → IsSound dir → id_at name dir.children ≡ Some id
    → RowEdited number tick (without_name name dir.children) (Dir dir) (Dir (stamp_dir tick (removed name (begun number dir))))
remove-row dir number tick name id sound found =
    let b = begins number dir sound in
    let here : id_at name (begun number dir).children ≡ Some id = ap (id_at name) b.children ∙ found in
    subst (λ o. RowEdited number tick (without_name name dir.children) (Dir dir) (Dir (stamp_dir tick (removed_as name o (begun number dir))))) (sym here)
    (removed-row dir (begun number dir) number tick name id b here)

-- ---- from contracts alone

begun-last : (number : ℕ) (dir : DirHistory) → last_number (begun number dir) ≡ last_after (last_number dir) number
begun-last number dir = elim (nat_lt (last_number dir) number) as (λ b. last_number (cond b (started (record { 0 = number }) dir) dir) ≡ cond b number (last_number dir)) [
  | true ↦ last_from-append 0 dir.records (record { number = record { 0 = number }; marks = dir.marks; diff = record { created = []; deleted = [] } })
  | false ↦ refl
]

begun-marks : (number : ℕ) (dir : DirHistory) → (begun number dir).marks ≡ dir.marks
begun-marks number dir = elim (nat_lt (last_number dir) number) as (λ b. (cond b (started (record { 0 = number }) dir) dir).marks ≡ dir.marks) [ true ↦ refl | false ↦ refl ]

begun-children : (number : ℕ) (dir : DirHistory) → (begun number dir).children ≡ dir.children
begun-children number dir = elim (nat_lt (last_number dir) number) as (λ b. (cond b (started (record { 0 = number }) dir) dir).children ≡ dir.children) [ true ↦ refl | false ↦ refl ]

removed-last : (name : List ℕ) (o : Option InodeId) (dir : DirHistory) → last_number (removed_as name o dir) ≡ last_number dir
removed-last name None dir = refl
removed-last name (Some id) dir = last_from-changed (note_removed name id) 0 dir.records

removed-marks : (name : List ℕ) (o : Option InodeId) (dir : DirHistory) → (removed_as name o dir).marks ≡ dir.marks
removed-marks name None dir = refl
removed-marks name (Some id) dir = refl

removed-children : (name : List ℕ) (o : Option InodeId) (dir : DirHistory) → is_some o ≡ true → (removed_as name o dir).children ≡ without_name name dir.children
removed-children name None dir h = cc
removed-children name (Some id) dir h = refl

pub edited : (h0 h1 h2 h3 : DirHistory) (number tick mode : ℕ) (name : List ℕ) → is_some (id_at name h0.children) ≡ true
    → h1 ≡ begun number h0 → ((s : ℕ) → children_at s h1 ≡ children_at s h0) → ((s : ℕ) → marks_at s h1 ≡ marks_at s h0)
    → h2 ≡ removed name h1 → ((s : ℕ) → 0 < s → s ≤ last_number h1 → children_at s h2 ≡ children_at s h1) → ((s : ℕ) → marks_at s h2 ≡ marks_at s h1)
    → mode ≡ h2.marks.mode → h3 ≡ record h2 { marks = record h2.marks { mode = mode; stamp = tick } }
    → ((s : ℕ) → 0 < s → s ≤ last_number h2 → marks_at s h3 ≡ marks_at s h2) → ((s : ℕ) → children_at s h3 ≡ children_at s h2)
    → RowEdited number tick (without_name name h0.children) (Dir h0) (Dir h3)
edited h0 h1 h2 h3 number tick mode name there is_1 kids_1 marks_1 is_2 kids_2 marks_2 is_mode is_3 marks_3 kids_3 = record {
  reads = λ s above le.
      let upto_1 : s ≤ last_number h1 = subst (λ n. s ≤ n) (sym last_1) le in
      let upto_2 : s ≤ last_number h2 = subst (λ n. s ≤ n) (sym last_2) upto_1 in
      let same : marks_at s h3 ≡ marks_at s h0 = marks_3 s above upto_2 ∙ marks_2 s ∙ marks_1 s in
      record { node = λ i. ap (dir_node i) same; entries = kids_3 s ∙ kids_2 s above upto_1 ∙ kids_1 s; spot = ap (λ (m : Marks). m.spot) same };
  last = ap last_number is_3 ∙ last_2 ∙ last_1;
  edit = record { node = λ i. ap (dir_node i) now; spot = ap (λ (m : Marks). m.spot) now };
  entries = ap (λ (d : DirHistory). d.children) is_3 ∙ ap (λ (d : DirHistory). d.children) is_2 ∙ removed-children name (id_at name h1.children) h1 (ap (λ (es : Entries). is_some (id_at name es)) kids ∙ there) ∙ ap (without_name name) kids;
}
  where
    last_1 : last_number h1 ≡ last_after (last_number h0) number
    last_1 = ap last_number is_1 ∙ begun-last number h0

    last_2 : last_number h2 ≡ last_number h1
    last_2 = ap last_number is_2 ∙ removed-last name (id_at name h1.children) h1

    kids : h1.children ≡ h0.children
    kids = ap (λ (d : DirHistory). d.children) is_1 ∙ begun-children number h0

    marks : h2.marks ≡ h0.marks
    marks = ap (λ (d : DirHistory). d.marks) is_2 ∙ removed-marks name (id_at name h1.children) h1 ∙ ap (λ (d : DirHistory). d.marks) is_1 ∙ begun-marks number h0

    now : h3.marks ≡ record h0.marks { stamp = tick }
    now = ap (λ (d : DirHistory). d.marks) is_3 ∙ ap (λ m. record h2.marks { mode = m; stamp = tick }) is_mode ∙ ap (λ (m : Marks). record m { stamp = tick }) marks
