-- The numbers of a row's records, as it is changed.
use Rattle.std.proofs.Common.{◌≡◌, ℕ, zero, suc, ◌<◌, ◌≤◌, true, false, cond, nat_lt, List, [], ◌∷◌, ◌++◌, map, Option, Some, None, refl, sym, ap, subst, ◌∙◌, arith}
use Rattle.std.specs.Prelude.{remove}
use Rattle.std.specs.List.{Contains}
use Rattle.std.proofs.lemmas.Bool.Decides.{nat_tests}
use Rattle.hs_types.specs.declared.ids.InodeId.{InodeId}
use Rattle.hs_plain.specs.declared.state.Member.{Member}
use Rattle.hs_plain.specs.declared.state.FileBlocks.{FileBlocks}
use Rattle.hs_plain.proofs.ValidTrees.{both}
use Rattle.hs_plain.proofs.ValidShapes.{true_false}
use Rattle.file_changes.specs.History as files
use Rattle.file_changes.specs.History.{FileHistory}
use Rattle.file_changes.specs.declared.state.FileRecord.{FileRecord}
use Rattle.dir_changes.specs.Entries.{id_at}
use Rattle.dir_changes.specs.History as dirs
use Rattle.dir_changes.specs.History.{DirHistory, Past, last_number, change_last, note_added, note_removed, removed, removed_as, started, added}
use Rattle.dir_changes.specs.Sound.{IsSound}
use Rattle.dir_changes.specs.Undo.{ListDiff}
use Rattle.dir_changes.proofs.DirLaws.{sound-added, sound-removed}
use Rattle.dir_changes.proofs.OrderLaws.{sound-started}
use Rattle.inode_table.specs.declared.change.Change.{Change}
use Rattle.inode_table.specs.declared.change.Change.TheVariants as changes
use Rattle.inode_table.specs.Edited.{begun, stamp_dir}
use Rattle.inode_table.specs.Kept.{AreSound, FitsDir, FitsRows, IsBare}
use Rattle.inode_table.specs.Records.{Recorded, last_of_all}
use Rattle.inode_table.specs.RowHistory.{RowHistory, File, Dir, last_in, is_live_between}
use Rattle.inode_table.specs.Snaps.{Rising}
use Rattle.inode_table.specs.Tabled.{begun_file, begun_rows, edited_file, edited_dir, changed_rows}
use Rattle.inode_table.specs.Whole.{numbers_in}
use Rattle.inode_table.proofs.Recording.{recorded-more, witness, between}
use Rattle.table_laws.proofs.RecordElements.{at_head, at_later, by_first, not_empty}

-- ---- numbers as a row is changed

-- one more at the end where it is above the last
abbrev pub numbers_after : ℕ → RowHistory → List ℕ
numbers_after number rows = cond (nat_lt (last_in rows) number) (numbers_in rows ++ number ∷ []) (numbers_in rows)

more_files : (rs : List FileRecord) (r : FileRecord) → map (λ (r : FileRecord). r.number.0) (rs ++ r ∷ []) ≡ map (λ (r : FileRecord). r.number.0) rs ++ r.number.0 ∷ []
more_files [] r = refl
more_files (s ∷ rs) r = ap (λ (ns : List ℕ). s.number.0 ∷ ns) (more_files rs r)

more_pasts : (ps : List Past) (p : Past) → map (λ (r : Past). r.number.0) (ps ++ p ∷ []) ≡ map (λ (r : Past). r.number.0) ps ++ p.number.0 ∷ []
more_pasts [] p = refl
more_pasts (q ∷ ps) p = ap (λ (ns : List ℕ). q.number.0 ∷ ns) (more_pasts ps p)

begun_numbers : (number : ℕ) (rows : RowHistory) → numbers_in (begun_rows number rows) ≡ numbers_after number rows
begun_numbers number (File file) = elim (nat_lt (files.last_number file) number) as (λ b. numbers_in (File (cond b (files.saved (record { 0 = number }) file) file)) ≡ cond b (numbers_in (File file) ++ number ∷ []) (numbers_in (File file))) [
  | true ↦ more_files file.records (record { number = record { 0 = number }; state = file.current })
  | false ↦ refl
]
begun_numbers number (Dir dir) = elim (nat_lt (dirs.last_number dir) number) as (λ b. numbers_in (Dir (cond b (started (record { 0 = number }) dir) dir)) ≡ cond b (numbers_in (Dir dir) ++ number ∷ []) (numbers_in (Dir dir))) [
  | true ↦ more_pasts dir.records (record { number = record { 0 = number }; marks = dir.marks; diff = record { created = []; deleted = [] } })
  | false ↦ refl
]

noted_numbers : (change : ListDiff → ListDiff) (ps : List Past) → map (λ (r : Past). r.number.0) (change_last change ps) ≡ map (λ (r : Past). r.number.0) ps
noted_numbers change [] = refl
noted_numbers change (p ∷ []) = refl
noted_numbers change (p ∷ q ∷ ps) = ap (λ (ns : List ℕ). p.number.0 ∷ ns) (noted_numbers change (q ∷ ps))

removed_numbers : (name : List ℕ) (o : Option InodeId) (dir : DirHistory) → numbers_in (Dir (removed_as name o dir)) ≡ numbers_in (Dir dir)
removed_numbers name None dir = refl
removed_numbers name (Some id) dir = noted_numbers (note_removed name id) dir.records

edited_file_numbers : (tick : ℕ) (what : Change) (file : FileHistory) → numbers_in (File (edited_file tick what file)) ≡ numbers_in (File file)
edited_file_numbers tick (changes.Mode mode) file = refl
edited_file_numbers tick (changes.Body size blocks) file = refl
edited_file_numbers tick (changes.Add name id) file = refl
edited_file_numbers tick (changes.Remove name) file = refl
edited_file_numbers tick (changes.Move spot) file = refl

edited_dir_numbers : (tick : ℕ) (what : Change) (dir : DirHistory) → numbers_in (Dir (edited_dir tick what dir)) ≡ numbers_in (Dir dir)
edited_dir_numbers tick (changes.Mode mode) dir = refl
edited_dir_numbers tick (changes.Body size blocks) dir = refl
edited_dir_numbers tick (changes.Add name id) dir = noted_numbers (note_added name id) dir.records
edited_dir_numbers tick (changes.Remove name) dir = removed_numbers name (id_at name dir.children) dir
edited_dir_numbers tick (changes.Move spot) dir = refl

pub changed-numbers : (number tick : ℕ) (what : Change) (rows : RowHistory) → numbers_in (changed_rows number tick what rows) ≡ numbers_after number rows
changed-numbers number tick what (File file) = edited_file_numbers tick what (begun_file number file) ∙ begun_numbers number (File file)
changed-numbers number tick what (Dir dir) = edited_dir_numbers tick what (begun number dir) ∙ begun_numbers number (Dir dir)

-- ---- undo stays defined

begun_sound : (number : ℕ) (dir : DirHistory) → IsSound dir → IsSound (begun number dir)
begun_sound number dir sound = elim (nat_lt (last_number dir) number) as (λ b. nat_lt (last_number dir) number ≡ b → IsSound (cond b (started (record { 0 = number }) dir) dir)) [
  | true ↦ λ t. sound-started dir sound (record { 0 = number }) (grind (arith, nat_tests, t))
  | false ↦ λ _. sound
] refl

begun_children : (number : ℕ) (dir : DirHistory) → (begun number dir).children ≡ dir.children
begun_children number dir = elim (nat_lt (last_number dir) number) as (λ b. (cond b (started (record { 0 = number }) dir) dir).children ≡ dir.children) [ true ↦ refl | false ↦ refl ]

stamped_sound : (tick : ℕ) (dir : DirHistory) → IsSound dir → IsSound (stamp_dir tick dir)
stamped_sound tick dir sound = record { rising = sound.rising; in_order = sound.in_order; ordered = sound.ordered; undoable = sound.undoable }

edited_sound : (tick : ℕ) (what : Change) (dir : DirHistory) → FitsDir what dir → IsSound dir → IsSound (edited_dir tick what dir)
edited_sound tick (changes.Mode mode) dir fits sound = record { rising = sound.rising; in_order = sound.in_order; ordered = sound.ordered; undoable = sound.undoable }
edited_sound tick (changes.Body size blocks) dir fits sound = sound
edited_sound tick (changes.Add name id) dir fits sound = stamped_sound tick (added name id dir) (sound-added name id dir sound fits)
edited_sound tick (changes.Remove name) dir fits sound = stamped_sound tick (removed name dir)
    (subst (λ (o : Option InodeId). IsSound (removed_as name o dir)) (sym fits.1) (sound-removed name fits.0 dir sound fits.1))
edited_sound tick (changes.Move spot) dir fits sound = record { rising = sound.rising; in_order = sound.in_order; ordered = sound.ordered; undoable = sound.undoable }

fits_begun : (what : Change) (dir b : DirHistory) → b.children ≡ dir.children → FitsDir what dir → FitsDir what b
fits_begun (changes.Mode mode) dir b same fits = fits
fits_begun (changes.Body size blocks) dir b same fits = fits
fits_begun (changes.Add name id) dir b same fits = ap (id_at name) same ∙ fits
fits_begun (changes.Remove name) dir b same fits = (fits.0, ap (id_at name) same ∙ fits.1)
fits_begun (changes.Move spot) dir b same fits = fits

pub changed-sound : (number tick : ℕ) (what : Change) (rows : RowHistory) → FitsRows what rows → AreSound rows → AreSound (changed_rows number tick what rows)
changed-sound number tick what (File file) fits sound = tt
changed-sound number tick what (Dir dir) fits sound = edited_sound tick what (begun number dir) (fits_begun what dir (begun number dir) (begun_children number dir) fits) (begun_sound number dir sound)

-- ---- the last number

dir_last : (low : ℕ) (rs : List Past) → dirs.last_from low rs ≡ last_of_all low (map (λ (r : Past). r.number.0) rs)
dir_last low [] = refl
dir_last low (r ∷ rs) = dir_last r.number.0 rs

file_last : (low : ℕ) (rs : List FileRecord) → files.last_from low rs ≡ last_of_all low (map (λ (r : FileRecord). r.number.0) rs)
file_last low [] = refl
file_last low (r ∷ rs) = file_last r.number.0 rs

pub last_so : (rows : RowHistory) → last_in rows ≡ last_of_all 0 (numbers_in rows)
last_so (File file) = file_last 0 file.records
last_so (Dir dir) = dir_last 0 dir.records

last_more : (low : ℕ) (ns : List ℕ) (n : ℕ) → last_of_all low (ns ++ n ∷ []) ≡ n
last_more low [] n = refl
last_more low (k ∷ ns) n = last_more k ns n

-- the last number, after a change
pub last-after : (number : ℕ) (rows : RowHistory) → last_of_all 0 (numbers_after number rows) ≡ cond (nat_lt (last_in rows) number) number (last_in rows)
last-after number rows = elim (nat_lt (last_in rows) number) as (λ b. last_of_all 0 (cond b (numbers_in rows ++ number ∷ []) (numbers_in rows)) ≡ cond b number (last_in rows)) [
  | true ↦ last_more 0 (numbers_in rows) number
  | false ↦ sym (last_so rows)
]

-- a row without records
pub bare-numbers : (rows : RowHistory) → IsBare rows → numbers_in rows ≡ []
bare-numbers (File file) bare = ap (map (λ (r : FileRecord). r.number.0)) bare
bare-numbers (Dir dir) bare = ap (map (λ (r : Past). r.number.0)) bare.0

pub bare-sound : (dir : DirHistory) → IsBare (Dir dir) → IsSound dir
bare-sound dir bare = record {
  rising = rw bare.0 refl;
  in_order = rw bare.1 refl;
  ordered = rw bare.0 tt;
  undoable = rw bare.0 refl;
}

-- ---- intervals

-- a started record with a live id in its interval
pub recorded-after : (members : List (Member FileBlocks)) (number : ℕ) (rows : RowHistory) → (last_in rows < number → is_live_between members (last_in rows) number ≡ true) → Recorded members 0 (numbers_in rows) → Recorded members 0 (numbers_after number rows)
recorded-after members number rows live rec = elim (nat_lt (last_in rows) number) as (λ b. nat_lt (last_in rows) number ≡ b → Recorded members 0 (cond b (numbers_in rows ++ number ∷ []) (numbers_in rows))) [
  | true ↦ λ t.
      let lt : last_in rows < number = grind (arith, nat_tests, t) in
      recorded-more members 0 (numbers_in rows) number rec (subst (λ (n : ℕ). n < number) (last_so rows) lt) (subst (λ (n : ℕ). is_live_between members n number ≡ true) (last_so rows) (live lt))
  | false ↦ λ _. rec
] refl

-- other snapshots, of which each interval has one
pub recorded-other : (members others : List (Member FileBlocks)) (low : ℕ) (ns : List ℕ) → ((m : Member FileBlocks) → Contains members m → (o : Member FileBlocks) × Contains others o × (o.snapshot.0 ≡ m.snapshot.0)) → Recorded members low ns → Recorded others low ns
recorded-other members others low [] also rec = tt
recorded-other members others low (n ∷ ns) also rec =
    let w = witness members low n rec.1 in
    let o = also w.m w.is_live in
    (rec.0, between others low n (record { m = o.0; is_live = o.1; above = let a = w.above in let e = o.2 in omega (arith, a, e); upto = let a = w.upto in let e = o.2 in omega (arith, a, e) }), recorded-other members others n ns also rec.2)

last_least : (ms : List (Member FileBlocks)) (low : ℕ) (ns : List ℕ) → Recorded ms low ns → low ≤ last_of_all low ns
last_least ms low [] rec = omega arith
last_least ms low (n ∷ ns) rec = let lt = rec.0 in let rest = last_least ms n ns rec.2 in omega (arith, lt, rest)

-- each number is at most the last
pub each-within : (ms : List (Member FileBlocks)) (low : ℕ) (ns : List ℕ) (k : ℕ) → Recorded ms low ns → Contains ns k → k ≤ last_of_all low ns
each-within ms low [] k rec c = not_empty k c
each-within ms low (n ∷ ns) k rec c = by_first n ns k c (λ e. subst (λ (j : ℕ). j ≤ last_of_all n ns) e (last_least ms n ns rec.2)) (λ l. each-within ms n ns k rec.2 l)

-- the last is the one before, or one of them
pub last-one : (low : ℕ) (ns : List ℕ) (most : ℕ) → low ≤ most → ((n : ℕ) → Contains ns n → n ≤ most) → last_of_all low ns ≤ most
last-one low [] most le all = le
last-one low (n ∷ ns) most le all = last-one n ns most (all n (at_head n ns)) (λ k c. all k (at_later n ns k c))

pub in_removed : (ns : List ℕ) (i n : ℕ) → Contains (remove ns i) n → Contains ns n
in_removed [] zero n c = c
in_removed [] (suc i) n c = c
in_removed (k ∷ ns) zero n c = at_later k ns n c
in_removed (k ∷ ns) (suc i) n c = by_first k (remove ns i) n c (λ e. subst (λ (x : ℕ). Contains (k ∷ ns) x) e (at_head k ns)) (λ h. at_later k ns n (in_removed ns i n h))

-- ---- what follows of numbers

past_rise : (ms : List (Member FileBlocks)) (low : ℕ) (ps : List Past) → Recorded ms low (map (λ (r : Past). r.number.0) ps) → dirs.rising low ps ≡ true
past_rise ms low [] rec = refl
past_rise ms low (p ∷ ps) rec = let lt : low < p.number.0 = rec.0 in let a : nat_lt low p.number.0 ≡ true = grind (arith, nat_tests, lt) in both a (past_rise ms p.number.0 ps rec.2)

file_rise : (ms : List (Member FileBlocks)) (low : ℕ) (rs : List FileRecord) → Recorded ms low (map (λ (r : FileRecord). r.number.0) rs) → files.rising low rs ≡ true
file_rise ms low [] rec = refl
file_rise ms low (r ∷ rs) rec = let lt : low < r.number.0 = rec.0 in let a : nat_lt low r.number.0 ≡ true = grind (arith, nat_tests, lt) in both a (file_rise ms r.number.0 rs rec.2)

pub rise : (ms : List (Member FileBlocks)) (rows : RowHistory) → Recorded ms 0 (numbers_in rows) → Rising rows
rise ms (File file) rec = file_rise ms 0 file.records rec
rise ms (Dir dir) rec = past_rise ms 0 dir.records rec

pub none-recorded : (ns : List ℕ) → Recorded {B = FileBlocks} [] 0 ns → ns ≡ []
none-recorded [] rec = refl
none-recorded (n ∷ ns) rec = absurd (true_false rec.1 refl)
