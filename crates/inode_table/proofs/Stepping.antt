-- One row's change: what its lists name, and what it weighs.
use Rattle.std.proofs.Common.{◌≡◌, ℕ, ◌+◌, ◌≤◌, Bool, true, false, cond, nat_lt, List, [], ◌∷◌, ◌++◌, Option, Some, length, length-append, refl, sym, ap, subst, ◌∙◌, arith}
use Rattle.std.proofs.lemmas.Bool.Decides.{nat_tests}
use Rattle.hs_types.specs.declared.ids.InodeId.{InodeId}
use Rattle.file_changes.specs.History as files
use Rattle.file_changes.specs.History.{FileHistory}
use Rattle.dir_changes.specs.Counts as counts
use Rattle.dir_changes.specs.Counts.{times, one_where, same_id, goes_to_deleted, keeps_as, deleted_ids, created_in, deleted_in, one_if_recorded}
use Rattle.dir_changes.specs.Entries.{id_at}
use Rattle.dir_changes.specs.History.{DirHistory, Past, ids_of, removed_as, last_number}
use Rattle.dir_changes.specs.Sound.{IsSound}
use Rattle.dir_changes.proofs.CountLaws.{counts-added, counts-removed}
use Rattle.dir_changes.proofs.OrderLaws.{sound-started}
use Rattle.inode_table.specs.declared.change.Change.{Change}
use Rattle.inode_table.specs.declared.change.Change.TheVariants as changes
use Rattle.inode_table.specs.RowHistory.{RowHistory, File, Dir}
use Rattle.inode_table.specs.Edited.{begun, stamp_dir}
use Rattle.inode_table.specs.Kept.{AreSound, FitsDir, FitsRows}
use Rattle.inode_table.specs.Names.{named_in}
use Rattle.inode_table.specs.Recounts.{more_of, less_of}
use Rattle.inode_table.specs.Tabled.{begun_file, begun_rows, edited_file, edited_dir, changed_rows, recount_of, recount_dir, lost_unless}
use Rattle.inode_table.specs.Totals.{records_in, entries_of}

-- ---- a started record names nothing

deleted_more : (rs : List Past) (p : Past) → p.diff.deleted ≡ [] → deleted_ids (rs ++ p ∷ []) ≡ deleted_ids rs
deleted_more [] p none = rw none refl
deleted_more (r ∷ rs) p none = ap (λ (ids : List InodeId). ids_of r.diff.deleted ++ ids) (deleted_more rs p none)

created_count : (rs : List Past) (p : Past) → p.diff.created ≡ [] → created_in (rs ++ p ∷ []) ≡ created_in rs
created_count [] p none = rw none refl
created_count (r ∷ rs) p none = ap (λ n. length r.diff.created + n) (created_count rs p none)

deleted_count : (rs : List Past) (p : Past) → p.diff.deleted ≡ [] → deleted_in (rs ++ p ∷ []) ≡ deleted_in rs
deleted_count [] p none = rw none refl
deleted_count (r ∷ rs) p none = ap (λ n. length r.diff.deleted + n) (deleted_count rs p none)

-- what is begun
record Begun (dir b : DirHistory) : Type 0 where
  sound : IsSound b
  children : b.children ≡ dir.children
  named : (x : InodeId) → times x (counts.named_in b) ≡ times x (counts.named_in dir)
  records : length b.records ≤ length dir.records + 1
  entries : counts.list_entries b ≡ counts.list_entries dir

begin : (cover : ℕ) (dir : DirHistory) → IsSound dir → Begun dir (begun cover dir)
begin cover dir sound = elim (nat_lt (last_number dir) cover) as (λ b. nat_lt (last_number dir) cover ≡ b → Begun dir (cond b (record dir { records = dir.records ++ record { number = record { 0 = cover }; marks = dir.marks; diff = record { created = []; deleted = [] } } ∷ [] }) dir)) [
  | true ↦ λ t. record {
    sound = sound-started dir sound (record { 0 = cover }) (grind (arith, nat_tests, t));
    children = refl;
    named = λ x. ap (λ (ids : List InodeId). times x (ids_of dir.children ++ ids)) (deleted_more dir.records (record { number = record { 0 = cover }; marks = dir.marks; diff = record { created = []; deleted = [] } }) refl);
    records = let more = length-append dir.records (record { number = record { 0 = cover }; marks = dir.marks; diff = record { created = []; deleted = [] } } ∷ []) in omega (arith, more);
    entries =
        let a = created_count dir.records (record { number = record { 0 = cover }; marks = dir.marks; diff = record { created = []; deleted = [] } }) refl in
        let b = deleted_count dir.records (record { number = record { 0 = cover }; marks = dir.marks; diff = record { created = []; deleted = [] } }) refl in
        omega (arith, a, b);
  }
  | false ↦ λ _. record { sound = sound; children = refl; named = λ x. refl; records = omega arith; entries = refl }
] refl

-- ---- the edit of a directory

lost_named : (goes : Bool) (id x : InodeId) (after before : ℕ) → after + cond goes 0 (one_where (same_id id x)) ≡ before
    → after + less_of (lost_unless goes (Some id)) x ≡ before + more_of (lost_unless goes (Some id)) x
lost_named true id x after before h = omega (arith, h)
lost_named false id x after before h = omega (arith, h)

edit-named : (tick : ℕ) (what : Change) (b : DirHistory) → IsSound b → FitsDir what b → (x : InodeId)
    → times x (named_in (Dir (edited_dir tick what b))) + less_of (recount_dir what b) x ≡ times x (named_in (Dir b)) + more_of (recount_dir what b) x
edit-named tick (changes.Mode mode) b sound fits x = refl
edit-named tick (changes.Body size blocks) b sound fits x = absurd fits
edit-named tick (changes.Add name id) b sound fits x = let more = (counts-added b name id sound fits).named x in omega (arith, more)
edit-named tick (changes.Remove name) b sound fits x =
    subst (λ (o : Option InodeId). times x (named_in (Dir (stamp_dir tick (removed_as name o b)))) + less_of (lost_unless (keeps_as name o b.records) o) x ≡ times x (named_in (Dir b)) + more_of (lost_unless (keeps_as name o b.records) o) x)
    (sym fits.1)
    (lost_named (goes_to_deleted name fits.0 b.records) fits.0 x (times x (named_in (Dir (removed_as name (Some fits.0) b)))) (times x (named_in (Dir b))) ((counts-removed b name fits.0 sound fits.1).named x))
edit-named tick (changes.Move spot) b sound fits x = refl

one_at_most : (t : Bool) → one_where t ≤ 1
one_at_most true = omega arith
one_at_most false = omega arith

if_recorded : (rs : List Past) → one_if_recorded rs ≤ 1
if_recorded [] = omega arith
if_recorded (r ∷ rs) = omega arith

edit-weight : (tick : ℕ) (what : Change) (b : DirHistory) → IsSound b → FitsDir what b
    → records_in (Dir (edited_dir tick what b)) + entries_of (Dir (edited_dir tick what b)) ≤ records_in (Dir b) + entries_of (Dir b) + 2
edit-weight tick (changes.Mode mode) b sound fits = omega arith
edit-weight tick (changes.Body size blocks) b sound fits = absurd fits
edit-weight tick (changes.Add name id) b sound fits =
    let more = counts-added b name id sound fits in
    let one = if_recorded b.records in omega (arith, more.children, more.created, more.deleted, more.records, one)
edit-weight tick (changes.Remove name) b sound fits =
    subst (λ (o : Option InodeId). records_in (Dir (stamp_dir tick (removed_as name o b))) + entries_of (Dir (stamp_dir tick (removed_as name o b))) ≤ records_in (Dir b) + entries_of (Dir b) + 2) (sym fits.1)
    (let less = counts-removed b name fits.0 sound fits.1 in
    let one = one_at_most (goes_to_deleted name fits.0 b.records) in omega (arith, less.children, less.created, less.deleted, less.records, one))
edit-weight tick (changes.Move spot) b sound fits = omega arith

fits_begun : (what : Change) (dir b : DirHistory) → b.children ≡ dir.children → FitsDir what dir → FitsDir what b
fits_begun (changes.Mode mode) dir b same fits = fits
fits_begun (changes.Body size blocks) dir b same fits = fits
fits_begun (changes.Add name id) dir b same fits = ap (id_at name) same ∙ fits
fits_begun (changes.Remove name) dir b same fits = (fits.0, ap (id_at name) same ∙ fits.1)
fits_begun (changes.Move spot) dir b same fits = fits

-- ---- the change of a row

pub changed-named : (cover tick : ℕ) (what : Change) (rows : RowHistory) → AreSound rows → FitsRows what rows → (x : InodeId)
    → times x (named_in (changed_rows cover tick what rows)) + less_of (recount_of what (begun_rows cover rows)) x ≡ times x (named_in rows) + more_of (recount_of what (begun_rows cover rows)) x
changed-named cover tick what (File file) sound fits x = refl
changed-named cover tick what (Dir dir) sound fits x =
    let b = begin cover dir sound in
    let edit = edit-named tick what (begun cover dir) b.sound (fits_begun what dir (begun cover dir) b.children fits) x in
    let same = b.named x in omega (arith, edit, same)

pub edit-file-records : (tick : ℕ) (what : Change) (file : FileHistory) → (edited_file tick what file).records ≡ file.records
edit-file-records tick (changes.Mode mode) file = refl
edit-file-records tick (changes.Body size blocks) file = refl
edit-file-records tick (changes.Add name id) file = refl
edit-file-records tick (changes.Remove name) file = refl
edit-file-records tick (changes.Move spot) file = refl

begun_file_records : (cover : ℕ) (file : FileHistory) → length (begun_file cover file).records ≤ length file.records + 1
begun_file_records cover file = elim (nat_lt (files.last_number file) cover) as (λ b. length (cond b (files.saved (record { 0 = cover }) file) file).records ≤ length file.records + 1) [
  | true ↦ let more = length-append file.records (record { number = record { 0 = cover }; state = file.current } ∷ []) in omega (arith, more)
  | false ↦ omega arith
]

pub changed-weight : (cover tick : ℕ) (what : Change) (rows : RowHistory) → AreSound rows → FitsRows what rows
    → records_in (changed_rows cover tick what rows) + entries_of (changed_rows cover tick what rows) ≤ records_in rows + entries_of rows + 3
changed-weight cover tick what (File file) sound fits =
    let same = ap length (edit-file-records tick what (begun_file cover file)) in let more = begun_file_records cover file in omega (arith, same, more)
changed-weight cover tick what (Dir dir) sound fits =
    let b = begin cover dir sound in
    let edit = edit-weight tick what (begun cover dir) b.sound (fits_begun what dir (begun cover dir) b.children fits) in
    omega (arith, edit, b.records, b.entries)
