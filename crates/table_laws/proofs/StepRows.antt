-- A change of one row: what is read of it before, and now.
use Rattle.std.proofs.Common.{◌≡◌, ℕ, ◌<◌, ◌≤◌, true, false, cond, List, [], ◌∷◌, ◌++◌, Option, Some, None, refl, sym, ap, subst, ◌∙◌, arith}
use Rattle.std.specs.Prelude.{nat_lt}
use Rattle.std.proofs.lemmas.Bool.Decides.{nat_tests}
use Rattle.hs_types.specs.declared.ids.InodeId.{InodeId}
use Rattle.file_changes.specs.declared.state.FileState.{FileState}
use Rattle.file_changes.specs.History as files
use Rattle.file_changes.specs.History.{FileHistory, state_at}
use Rattle.file_changes.proofs.Reading.{state_at-current, state_at-saved, last-saved}
use Rattle.dir_changes.specs.Entries.{id_at}
use Rattle.dir_changes.specs.History.{DirHistory, Past, Marks, last_number, last_from, started, added, removed_as, note_added, note_removed, children_at, marks_at}
use Rattle.dir_changes.specs.Sound.{IsSound}
use Rattle.dir_changes.proofs.ReadLaws.{children_at-started, marks_at-started, marks_at-current}
use Rattle.inode_table.proofs.Editing.{last_from-changed}
use Rattle.dir_changes.proofs.OrderLaws.{sound-started}
use Rattle.dir_changes.proofs.DirLaws.{sound-added, sound-removed, children_at-added, marks_at-added, children_at-removed_as, marks_at-removed_as}
use Rattle.inode_table.specs.declared.change.Change.{Change}
use Rattle.inode_table.specs.declared.change.Change.TheVariants as changes
use Rattle.inode_table.specs.RowHistory.{RowHistory, File, Dir, file_node, dir_node, last_after}
use Rattle.inode_table.specs.Edited.{begun, stamp_dir}
use Rattle.inode_table.specs.Kept.{AreSound, FitsFile, FitsDir, FitsRows}
use Rattle.inode_table.specs.Tabled.{begun_file, edited_file, edited_dir, changed_rows}
use Rattle.table_laws.specs.Steps.{node_after, entries_after, spot_after, ShowsChange, ChangesRow}

-- ---- a file

-- a file with or without a new record
record BegunFile (number : ℕ) (file b : FileHistory) : Type 0 where
  current : b.current ≡ file.current
  last : files.last_number b ≡ last_after (files.last_number file) number
  reads : (s : ℕ) → state_at s b ≡ state_at s file

begun-file : (number : ℕ) (file : FileHistory) → BegunFile number file (begun_file number file)
begun-file number file = elim (nat_lt (files.last_number file) number) as (λ b. nat_lt (files.last_number file) number ≡ b → BegunFile number file (cond b (files.saved (record { 0 = number }) file) file)) [
  | true ↦ λ t. record {
    current = refl;
    last = last-saved 0 file.records (record { number = record { 0 = number }; state = file.current }) ∙ sym (ap (λ b. cond b number (files.last_number file)) t);
    reads = state_at-saved file (record { 0 = number });
  }
  | false ↦ λ t. record { current = refl; last = sym (ap (λ b. cond b number (files.last_number file)) t); reads = λ s. refl }
] refl

file_last : (tick : ℕ) (what : Change) (b : FileHistory) → files.last_number (edited_file tick what b) ≡ files.last_number b
file_last tick (changes.Mode mode) b = refl
file_last tick (changes.Body size blocks) b = refl
file_last tick (changes.Add name id) b = refl
file_last tick (changes.Remove name) b = refl
file_last tick (changes.Move spot) b = refl

file_reads : (tick : ℕ) (what : Change) (b : FileHistory) (s : ℕ) → 0 < s → s ≤ files.last_number b → state_at s (edited_file tick what b) ≡ state_at s b
file_reads tick (changes.Mode mode) b s above le = state_at-current b (record b.current { mode = mode; stamp = tick }) s above le
file_reads tick (changes.Body size blocks) b s above le = state_at-current b (record b.current { size = size; blocks = blocks; stamp = tick }) s above le
file_reads tick (changes.Add name id) b s above le = refl
file_reads tick (changes.Remove name) b s above le = refl
file_reads tick (changes.Move spot) b s above le = state_at-current b (record b.current { spot = spot }) s above le

file_shows : (tick : ℕ) (what : Change) (file b : FileHistory) → b.current ≡ file.current → FitsFile what → ShowsChange tick what (File file) (File (edited_file tick what b))
file_shows tick (changes.Mode mode) file b same fits = record { node = λ id. ap (λ (c : FileState). file_node id (record c { mode = mode; stamp = tick })) same; entries = refl; spot = ap (λ (c : FileState). c.spot) same }
file_shows tick (changes.Body size blocks) file b same fits =
    record { node = λ id. ap (λ (c : FileState). file_node id (record c { size = size; blocks = blocks; stamp = tick })) same; entries = refl; spot = ap (λ (c : FileState). c.spot) same }
file_shows tick (changes.Add name id) file b same fits = absurd fits
file_shows tick (changes.Remove name) file b same fits = absurd fits
file_shows tick (changes.Move spot) file b same fits = record { node = λ id. ap (λ (c : FileState). file_node id (record c { spot = spot })) same; entries = refl; spot = refl }

changes-file : (number tick : ℕ) (what : Change) (file : FileHistory) → FitsFile what → ChangesRow number tick what (File file) (File (edited_file tick what (begun_file number file)))
changes-file number tick what file fits = record {
  reads = λ s above le. let same = file_reads tick what (begun_file number file) s above (subst (λ n. s ≤ n) (sym start.last) le) ∙ start.reads s in
      record { node = λ id. ap (file_node id) same; entries = refl; spot = ap (λ (c : FileState). c.spot) same };
  last = file_last tick what (begun_file number file) ∙ start.last;
  shows = file_shows tick what file (begun_file number file) start.current fits;
  sound = tt;
}
  where
    start : BegunFile number file (begun_file number file)
    start = begun-file number file

-- ---- a directory

-- a directory with or without a new record
record BegunDir (number : ℕ) (dir b : DirHistory) : Type 0 where
  sound : IsSound b
  last : last_number b ≡ last_after (last_number dir) number
  children : b.children ≡ dir.children
  marks : b.marks ≡ dir.marks
  reads : (s : ℕ) → children_at s b ≡ children_at s dir
  reads_marks : (s : ℕ) → marks_at s b ≡ marks_at s dir

last_more : (n : ℕ) (rs : List Past) (r : Past) → last_from n (rs ++ r ∷ []) ≡ r.number.0
last_more n [] r = refl
last_more n (p ∷ rs) r = last_more p.number.0 rs r

begun-dir : (number : ℕ) (dir : DirHistory) → IsSound dir → BegunDir number dir (begun number dir)
begun-dir number dir sound = elim (nat_lt (last_number dir) number) as (λ b. nat_lt (last_number dir) number ≡ b → BegunDir number dir (cond b (started (record { 0 = number }) dir) dir)) [
  | true ↦ λ t. record {
    sound = sound-started dir sound (record { 0 = number }) (grind (arith, nat_tests));
    last = last_more 0 dir.records (record { number = record { 0 = number }; marks = dir.marks; diff = record { created = []; deleted = [] } }) ∙ sym (ap (λ b. cond b number (last_number dir)) t);
    children = refl;
    marks = refl;
    reads = children_at-started dir (record { 0 = number });
    reads_marks = marks_at-started dir (record { 0 = number });
  }
  | false ↦ λ t. record { sound = sound; last = sym (ap (λ b. cond b number (last_number dir)) t); children = refl; marks = refl; reads = λ s. refl; reads_marks = λ s. refl }
] refl

-- the edit of a directory
record EditsDir (tick : ℕ) (what : Change) (b e : DirHistory) : Type 0 where
  sound : IsSound e
  last : last_number e ≡ last_number b
  reads : (s : ℕ) → 0 < s → s ≤ last_number b → children_at s e ≡ children_at s b
  reads_marks : (s : ℕ) → 0 < s → s ≤ last_number b → marks_at s e ≡ marks_at s b
  shows : ShowsChange tick what (Dir b) (Dir e)

other_marks : (dir : DirHistory) (marks : Marks) → IsSound dir → IsSound (record dir { marks = marks })
other_marks dir marks sound = record { rising = sound.rising; in_order = sound.in_order; ordered = sound.ordered; undoable = sound.undoable }

added_dir : (tick : ℕ) (name : List ℕ) (id : InodeId) (b : DirHistory) → IsSound b → id_at name b.children ≡ None → EditsDir tick (changes.Add name id) b (stamp_dir tick (added name id b))
added_dir tick name id b sound free = record {
  sound = other_marks (added name id b) (record b.marks { stamp = tick }) (sound-added name id b sound free);
  last = last_from-changed (note_added name id) 0 b.records;
  reads = children_at-added name id b sound free;
  reads_marks = λ s above le. marks_at-current (added name id b) (record b.marks { stamp = tick }) s above (subst (λ n. s ≤ n) (sym (last_from-changed (note_added name id) 0 b.records)) le) ∙ marks_at-added name id b s;
  shows = record { node = λ i. refl; entries = refl; spot = refl };
}

removed_dir : (tick : ℕ) (name : List ℕ) (id : InodeId) (b : DirHistory) → IsSound b → id_at name b.children ≡ Some id → EditsDir tick (changes.Remove name) b (stamp_dir tick (removed_as name (Some id) b))
removed_dir tick name id b sound there = record {
  sound = other_marks (removed_as name (Some id) b) (record b.marks { stamp = tick }) (sound-removed name id b sound there);
  last = last_from-changed (note_removed name id) 0 b.records;
  reads = children_at-removed_as name id b sound there;
  reads_marks = λ s above le. marks_at-current (removed_as name (Some id) b) (record b.marks { stamp = tick }) s above (subst (λ n. s ≤ n) (sym (last_from-changed (note_removed name id) 0 b.records)) le) ∙ marks_at-removed_as name (Some id) b s;
  shows = record { node = λ i. refl; entries = refl; spot = refl };
}

edits-dir : (tick : ℕ) (what : Change) (b : DirHistory) → IsSound b → FitsDir what b → EditsDir tick what b (edited_dir tick what b)
edits-dir tick (changes.Mode mode) b sound fits = record {
  sound = other_marks b (record b.marks { mode = mode; stamp = tick }) sound;
  last = refl;
  reads = λ s above le. refl;
  reads_marks = marks_at-current b (record b.marks { mode = mode; stamp = tick });
  shows = record { node = λ i. refl; entries = refl; spot = refl };
}
edits-dir tick (changes.Body size blocks) b sound fits = absurd fits
edits-dir tick (changes.Add name id) b sound fits = added_dir tick name id b sound fits
edits-dir tick (changes.Remove name) b sound fits =
    subst (λ (o : Option InodeId). EditsDir tick (changes.Remove name) b (stamp_dir tick (removed_as name o b))) (sym fits.1) (removed_dir tick name fits.0 b sound fits.1)
edits-dir tick (changes.Move spot) b sound fits = record {
  sound = other_marks b (record b.marks { spot = spot }) sound;
  last = refl;
  reads = λ s above le. refl;
  reads_marks = marks_at-current b (record b.marks { spot = spot });
  shows = record { node = λ i. refl; entries = refl; spot = refl };
}

fits_begun : (what : Change) (dir b : DirHistory) → b.children ≡ dir.children → FitsDir what dir → FitsDir what b
fits_begun (changes.Mode mode) dir b same fits = fits
fits_begun (changes.Body size blocks) dir b same fits = fits
fits_begun (changes.Add name id) dir b same fits = ap (id_at name) same ∙ fits
fits_begun (changes.Remove name) dir b same fits = (fits.0, ap (id_at name) same ∙ fits.1)
fits_begun (changes.Move spot) dir b same fits = fits

changes-dir : (number tick : ℕ) (what : Change) (dir : DirHistory) → IsSound dir → FitsDir what dir → ChangesRow number tick what (Dir dir) (Dir (edited_dir tick what (begun number dir)))
changes-dir number tick what dir sound fits = record {
  reads = λ s above le. let upto : s ≤ last_number (begun number dir) = subst (λ n. s ≤ n) (sym start.last) le in
      let marks : marks_at s (edited_dir tick what (begun number dir)) ≡ marks_at s dir = edit.reads_marks s above upto ∙ start.reads_marks s in
      record { node = λ id. ap (dir_node id) marks; entries = edit.reads s above upto ∙ start.reads s; spot = ap (λ (m : Marks). m.spot) marks };
  last = edit.last ∙ start.last;
  shows = record {
    node = λ id. edit.shows.node id ∙ ap (λ (m : Marks). node_after tick what (dir_node id m)) start.marks;
    entries = edit.shows.entries ∙ ap (entries_after what) start.children;
    spot = edit.shows.spot ∙ ap (λ (m : Marks). spot_after what m.spot) start.marks;
  };
  sound = edit.sound;
}
  where
    start : BegunDir number dir (begun number dir)
    start = begun-dir number dir sound

    edit : EditsDir tick what (begun number dir) (edited_dir tick what (begun number dir))
    edit = edits-dir tick what (begun number dir) start.sound (fits_begun what dir (begun number dir) start.children fits)

-- ---- a row

pub changes-row : (number tick : ℕ) (what : Change) (rows : RowHistory) → AreSound rows → FitsRows what rows → ChangesRow number tick what rows (changed_rows number tick what rows)
changes-row number tick what (File file) sound fits = changes-file number tick what file fits
changes-row number tick what (Dir dir) sound fits = changes-dir number tick what dir sound fits
