-- Directories stay sound in each step of a table.
use Rattle.std.proofs.Common.{◌≡◌, ℕ, true, false, cond, nat_lt, List, [], ◌∷◌, Option, Some, None, refl, sym, ap, subst, ◌∙◌, arith}
use Rattle.std.specs.Option.{option_map}
use Rattle.std.specs.FinMap.Entries.{put}
use Rattle.std.proofs.lemmas.Bool.Decides.{nat_tests}
use Rattle.hs_types.specs.declared.ids.InodeId.{InodeId}
use Rattle.hs_plain.proofs.ValidShapes.{none_some, same_some}
use Rattle.dir_changes.specs.Entries.{id_at}
use Rattle.dir_changes.specs.History.{DirHistory, Marks, last_number, started}
use Rattle.dir_changes.specs.Sound.{IsSound}
use Rattle.dir_changes.proofs.DirLaws.{sound-added}
use Rattle.dir_changes.proofs.OrderLaws.{sound-started, sound-combined}
use Rattle.dir_changes.proofs.RowLaws.{sound-after_removed}
use Rattle.inode_table.specs.declared.change.Change.{Change}
use Rattle.inode_table.specs.declared.change.Change.TheVariants as changes
use Rattle.inode_table.specs.Edited.{begun}
use Rattle.inode_table.specs.RowHistory.{RowHistory, RowState, File, Dir, Table, id_order, row_at, rows_at}
use Rattle.inode_table.specs.Names.{named_in}
use Rattle.inode_table.specs.Tabled.{Tabled, changed, changed_rows, inserted, fresh_row, put_marks, marked_row}
use Rattle.inode_table.specs.Kept.{AreSound, FitsRows, CanChange, IsBare}
use Rattle.inode_table.specs.Merged.{merged, merged_from, merged_rows, ids_dropped}
use Rattle.inode_table.specs.Released.{let_go, without_row, ReleasedBy}
use Rattle.inode_table.proofs.Reading.{by_id}
use Rattle.inode_table.proofs.Going.{row_at-without}
use Rattle.table_laws.specs.Naming.{AllSound}
use Rattle.table_laws.proofs.NamedTables.{rows-all-less, row-without-here}
use Rattle.table_laws.proofs.NamedLists.{sound-there}
use Rattle.table_laws.proofs.NamedSteps.{begun-children}
use Rattle.table_laws.proofs.BlockStates.{OneRow}
use Rattle.table_laws.proofs.BlockSteps.{one-put, changed-one}

-- ---- a changed row

other_marks : (dir : DirHistory) (marks : Marks) → IsSound dir → IsSound (record dir { marks = marks })
other_marks dir marks sound = record { rising = sound.rising; in_order = sound.in_order; ordered = sound.ordered; undoable = sound.undoable }

begun_sound : (cover : ℕ) (dir : DirHistory) → IsSound dir → IsSound (begun cover dir)
begun_sound cover dir sound = elim (nat_lt (last_number dir) cover) as (λ b. nat_lt (last_number dir) cover ≡ b → IsSound (cond b (started (record { 0 = cover }) dir) dir)) [
  | true ↦ λ t. sound-started dir sound (record { 0 = cover }) (grind (arith, nat_tests, t))
  | false ↦ λ t. sound
] refl

changed_sound : (cover tick : ℕ) (what : Change) (rows : RowHistory) → AreSound rows → FitsRows what rows → AreSound (changed_rows cover tick what rows)
changed_sound cover tick what (File file) sound fits = tt
changed_sound cover tick (changes.Mode mode) (Dir dir) sound fits = other_marks (begun cover dir) _ (begun_sound cover dir sound)
changed_sound cover tick (changes.Body size blocks) (Dir dir) sound fits = absurd fits
changed_sound cover tick (changes.Add name id) (Dir dir) sound fits =
    other_marks _ _ (sound-added name id (begun cover dir) (begun_sound cover dir sound) (ap (id_at name) (begun-children cover dir) ∙ fits))
changed_sound cover tick (changes.Remove name) (Dir dir) sound fits = other_marks _ _ (sound-after_removed name (begun cover dir) (begun_sound cover dir sound))
changed_sound cover tick (changes.Move spot) (Dir dir) sound fits = other_marks (begun cover dir) _ (begun_sound cover dir sound)

-- ---- a table in which one row is another

sound_so : (rows : RowHistory) (dir : DirHistory) → rows ≡ Dir dir → AreSound rows → IsSound dir
sound_so (File file) dir is sound = absurd (file_dir is)
  where
    file_dir : File file ≡ Dir dir → ⊥
    file_dir h = cc
sound_so (Dir other) dir is sound = subst IsSound (same_dir is) sound
  where
    same_dir : Dir other ≡ Dir dir → other ≡ dir
    same_dir h = cc

sound_one : (before after : Table) (id : InodeId) (new : RowHistory) → OneRow before after id new → AreSound new → AllSound before → AllSound after
sound_one before after id new one sound all x dir h = by_id x id
    (λ e. sound_so new dir (same_some (sym one.here ∙ ap (rows_at after) (sym e) ∙ h)) sound)
    (λ ne. all x dir (sym (one.there x ne) ∙ h))

pub changed-all : (t : Tabled) (id : InodeId) (cover tick : ℕ) (what : Change) → CanChange t.rows id what → AllSound t.rows → AllSound (changed id cover tick what t).rows
changed-all t id cover tick what can all = sound_one t.rows (changed id cover tick what t).rows id (changed_rows cover tick what can.row.rows) (changed-one t id cover tick what can.row can.there)
    (changed_sound cover tick what can.row.rows (sound-there t.rows id can.row all can.there) can.fits) all

bare_sound : (rows : RowHistory) → IsBare rows → AreSound rows
bare_sound (File file) bare = tt
bare_sound (Dir dir) bare = record { rising = rw bare.0 refl; in_order = rw bare.1 refl; ordered = rw bare.0 tt; undoable = rw bare.0 refl }

pub inserted-all : (t : Tabled) (id : InodeId) (rows : RowHistory) (since : ℕ) → IsBare rows → AllSound t.rows → AllSound (inserted id rows since t).rows
inserted-all t id rows since bare all = sound_one t.rows (inserted id rows since t).rows id rows (one-put t.rows id (fresh_row rows since)) (bare_sound rows bare) all

pub marked-all : (t : Tabled) (id : InodeId) (since carry : ℕ) → AllSound t.rows → AllSound (marked_row id since carry t).rows
marked-all t id since carry all = by (row_at t.rows id) refl
  where
    by : (o : Option RowState) → row_at t.rows id ≡ o → AllSound (put_marks id since carry o t.rows)
    by None e = all
    by (Some row) e = sound_one t.rows (put id_order id (record row { since = since; carry = carry }) t.rows) id row.rows (one-put t.rows id (record row { since = since; carry = carry })) (sound-there t.rows id row all e) all

merged_sound : (i : ℕ) (rows : RowHistory) → AreSound rows → AreSound (merged_rows i rows)
merged_sound i (File file) sound = tt
merged_sound i (Dir dir) sound = sound-combined dir sound i

same_sound : (before after : Table) → ((x : InodeId) → rows_at after x ≡ rows_at before x) → AllSound before → AllSound after
same_sound before after same all x dir h = all x dir (sym (same x) ∙ h)

pub merged-all : (t : Tabled) (id : InodeId) (i : ℕ) → AllSound t.rows → AllSound (merged id i t).rows
merged-all t id i all = by (row_at t.rows id) refl
  where
    by : (o : Option RowState) → row_at t.rows id ≡ o → AllSound (merged_from id i (row_at t.rows id) t).rows
    by None e = subst (λ (o : Option RowState). AllSound (merged_from id i o t).rows) (sym e) all
    by (Some row) e = subst (λ (o : Option RowState). AllSound (merged_from id i o t).rows) (sym e)
        (same_sound (put id_order id (record row { rows = merged_rows i row.rows }) t.rows) (merged_from id i (Some row) t).rows
        (λ x. rows-all-less (ids_dropped i row.rows) x (put id_order id (record row { rows = merged_rows i row.rows }) t.rows))
        (sound_one t.rows (put id_order id (record row { rows = merged_rows i row.rows }) t.rows) id (merged_rows i row.rows) (one-put t.rows id (record row { rows = merged_rows i row.rows }))
        (merged_sound i row.rows (sound-there t.rows id row all e)) all))

gone_all : (t : Tabled) (id : InodeId) (rows : RowHistory) → AllSound t.rows → AllSound (let_go id rows t).rows
gone_all t id rows all x dir h =
    let left : rows_at (without_row id t.rows) x ≡ Some (Dir dir) = sym (rows-all-less (named_in rows) x (without_row id t.rows)) ∙ h in
    by_id x id
    (λ e. absurd (none_some (sym (ap (option_map (λ (r : RowState). r.rows)) (ap (row_at (without_row id t.rows)) e ∙ row-without-here id t.rows)) ∙ left)))
    (λ ne. all x dir (sym (ap (option_map (λ (r : RowState). r.rows)) (row_at-without id x t.rows ne)) ∙ left))

pub released-all : (before after : Tabled) (gone : List InodeId) → ReleasedBy before gone after → AllSound before.rows → AllSound after.rows
released-all before after [] same all = subst (λ (t : Tabled). AllSound t.rows) (sym same) all
released-all before after (id ∷ gone) step all = released-all (let_go id step.0.rows before) after gone step.2 (gone_all before id step.0.rows all)
