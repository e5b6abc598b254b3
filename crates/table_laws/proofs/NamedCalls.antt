-- Names through the steps of one call.
use Rattle.std.proofs.Common.{◌≡◌, ℕ, Bool, true, false, cond, List, [], ◌∷◌, Option, Some, None, refl, sym, ap, subst, ◌∙◌, is_some}
use Rattle.std.specs.Prelude.{◌≢◌}
use Rattle.std.specs.Option.{option_map}
use Rattle.hs_types.specs.declared.ids.InodeId.{InodeId}
use Rattle.hs_plain.proofs.ValidShapes.{none_some, true_false}
use Rattle.dir_changes.specs.Entries.{Entries, id_at, without_name}
use Rattle.dir_changes.specs.History.{DirHistory}
use Rattle.dir_changes.proofs.EditLaws.{same_name, id_at-without_name, same_name-refl}
use Rattle.inode_table.specs.declared.change.Change.{Change}
use Rattle.inode_table.specs.declared.change.Change.TheVariants as changes
use Rattle.inode_table.specs.declared.freed.Freed.{Freed}
use Rattle.inode_table.specs.RowHistory.{RowHistory, RowState, File, Dir, row_at, rows_at, entries_in, entries_of}
use Rattle.inode_table.specs.Stands.{root_id}
use Rattle.inode_table.specs.Once.{IsIn}
use Rattle.inode_table.specs.Tabled.{Tabled, changed, changed_rows, inserted, fresh_row}
use Rattle.inode_table.specs.Kept.{IsBare, IsLoose, FitsRows, CanChange}
use Rattle.inode_table.specs.Merged.{merged}
use Rattle.inode_table.specs.Released.{Releasing}
use Rattle.inode_table.specs.Whole.{AllNamed, numbers_in, AreNamed}
use Rattle.inode_table.proofs.Reading.{by_id}
use Rattle.table_laws.specs.Naming.{lists_of, AllSound, NamedBut, IsLive, IsQuiet}
use Rattle.table_laws.specs.NameLists.{HasPlace}
use Rattle.table_laws.specs.NameCalls.{row_made, Moving, entry_moved, MergedBy, HasNames, HasAllNames}
use Rattle.table_laws.proofs.NamedLists.{row-there, in-named}
use Rattle.table_laws.proofs.NamedSteps.{some-so, row-so, quiet-names, quiet-lists, changed-there, changed-others, still-none, fits-remove}
use Rattle.table_laws.proofs.NamedEntries.{remove-names, add-names}
use Rattle.table_laws.proofs.NamedRows.{insert-names, mark-names, merge-names, release-names, all-names}
use Rattle.table_laws.proofs.NamedAlike.{mark-lists}
use Rattle.table_laws.proofs.NamedSound.{changed-all, inserted-all, marked-all, merged-all, released-all}
use Rattle.table_laws.proofs.BlockSteps.{one-put, changed-one}

-- an entry may be put in where its name is free and its row loose
can_add : (t : Tabled) (dir x : InodeId) (name : List ℕ) → HasPlace t.rows dir name → IsLoose t.rows x → CanChange t.rows dir (changes.Add name x)
can_add t dir x name place loose =
    let r = row-so t.rows dir (Dir place.dir) place.there in
    record { row = r.0; there = r.1; fits = subst (FitsRows (changes.Add name x)) (sym r.2) place.free; entry = loose }

can_remove : (t : Tabled) (dir x : InodeId) (name : List ℕ) → IsIn (lists_of t.rows) dir name x → CanChange t.rows dir (changes.Remove name)
can_remove t dir x name found =
    let r = row-there t.rows dir name x found in
    record { row = r.0; there = r.1; fits = fits-remove name x r.0.rows r.2; entry = tt }

-- the directories that stay sound as rows go
released_sound : (t after : Tabled) (freed : Freed) → Releasing t freed after → AllSound t.rows → AllSound after.rows
released_sound t after freed step sound = released-all t (record after { waiting = freed.blocks }) step.gone step.steps sound

release : (t after : Tabled) (freed : Freed) → Releasing t freed after → HasNames t → HasAllNames after
release t after freed step has =
    let left = release-names t after freed step has.named in
    record { sound = released_sound t after freed step has.sound; named = left.named; all = left.all }

-- ---- another mode or body

pub touch-names : (t : Tabled) (id : InodeId) (cover tick : ℕ) (what : Change) → IsQuiet what → CanChange t.rows id what → HasAllNames t → HasAllNames (changed id cover tick what t)
touch-names t id cover tick what quiet can has =
    let kept = quiet-names t id cover tick what quiet can has.sound has.named in
    record {
      sound = changed-all t id cover tick what can has.sound;
      named = kept.named;
      all = (all-names (changed id cover tick what t).rows).0 (kept.but [] ((all-names t.rows).1 has.all));
    }

-- ---- a new row and its entry

module _ (t : Tabled) (id : InodeId) (rows : RowHistory) (since : ℕ) (dir : InodeId) (cover tick : ℕ) (name : List ℕ) (free : row_at t.rows id ≡ None) (bare : IsBare rows) (not_root : id ≢ root_id) (place : HasPlace t.rows dir name) where
  abbrev came : Tabled
  came = inserted id rows since t

  apart : dir ≢ id
  apart e = none_some (sym (ap (option_map (λ (r : RowState). r.rows)) free) ∙ ap (rows_at t.rows) (sym e) ∙ place.there)

  came_place : HasPlace came.rows dir name
  came_place = record { dir = place.dir; there = (one-put t.rows id (fresh_row rows since)).there dir apart ∙ place.there; free = place.free }

  module _ (live : IsLive (lists_of (row_made id rows since dir cover tick name t).rows) dir) (sound : AllSound t.rows) (are : AreNamed t.rows) where
    pub make-sound : AllSound (row_made id rows since dir cover tick name t).rows
    make-sound = changed-all came dir cover tick (changes.Add name id) (can_add came dir id name came_place (insert-names t id rows since free bare are).loose) (inserted-all t id rows since bare sound)

    pub make-named : AreNamed (row_made id rows since dir cover tick name t).rows
    make-named = let new = insert-names t id rows since free bare are in
        (add-names came dir id cover tick name (can_add came dir id name came_place new.loose) not_root live (inserted-all t id rows since bare sound) new.named).named

    pub make-but : (unnamed : List InodeId) → NamedBut unnamed t.rows → NamedBut unnamed (row_made id rows since dir cover tick name t).rows
    make-but unnamed but = let new = insert-names t id rows since free bare are in
        (add-names came dir id cover tick name (can_add came dir id name came_place new.loose) not_root live (inserted-all t id rows since bare sound) new.named).but unnamed (new.but unnamed but)

pub make-names : (t : Tabled) (id : InodeId) (rows : RowHistory) (since : ℕ) (dir : InodeId) (cover tick : ℕ) (name : List ℕ) → row_at t.rows id ≡ None → IsBare rows → id ≢ root_id → HasPlace t.rows dir name
    → IsLive (lists_of (row_made id rows since dir cover tick name t).rows) dir → HasAllNames t → HasAllNames (row_made id rows since dir cover tick name t)
make-names t id rows since dir cover tick name free bare not_root place live has = record {
  sound = make-sound t id rows since dir cover tick name free bare not_root place live has.sound has.named;
  named = make-named t id rows since dir cover tick name free bare not_root place live has.sound has.named;
  all = (all-names (row_made id rows since dir cover tick name t).rows).0 (make-but t id rows since dir cover tick name free bare not_root place live has.sound has.named [] ((all-names t.rows).1 has.all));
}

-- ---- a free name stays free as an entry goes

-- the directory whose list it is
dir_so : (rows : RowHistory) (list : Entries) (dir : DirHistory) → rows ≡ Dir dir → entries_in 0 rows ≡ list → dir.children ≡ list
dir_so rows list dir is same = ap (entries_in 0) (sym is) ∙ same

changed_dir : (cover tick : ℕ) (what : Change) (dir : DirHistory) → (new : DirHistory) × (changed_rows cover tick what (Dir dir) ≡ Dir new)
changed_dir cover tick what dir = (_, refl)

left_free : (name gone : List ℕ) (list : Entries) → id_at name list ≡ None → id_at name (without_name gone list) ≡ None
left_free name gone list free = id_at-without_name name gone list ∙ by (same_name name gone)
  where
    by : (b : Bool) → cond b None (id_at name list) ≡ None
    by true = refl
    by false = free

module _ (t : Tabled) (from to x : InodeId) (cover tick : ℕ) (old new : List ℕ) (found : IsIn (lists_of t.rows) from old x) (place : HasPlace t.rows to new) (sound : AllSound t.rows) (are : AreNamed t.rows) where
  pub left-place : HasPlace (changed from cover tick (changes.Remove old) t).rows to new
  left-place = by_id to from
      (λ e. let one = changed-one t from cover tick (changes.Remove old) (row-so t.rows from (Dir place.dir) (ap (rows_at t.rows) (sym e) ∙ place.there)).0 (row-so t.rows from (Dir place.dir) (ap (rows_at t.rows) (sym e) ∙ place.there)).1 in
      let is = (row-so t.rows from (Dir place.dir) (ap (rows_at t.rows) (sym e) ∙ place.there)).2 in
      let now = changed_dir cover tick (changes.Remove old) place.dir in
      let here : rows_at (changed from cover tick (changes.Remove old) t).rows to ≡ Some (Dir now.0) =
      ap (rows_at (changed from cover tick (changes.Remove old) t).rows) e ∙ one.here ∙ ap (λ (r : RowHistory). Some (changed_rows cover tick (changes.Remove old) r)) is ∙ ap (λ (r : RowHistory). Some r) now.1 in
      let lists = (remove-names t from x cover tick old found sound are).lists in
      let list : now.0.children ≡ without_name old place.dir.children =
      sym (ap (entries_of 0) here) ∙ ap (lists_of (changed from cover tick (changes.Remove old) t).rows) e ∙ lists.here ∙ ap (λ (i : InodeId). without_name old (lists_of t.rows i)) (sym e) ∙ ap (λ (o : Option RowHistory). without_name old (entries_of 0 o)) place.there in
      record { dir = now.0; there = here; free = ap (id_at new) list ∙ left_free new old place.dir.children place.free })
      (λ ne. record { dir = place.dir; there = changed-others t from cover tick (changes.Remove old) to ne ∙ place.there; free = place.free })

-- ---- a rename

any_move : (rows : RowHistory) (m : Moving) → FitsRows (changes.Move m.spot) rows
any_move (File file) m = tt
any_move (Dir dir) m = tt

module _ (t : Tabled) (m : Moving) (found : IsIn (lists_of t.rows) m.from m.old_name m.row) (place : HasPlace t.rows m.to m.new_name) (not_root : m.row ≢ root_id) (live : IsLive (lists_of (entry_moved m t).rows) m.to) (has : HasAllNames t) where
  abbrev t1 : Tabled
  t1 = changed m.from m.from_cover m.tick (changes.Remove m.old_name) t

  abbrev t2 : Tabled
  t2 = changed m.to m.to_cover m.tick (changes.Add m.new_name m.row) t1

  abbrev t3 : Tabled
  t3 = changed m.row m.row_cover m.tick (changes.Move m.spot) t2

  can : CanChange t1.rows m.to (changes.Add m.new_name m.row)
  can = can_add t1 m.to m.row m.new_name (left-place t m.from m.to m.row m.from_cover m.tick m.old_name m.new_name found place has.sound has.named) (remove-names t m.from m.row m.from_cover m.tick m.old_name found has.sound has.named).loose

  sound1 : AllSound t1.rows
  sound1 = changed-all t m.from m.from_cover m.tick (changes.Remove m.old_name) (can_remove t m.from m.row m.old_name found) has.sound

  sound2 : AllSound t2.rows
  sound2 = changed-all t1 m.to m.to_cover m.tick (changes.Add m.new_name m.row) can sound1

  live2 : IsLive (lists_of t2.rows) m.to
  live2 = record {
    shown = live.shown;
    nodes = live.nodes;
    alike = λ id. live.alike id ∙ mark-lists t3 m.row m.since m.carry id ∙ quiet-lists t2 m.row m.row_cover m.tick (changes.Move m.spot) tt id;
    is = live.is;
    reads = live.reads;
    has = live.has;
  }

  row_there : (row : RowState) × (row_at t2.rows m.row ≡ Some row)
  row_there = some-so (row_at t2.rows m.row) (changed-there t1 m.to m.to_cover m.tick (changes.Add m.new_name m.row) m.row
      ∙ changed-there t m.from m.from_cover m.tick (changes.Remove m.old_name) m.row ∙ has.named.names.there m.row (in-named t.rows m.from m.old_name m.row found))

  can_move : CanChange t2.rows m.row (changes.Move m.spot)
  can_move = record { row = row_there.0; there = row_there.1; fits = any_move row_there.0.rows m; entry = tt }

  pub rename-names : HasAllNames (entry_moved m t)
  rename-names =
      let less = remove-names t m.from m.row m.from_cover m.tick m.old_name found has.sound has.named in
      let more = add-names t1 m.to m.row m.to_cover m.tick m.new_name can not_root live2 sound1 less.named in
      let moved = quiet-names t2 m.row m.row_cover m.tick (changes.Move m.spot) tt can_move sound2 more.named in
      let marked = mark-names t3 m.row m.since m.carry moved.named in
      record {
        sound = marked-all t3 m.row m.since m.carry (changed-all t2 m.row m.row_cover m.tick (changes.Move m.spot) can_move sound2);
        named = marked.named;
        all = (all-names (entry_moved m t).rows).0 (marked.but [] (moved.but [] (more.but [] (less.but [] ((all-names t.rows).1 has.all)))));
      }

-- ---- deletions

pub delete-names : (t after : Tabled) (freed : Freed) (dir x : InodeId) (cover tick : ℕ) (name : List ℕ) → IsIn (lists_of t.rows) dir name x → Releasing (changed dir cover tick (changes.Remove name) t) freed after
    → HasNames t → HasAllNames after
delete-names t after freed dir x cover tick name found step has = release (changed dir cover tick (changes.Remove name) t) after freed step (record {
  sound = changed-all t dir cover tick (changes.Remove name) (can_remove t dir x name found) has.sound;
  named = (remove-names t dir x cover tick name found has.sound has.named).named;
})

-- the name of an entry that went is free
freed_place : (t : Tabled) (dir x : InodeId) (cover tick : ℕ) (name : List ℕ) → IsIn (lists_of t.rows) dir name x → AllSound t.rows → AreNamed t.rows → HasPlace (changed dir cover tick (changes.Remove name) t).rows dir name
freed_place t dir x cover tick name found sound are =
    let r = row-there t.rows dir name x found in by r.0 r.0.rows r.1 refl r.2
  where
    free : (list : Entries) → id_at name (without_name name list) ≡ None
    free list = id_at-without_name name name list ∙ ap (λ b. cond b None (id_at name list)) (same_name-refl name)

    by : (row : RowState) (rows : RowHistory) → row_at t.rows dir ≡ Some row → row.rows ≡ rows → id_at name (entries_in 0 row.rows) ≡ Some x → HasPlace (changed dir cover tick (changes.Remove name) t).rows dir name
    by row (File file) there is here = absurd (none_some (sym (ap (λ (r : RowHistory). id_at name (entries_in 0 r)) is) ∙ here))
    by row (Dir d) there is here =
        let one = changed-one t dir cover tick (changes.Remove name) row there in
        let now = changed_dir cover tick (changes.Remove name) d in
        let at : rows_at (changed dir cover tick (changes.Remove name) t).rows dir ≡ Some (Dir now.0) = one.here ∙ ap (λ (r : RowHistory). Some (changed_rows cover tick (changes.Remove name) r)) is ∙ ap (λ (r : RowHistory). Some r) now.1 in
        let lists = (remove-names t dir x cover tick name found sound are).lists in
        let list : now.0.children ≡ without_name name (lists_of t.rows dir) = sym (ap (entries_of 0) at) ∙ lists.here in
        record { dir = now.0; there = at; free = ap (id_at name) list ∙ free (lists_of t.rows dir) }

pub replace-names : (t after : Tabled) (freed : Freed) (id : InodeId) (rows : RowHistory) (since : ℕ) (dir x : InodeId) (remove_cover add_cover tick : ℕ) (name : List ℕ)
    → IsIn (lists_of t.rows) dir name x → row_at t.rows id ≡ None → IsBare rows → id ≢ root_id
    → IsLive (lists_of (row_made id rows since dir add_cover tick name (changed dir remove_cover tick (changes.Remove name) t)).rows) dir
    → Releasing (row_made id rows since dir add_cover tick name (changed dir remove_cover tick (changes.Remove name) t)) freed after → HasNames t → HasAllNames after
replace-names t after freed id rows since dir x remove_cover add_cover tick name found none bare not_root live step has =
    let less = remove-names t dir x remove_cover tick name found has.sound has.named in
    let sound = changed-all t dir remove_cover tick (changes.Remove name) (can_remove t dir x name found) has.sound in
    let free = still-none t dir remove_cover tick (changes.Remove name) id none in
    let place = freed_place t dir x remove_cover tick name found has.sound has.named in
    release (row_made id rows since dir add_cover tick name (changed dir remove_cover tick (changes.Remove name) t)) after freed step (record {
      sound = make-sound (changed dir remove_cover tick (changes.Remove name) t) id rows since dir add_cover tick name free bare not_root place live sound less.named;
      named = make-named (changed dir remove_cover tick (changes.Remove name) t) id rows since dir add_cover tick name free bare not_root place live sound less.named;
    })

-- ---- a deleted snapshot

merge_all : (t middle : Tabled) (records : List (InodeId × ℕ)) → MergedBy t records middle → HasNames t → HasNames middle
merge_all t middle [] same has = subst HasNames (sym same) has
merge_all t middle (one ∷ more) step has = merge_all (merged one.0 one.1 t) middle more step.3 (record {
  sound = merged-all t one.0 one.1 has.sound;
  named = (merge-names t one.0 one.1 step.0 step.1 step.2 has.sound has.named).named;
})

pub drop-names : (t middle after : Tabled) (records : List (InodeId × ℕ)) (freed : Freed) → MergedBy t records middle → Releasing middle freed after → HasNames t → HasAllNames after
drop-names t middle after records freed merges step has = release middle after freed step (merge_all t middle records merges has)
