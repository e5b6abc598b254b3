-- Names as a row changes.
use Rattle.std.proofs.Common.{◌≡◌, ℕ, ◌+◌, ◌-◌, ◌<◌, Bool, true, false, cond, nat_lt, List, [], Option, Some, None, is_some, refl, sym, ap, subst, ◌∙◌, inl, inr, ⊎_elim, arith}
use Rattle.std.specs.Prelude.{◌≢◌}
use Rattle.std.specs.Option.{option_map}
use Rattle.std.specs.FinMap.Entries.{put}
use Rattle.hs_types.specs.declared.ids.InodeId.{InodeId}
use Rattle.hs_plain.proofs.ValidShapes.{none_some, same_some, true_false}
use Rattle.dir_changes.specs.Counts.{keeps_removed}
use Rattle.dir_changes.specs.Entries.{id_at, with_entry, without_name}
use Rattle.dir_changes.specs.History.{DirHistory, last_number, started, removed_as}
use Rattle.inode_table.specs.declared.change.Change.{Change}
use Rattle.inode_table.specs.declared.change.Change.TheVariants as changes
use Rattle.inode_table.specs.declared.change.Recount.{Recount}
use Rattle.inode_table.specs.declared.change.Recount.TheVariants as recounts
use Rattle.inode_table.specs.RowHistory.{RowHistory, RowState, File, Dir, Table, id_order, row_at, rows_at, entries_in, entries_of}
use Rattle.inode_table.specs.Edited.{begun, stamp_dir}
use Rattle.inode_table.specs.Stands.{root_id}
use Rattle.inode_table.specs.Names.{times_named}
use Rattle.inode_table.specs.Once.{IsIn, IsOnce, NewList}
use Rattle.inode_table.specs.Acyclic.{AllEnd}
use Rattle.inode_table.specs.Recounts.{more_of, less_of}
use Rattle.inode_table.specs.Tabled.{Tabled, changed, changed_row, changed_rows, begun_rows, recounted, recount_of, recount_in, recount_dir, lost_unless, put_changed, named_more, named_less, put_marks, marked_row}
use Rattle.inode_table.specs.Kept.{AreSound, FitsRows, FitsDir, FitsTable, CanChange, IsLoose}
use Rattle.inode_table.specs.Whole.{AreNames, AllNamed, AreInOrder, AreNamed}
use Rattle.inode_table.proofs.Reading.{by_id}
use Rattle.inode_table.proofs.Naming.{put-named}
use Rattle.inode_table.proofs.Stepping.{changed-named}
use Rattle.inode_table.proofs.Altering.{more-there}
use Rattle.inode_table.proofs.Onces.{once-remove, once-add}
use Rattle.table_laws.specs.Naming.{lists_of, AllSound, NamedBut, IsLive, SameNames, KeepsNames, RemovesName, AddsName, IsQuiet}
use Rattle.table_laws.proofs.NamedTables.{row-put-here, row-put-there, order-put, order-recounted, times-recounted, rows-recounted, some-recounted, one-same, one-other, Counted, counted-less, counted-more}
use Rattle.table_laws.proofs.NamedLists.{row-there, in-named, none-names, sound-there, once-alike, ends-alike, ends-fewer, ends-more}
use Rattle.table_laws.specs.NameLists.{HasPlace}
use Rattle.table_laws.proofs.BlockLists.{by-zero}

-- ---- a recount

module _ (t : Table) where
  pub times-recount : (r : Recount) (x : InodeId) → times_named x (recounted r t) ≡ times_named x t
  times-recount recounts.Same x = refl
  times-recount (recounts.More id) x = times-recounted (λ n. n + 1) id x t
  times-recount (recounts.Less id) x = times-recounted (λ n. n - 1) id x t

  pub rows-recount : (r : Recount) (x : InodeId) → rows_at (recounted r t) x ≡ rows_at t x
  rows-recount recounts.Same x = refl
  rows-recount (recounts.More id) x = rows-recounted (λ n. n + 1) id x t
  rows-recount (recounts.Less id) x = rows-recounted (λ n. n - 1) id x t

  pub some-recount : (r : Recount) (x : InodeId) → is_some (row_at (recounted r t) x) ≡ is_some (row_at t x)
  some-recount recounts.Same x = refl
  some-recount (recounts.More id) x = some-recounted (λ n. n + 1) id x t
  some-recount (recounts.Less id) x = some-recounted (λ n. n - 1) id x t

  pub order-recount : (r : Recount) → AreInOrder t → AreInOrder (recounted r t)
  order-recount recounts.Same h = h
  order-recount (recounts.More id) h = order-recounted (λ n. n + 1) id t h
  order-recount (recounts.Less id) h = order-recounted (λ n. n - 1) id t h

  -- what was off is mended
  pub counted-recount : (r : Recount) → ((x : InodeId) (row : RowState) → row_at t x ≡ Some row → row.names + more_of r x ≡ times_named x t + less_of r x) → Counted (recounted r t) []
  counted-recount recounts.Same off = record { counted = λ x row h. let was = off x row h in omega (arith, was) }
  counted-recount (recounts.More id) off = counted-more id t (λ x row h. let was = off x row h in omega (arith, was))
  counted-recount (recounts.Less id) off = counted-less id [] t (record { counted = λ x row h. let was = off x row h in omega (arith, was) })

-- ---- the list of a changed row

pub begun-children : (number : ℕ) (dir : DirHistory) → (begun number dir).children ≡ dir.children
begun-children number dir = elim (nat_lt (last_number dir) number) as (λ b. (cond b (started (record { 0 = number }) dir) dir).children ≡ dir.children) [ true ↦ refl | false ↦ refl ]

pub quiet-list : (cover tick : ℕ) (what : Change) (rows : RowHistory) → IsQuiet what → entries_in 0 (changed_rows cover tick what rows) ≡ entries_in 0 rows
quiet-list cover tick what (File file) quiet = refl
quiet-list cover tick (changes.Mode mode) (Dir dir) quiet = begun-children cover dir
quiet-list cover tick (changes.Body size blocks) (Dir dir) quiet = begun-children cover dir
quiet-list cover tick (changes.Add name id) (Dir dir) quiet = absurd quiet
quiet-list cover tick (changes.Remove name) (Dir dir) quiet = absurd quiet
quiet-list cover tick (changes.Move spot) (Dir dir) quiet = begun-children cover dir

pub added-list : (cover tick : ℕ) (name : List ℕ) (x : InodeId) (rows : RowHistory) → FitsRows (changes.Add name x) rows → entries_in 0 (changed_rows cover tick (changes.Add name x) rows) ≡ with_entry name x (entries_in 0 rows)
added-list cover tick name x (File file) fits = absurd fits
added-list cover tick name x (Dir dir) fits = ap (with_entry name x) (begun-children cover dir)

removed_list : (tick : ℕ) (name : List ℕ) (x : InodeId) (o : Option InodeId) (b : DirHistory) → o ≡ Some x → (stamp_dir tick (removed_as name o b)).children ≡ without_name name b.children
removed_list tick name x None b h = absurd (none_some h)
removed_list tick name x (Some y) b h = refl

pub removed-list : (cover tick : ℕ) (name : List ℕ) (x : InodeId) (rows : RowHistory) → id_at name (entries_in 0 rows) ≡ Some x → entries_in 0 (changed_rows cover tick (changes.Remove name) rows) ≡ without_name name (entries_in 0 rows)
removed-list cover tick name x (File file) h = absurd (none_some h)
removed-list cover tick name x (Dir dir) h =
    let same = begun-children cover dir in
    removed_list tick name x (id_at name (begun cover dir).children) (begun cover dir) (ap (id_at name) same ∙ h) ∙ ap (without_name name) same

-- ---- whose names are counted anew

quiet_recount : (what : Change) (rows : RowHistory) → IsQuiet what → recount_of what rows ≡ recounts.Same
quiet_recount what (File file) quiet = refl
quiet_recount (changes.Mode mode) (Dir dir) quiet = refl
quiet_recount (changes.Body size blocks) (Dir dir) quiet = refl
quiet_recount (changes.Add name id) (Dir dir) quiet = absurd quiet
quiet_recount (changes.Remove name) (Dir dir) quiet = absurd quiet
quiet_recount (changes.Move spot) (Dir dir) quiet = refl

pub add-recount : (cover : ℕ) (name : List ℕ) (x : InodeId) (rows : RowHistory) → FitsRows (changes.Add name x) rows → recount_of (changes.Add name x) (begun_rows cover rows) ≡ recounts.More x
add-recount cover name x (File file) fits = absurd fits
add-recount cover name x (Dir dir) fits = refl

-- it is the removed id alone, if any
pub record Loses (r : Recount) (x : InodeId) : Type 0 where
  pub more : (y : InodeId) → more_of r y ≡ 0
  pub less : (y : InodeId) → y ≢ x → less_of r y ≡ 0

lost_some : (keeps : Bool) (x : InodeId) (o : Option InodeId) → o ≡ Some x → Loses (lost_unless keeps o) x
lost_some keeps x None h = absurd (none_some h)
lost_some true x (Some y) h = record { more = λ z. refl; less = λ z apart. refl }
lost_some false x (Some y) h = record { more = λ z. refl; less = λ z apart. one-other y z (λ e. apart (sym e ∙ same_some h)) }

pub remove-recount : (cover : ℕ) (name : List ℕ) (x : InodeId) (rows : RowHistory) → id_at name (entries_in 0 rows) ≡ Some x → Loses (recount_of (changes.Remove name) (begun_rows cover rows)) x
remove-recount cover name x (File file) h = absurd (none_some h)
remove-recount cover name x (Dir dir) h = lost_some (keeps_removed name (begun cover dir)) x (id_at name (begun cover dir).children) (ap (id_at name) (begun-children cover dir) ∙ h)

pub fits-remove : (name : List ℕ) (x : InodeId) (rows : RowHistory) → id_at name (entries_in 0 rows) ≡ Some x → FitsRows (changes.Remove name) rows
fits-remove name x (File file) h = absurd (none_some h)
fits-remove name x (Dir dir) h = (x, h)

-- ---- a change

pub some-so : (o : Option RowState) → is_some o ≡ true → (row : RowState) × (o ≡ Some row)
some-so None h = absurd (true_false h refl)
some-so (Some row) h = (row, refl)

-- a row that reads so is there
pub row-so : (t : Table) (x : InodeId) (rows : RowHistory) → rows_at t x ≡ Some rows → (row : RowState) × (row_at t x ≡ Some row) × (row.rows ≡ rows)
row-so t x rows h = by (row_at t x) refl h
  where
    by : (o : Option RowState) → row_at t x ≡ o → option_map (λ (r : RowState). r.rows) o ≡ Some rows → (row : RowState) × (row_at t x ≡ Some row) × (row.rows ≡ rows)
    by None e k = absurd (none_some k)
    by (Some row) e k = (row, e, same_some k)

pub rows-so : (a b : Table) (x : InodeId) (rows : RowHistory) → is_some (row_at b x) ≡ is_some (row_at a x) → rows_at b x ≡ Some rows → (old : RowHistory) × (rows_at a x ≡ Some old)
rows-so a b x rows same h =
    let r = row-so b x rows h in
    let old = some-so (row_at a x) (sym same ∙ ap is_some r.1) in
    (old.0.rows, ap (option_map (λ (s : RowState). s.rows)) old.1)

-- who is named as often before and after is named after, where it was
pub but-same : (a b : Table) (unnamed : List InodeId) → ((x : InodeId) → is_some (row_at b x) ≡ is_some (row_at a x)) → ((x : InodeId) → times_named x b ≡ times_named x a) → NamedBut unnamed a → NamedBut unnamed b
but-same a b unnamed there same but x rows h other =
    let old = rows-so a b x rows (there x) h in
    ⊎_elim (λ c. inl c) (λ some. inr (subst (λ n. 0 < n) (sym (same x)) some)) (but x old.0 old.1 other)

-- ---- what a change leaves of rows and lists, whatever is named

module _ (t : Tabled) (id : InodeId) (cover tick : ℕ) (what : Change) (row : RowState) (there : row_at t.rows id ≡ Some row) where
  abbrev recount : Recount
  recount = recount_of what (begun_rows cover row.rows)

  abbrev mid : Table
  mid = put id_order id (changed_row cover tick what row) t.rows

  abbrev after : Table
  after = recounted recount mid

  pub after-is : (changed id cover tick what t).rows ≡ recounted (recount_of what (begun_rows cover row.rows)) (put id_order id (changed_row cover tick what row) t.rows)
  after-is = ap (λ (o : Option RowState). recounted (recount_in cover what o) (put_changed id cover tick what o t.rows)) there

  pub change-some : (x : InodeId) → is_some (row_at after x) ≡ is_some (row_at t.rows x)
  change-some x = some-recount mid recount x ∙ by_id x id
      (λ e. subst (λ (y : InodeId). is_some (row_at mid y) ≡ is_some (row_at t.rows y)) (sym e) (ap is_some (row-put-here id (changed_row cover tick what row) t.rows) ∙ sym (ap is_some there)))
      (λ ne. ap is_some (row-put-there id x (changed_row cover tick what row) t.rows ne))

  pub change-rows : (x : InodeId) → x ≢ id → rows_at after x ≡ rows_at t.rows x
  change-rows x ne = rows-recount mid recount x ∙ ap (option_map (λ (r : RowState). r.rows)) (row-put-there id x (changed_row cover tick what row) t.rows ne)

  pub change-own : rows_at after id ≡ Some (changed_rows cover tick what row.rows)
  change-own = rows-recount mid recount id ∙ ap (option_map (λ (r : RowState). r.rows)) (row-put-here id (changed_row cover tick what row) t.rows)

  pub change-here : lists_of after id ≡ entries_in 0 (changed_rows cover tick what row.rows)
  change-here = ap (entries_of 0) change-own

  pub was-here : lists_of t.rows id ≡ entries_in 0 row.rows
  was-here = ap (λ (o : Option RowState). entries_of 0 (option_map (λ (r : RowState). r.rows) o)) there

  pub change-there : (other : InodeId) → other ≢ id → lists_of after other ≡ lists_of t.rows other
  change-there other ne = ap (entries_of 0) (change-rows other ne)

  pub removes-list : (name : List ℕ) (x : InodeId) → what ≡ changes.Remove name → id_at name (entries_in 0 row.rows) ≡ Some x → NewList (lists_of t.rows) (lists_of after) id (without_name name (lists_of t.rows id))
  removes-list name x is found = record {
    here = change-here ∙ ap (λ (w : Change). entries_in 0 (changed_rows cover tick w row.rows)) is ∙ removed-list cover tick name x row.rows found ∙ ap (without_name name) (sym was-here);
    there = change-there;
  }

  pub adds-list : (name : List ℕ) (x : InodeId) → what ≡ changes.Add name x → FitsRows (changes.Add name x) row.rows → NewList (lists_of t.rows) (lists_of after) id (with_entry name x (lists_of t.rows id))
  adds-list name x is fits = record {
    here = change-here ∙ ap (λ (w : Change). entries_in 0 (changed_rows cover tick w row.rows)) is ∙ added-list cover tick name x row.rows fits ∙ ap (with_entry name x) (sym was-here);
    there = change-there;
  }

  pub keeps-lists : IsQuiet what → (dir : InodeId) → lists_of after dir ≡ lists_of t.rows dir
  keeps-lists quiet dir = by_id dir id
      (λ e. subst (λ (d : InodeId). lists_of after d ≡ lists_of t.rows d) (sym e) (change-here ∙ quiet-list cover tick what row.rows quiet ∙ sym was-here))
      (λ ne. change-there dir ne)

pub quiet-lists : (t : Tabled) (id : InodeId) (cover tick : ℕ) (what : Change) → IsQuiet what → (dir : InodeId) → lists_of (changed id cover tick what t).rows dir ≡ lists_of t.rows dir
quiet-lists t id cover tick what quiet dir = by (row_at t.rows id) refl
  where
    by : (o : Option RowState) → row_at t.rows id ≡ o → lists_of (changed id cover tick what t).rows dir ≡ lists_of t.rows dir
    by None e = ap (λ (o : Option RowState). lists_of (recounted (recount_in cover what o) (put_changed id cover tick what o t.rows)) dir) e
    by (Some row) e = ap (λ (after : Table). lists_of after dir) (after-is t id cover tick what row e) ∙ keeps-lists t id cover tick what row e quiet dir

pub changed-there : (t : Tabled) (id : InodeId) (cover tick : ℕ) (what : Change) (x : InodeId) → is_some (row_at (changed id cover tick what t).rows x) ≡ is_some (row_at t.rows x)
changed-there t id cover tick what x = by (row_at t.rows id) refl
  where
    by : (o : Option RowState) → row_at t.rows id ≡ o → is_some (row_at (changed id cover tick what t).rows x) ≡ is_some (row_at t.rows x)
    by None e = ap (λ (o : Option RowState). is_some (row_at (recounted (recount_in cover what o) (put_changed id cover tick what o t.rows)) x)) e
    by (Some row) e = ap (λ (after : Table). is_some (row_at after x)) (after-is t id cover tick what row e) ∙ change-some t id cover tick what row e x

pub still-none : (t : Tabled) (id : InodeId) (cover tick : ℕ) (what : Change) (x : InodeId) → row_at t.rows x ≡ None → row_at (changed id cover tick what t).rows x ≡ None
still-none t id cover tick what x none = by (row_at (changed id cover tick what t).rows x) (changed-there t id cover tick what x ∙ ap is_some none)
  where
    by : (o : Option RowState) → is_some o ≡ false → o ≡ None
    by None h = refl
    by (Some row) h = absurd (true_false refl h)

pub changed-others : (t : Tabled) (id : InodeId) (cover tick : ℕ) (what : Change) (x : InodeId) → x ≢ id → rows_at (changed id cover tick what t).rows x ≡ rows_at t.rows x
changed-others t id cover tick what x ne = by (row_at t.rows id) refl
  where
    by : (o : Option RowState) → row_at t.rows id ≡ o → rows_at (changed id cover tick what t).rows x ≡ rows_at t.rows x
    by None e = ap (λ (o : Option RowState). rows_at (recounted (recount_in cover what o) (put_changed id cover tick what o t.rows)) x) e
    by (Some row) e = ap (λ (after : Table). rows_at after x) (after-is t id cover tick what row e) ∙ change-rows t id cover tick what row e x ne

pub remove-lists : (t : Tabled) (id x : InodeId) (cover tick : ℕ) (name : List ℕ) → IsIn (lists_of t.rows) id name x
    → NewList (lists_of t.rows) (lists_of (changed id cover tick (changes.Remove name) t).rows) id (without_name name (lists_of t.rows id))
remove-lists t id x cover tick name found =
    let r = row-there t.rows id name x found in
    subst (λ (after : Table). NewList (lists_of t.rows) (lists_of after) id (without_name name (lists_of t.rows id))) (sym (after-is t id cover tick (changes.Remove name) r.0 r.1))
    (removes-list t id cover tick (changes.Remove name) r.0 r.1 name x refl r.2)

pub add-lists : (t : Tabled) (id x : InodeId) (cover tick : ℕ) (name : List ℕ) → HasPlace t.rows id name
    → NewList (lists_of t.rows) (lists_of (changed id cover tick (changes.Add name x) t).rows) id (with_entry name x (lists_of t.rows id))
add-lists t id x cover tick name place =
    let r = row-so t.rows id (Dir place.dir) place.there in
    subst (λ (after : Table). NewList (lists_of t.rows) (lists_of after) id (with_entry name x (lists_of t.rows id))) (sym (after-is t id cover tick (changes.Add name x) r.0 r.1))
    (adds-list t id cover tick (changes.Add name x) r.0 r.1 name x refl (subst (FitsRows (changes.Add name x)) (sym r.2) place.free))

-- ---- names as a row changes

module _ (t : Tabled) (id : InodeId) (cover tick : ℕ) (what : Change) (row : RowState) (there : row_at t.rows id ≡ Some row) (sound : AllSound t.rows) (fits : FitsRows what row.rows) (are : AreNamed t.rows)
    (entry : FitsTable what t.rows) where
  abbrev counts : Recount
  counts = recount_of what (begun_rows cover row.rows)

  abbrev between : Table
  between = put id_order id (changed_row cover tick what row) t.rows

  abbrev later : Table
  later = recounted counts between

  pub change-named : (x : InodeId) → times_named x later + less_of counts x ≡ times_named x t.rows + more_of counts x
  change-named x =
      let same = times-recount between counts x in
      let all = put-named t.rows id x row (changed_row cover tick what row) are.order there in
      let own = changed-named cover tick what row.rows (sound-there t.rows id row sound there) fits x in
      omega (arith, same, all, own)

  off : (x : InodeId) (new : RowState) → row_at between x ≡ Some new → new.names + more_of counts x ≡ times_named x between + less_of counts x
  off x new h =
      let same = times-recount between counts x in
      let step = change-named x in
      by_id x id
      (λ e. let is : changed_row cover tick what row ≡ new = same_some (sym (row-put-here id (changed_row cover tick what row) t.rows) ∙ ap (row_at between) (sym e) ∙ h) in
      let names : row.names ≡ new.names = ap (λ (r : RowState). r.names) is in
      let count = are.names.counted x row (ap (row_at t.rows) e ∙ there) in
      omega (arith, step, names, count, same))
      (λ ne. let count = are.names.counted x new (sym (row-put-there id x (changed_row cover tick what row) t.rows ne) ∙ h) in
      omega (arith, step, count, same))

  still : (x : InodeId) → 0 < times_named x later → is_some (row_at later x) ≡ true
  still x some = change-some t id cover tick what row there x ∙ by-zero (times_named x t.rows)
      (λ none. let step = change-named x in
      let target = more-there what (begun_rows cover row.rows) t.rows x entry (omega (arith, step, none, some)) in
      ap is_some target.1)
      (λ was. are.names.there x was)

  -- names are true, where no list names a row twice, going up ends, and the root isn't named
  pub change-are : IsOnce (lists_of later) → AllEnd (lists_of later) → more_of counts root_id ≡ 0 → AreNamed later
  change-are once ends free = record {
    order = order-recount between counts (order-put id (changed_row cover tick what row) t.rows are.order);
    names = record {
      there = still;
      counted = λ x new h. let count = (counted-recount between counts off).counted x new h in omega (arith, count);
      once = once;
      ends = ends;
    };
    root = let step = change-named root_id in let none = are.root in omega (arith, step, none, free);
  }

-- ---- another mode, body or spot

pub quiet-names : (t : Tabled) (id : InodeId) (cover tick : ℕ) (what : Change) → IsQuiet what → CanChange t.rows id what → AllSound t.rows → AreNamed t.rows → KeepsNames t.rows (changed id cover tick what t).rows
quiet-names t id cover tick what quiet can sound are =
    subst (KeepsNames t.rows) (sym (after-is t id cover tick what can.row can.there)) (record {
      same = record { rows = change-some t id cover tick what can.row can.there; lists = lists; named = named };
      named = change-are t id cover tick what can.row can.there sound can.fits are can.entry (once-alike (lists_of t.rows) (lists_of after_table) lists are.names.once) (ends-alike (lists_of t.rows) (lists_of after_table) lists are.names.ends) (more root_id);
      but = λ unnamed. but-same t.rows after_table unnamed (change-some t id cover tick what can.row can.there) named;
    })
  where
    after_table : Table
    after_table = recounted (recount_of what (begun_rows cover can.row.rows)) (put id_order id (changed_row cover tick what can.row) t.rows)

    lists : (dir : InodeId) → lists_of after_table dir ≡ lists_of t.rows dir
    lists = keeps-lists t id cover tick what can.row can.there quiet

    more : (x : InodeId) → more_of (recount_of what (begun_rows cover can.row.rows)) x ≡ 0
    more x = ap (λ (k : Recount). more_of k x) (quiet_recount what (begun_rows cover can.row.rows) quiet)

    named : (x : InodeId) → times_named x after_table ≡ times_named x t.rows
    named x =
        let step = change-named t id cover tick what can.row can.there sound can.fits are can.entry x in
        let gain = more x in
        let loss = ap (λ (k : Recount). less_of k x) (quiet_recount what (begun_rows cover can.row.rows) quiet) in
        omega (arith, step, gain, loss)
