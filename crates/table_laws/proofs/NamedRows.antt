-- Names as a row comes, gets other marks, loses a record, or goes.
use Rattle.std.proofs.Common.{◌≡◌, ℕ, ◌+◌, ◌<◌, true, false, cond, List, [], ◌∷◌, map, length, Option, Some, None, is_some, refl, sym, ap, subst, ◌∙◌, inl, inr, ⊎_elim, arith}
use Rattle.std.specs.Prelude.{◌≢◌}
use Rattle.std.specs.List.{Contains}
use Rattle.std.specs.Option.{option_map}
use Rattle.std.specs.Ordering.{eq_by_cmp}
use Rattle.std.specs.FinMap.Entries.{put}
use Rattle.std.proofs.lemmas.Bool.Decides.{Decides-eqb}
use Rattle.std.proofs.lemmas.List.Elements.{Contains-append_left, Contains-append_right}
use Rattle.hs_types.specs.declared.ids.InodeId.{InodeId}
use Rattle.hs_types.specs.declared.name.Spot.{Spot}
use Rattle.hs_plain.proofs.ValidShapes.{none_some, same_some, true_false}
use Rattle.dir_changes.specs.Counts.{times, one_where, same_id}
use Rattle.dir_changes.specs.Entries.{id_at}
use Rattle.inode_table.specs.declared.freed.Freed.{Freed}
use Rattle.inode_table.specs.RowHistory.{RowHistory, RowState, File, Dir, Table, id_order, row_at, rows_at, entries_in, entries_of}
use Rattle.inode_table.specs.Stands.{root_id}
use Rattle.inode_table.specs.Names.{named_in, times_named}
use Rattle.inode_table.specs.Once.{IsIn}
use Rattle.inode_table.specs.Acyclic.{ends}
use Rattle.inode_table.specs.Tabled.{Tabled, inserted, fresh_row, put_marks, marked_row}
use Rattle.inode_table.specs.Kept.{IsBare, AreSound}
use Rattle.inode_table.specs.Merged.{merged, merged_from, merged_rows, ids_dropped}
use Rattle.inode_table.specs.Released.{all_named_less, without_row, let_go, MayGo, ReleasedBy, Releasing}
use Rattle.inode_table.specs.Start.{first_table, first_row}
use Rattle.inode_table.specs.Whole.{AreNames, AllNamed, numbers_in, AreInOrder, AreNamed}
use Rattle.inode_table.proofs.Reading.{by_id, same_id_so}
use Rattle.inode_table.proofs.Naming.{put-named, merge-named}
use Rattle.inode_table.proofs.Placing.{total-new}
use Rattle.inode_table.proofs.Going.{row_at-without}
use Rattle.inode_table.proofs.Ending.{fewer-end}
use Rattle.table_laws.specs.Naming.{lists_of, AllSound, NamedBut, SameNames, KeepsNames, InsertsName, MergesNames, ReleasesNames}
use Rattle.table_laws.proofs.NamedTables.{row-put-here, row-put-there, order-put, order-without, order-all-less, times-all-less, rows-all-less, some-all-less, row-without-here, total-without, Counted, counted-all-less, not-tied}
use Rattle.table_laws.proofs.NamedLists.{in-named, sound-there, once-alike, ends-alike}
use Rattle.table_laws.proofs.BlockLists.{in-here, in-later, by-zero}
use Rattle.table_laws.proofs.NamedSteps.{rows-so, row-so, but-same}

-- ---- a new row

bare_times : (x : InodeId) (rows : RowHistory) → IsBare rows → times x (named_in rows) ≡ 0
bare_times x (File file) bare = refl
bare_times x (Dir dir) bare = rw (bare.0, bare.1) refl

bare_list : (rows : RowHistory) → IsBare rows → entries_in 0 rows ≡ []
bare_list (File file) bare = refl
bare_list (Dir dir) bare = bare.1

module _ (t : Tabled) (id : InodeId) (rows : RowHistory) (since : ℕ) (free : row_at t.rows id ≡ None) (bare : IsBare rows) (are : AreNamed t.rows) where
  abbrev came : Table
  came = put id_order id (fresh_row rows since) t.rows

  came_named : (x : InodeId) → times_named x came ≡ times_named x t.rows
  came_named x = let all = total-new (λ row. times x (named_in row.rows)) id (fresh_row rows since) t.rows free in let none = bare_times x rows bare in omega (arith, all, none)

  never : times_named id t.rows ≡ 0
  never = by-zero (times_named id t.rows) (λ e. e) (λ some. absurd (true_false (are.names.there id some) (ap is_some free)))

  came_lists : (dir : InodeId) → lists_of came dir ≡ lists_of t.rows dir
  came_lists dir = by_id dir id
      (λ e. subst (λ (d : InodeId). lists_of came d ≡ lists_of t.rows d) (sym e)
      (ap (λ (o : Option RowState). entries_of 0 (option_map (λ (r : RowState). r.rows) o)) (row-put-here id (fresh_row rows since) t.rows) ∙ bare_list rows bare
      ∙ sym (ap (λ (o : Option RowState). entries_of 0 (option_map (λ (r : RowState). r.rows) o)) free)))
      (λ ne. ap (λ (o : Option RowState). entries_of 0 (option_map (λ (r : RowState). r.rows) o)) (row-put-there id dir (fresh_row rows since) t.rows ne))

  came_rows : (x : InodeId) → x ≢ id → row_at came x ≡ row_at t.rows x
  came_rows x ne = row-put-there id x (fresh_row rows since) t.rows ne

  pub insert-names : InsertsName t.rows (inserted id rows since t).rows id
  insert-names = record {
    lists = came_lists;
    named = record {
      order = order-put id (fresh_row rows since) t.rows are.order;
      names = record {
        there = λ x some. by_id x id
            (λ e. ap (λ (y : InodeId). is_some (row_at came y)) e ∙ ap is_some (row-put-here id (fresh_row rows since) t.rows))
            (λ ne. let same = came_named x in ap is_some (came_rows x ne) ∙ are.names.there x (omega (arith, same, some)));
        counted = λ x row h. let same = came_named x in by_id x id
            (λ e. let is : fresh_row rows since ≡ row = same_some (sym (row-put-here id (fresh_row rows since) t.rows) ∙ ap (row_at came) (sym e) ∙ h) in
            let names : 0 ≡ row.names = ap (λ (r : RowState). r.names) is in
            let none : times_named x t.rows ≡ 0 = ap (λ (y : InodeId). times_named y t.rows) e ∙ never in
            omega (arith, names, none, same))
            (λ ne. let count = are.names.counted x row (sym (came_rows x ne) ∙ h) in omega (arith, count, same));
        once = once-alike (lists_of t.rows) (lists_of came) came_lists are.names.once;
        ends = ends-alike (lists_of t.rows) (lists_of came) came_lists are.names.ends;
      };
      root = came_named root_id ∙ are.root;
    };
    loose = record {
      row = fresh_row rows since;
      there = row-put-here id (fresh_row rows since) t.rows;
      loose = λ dir name h. let some = in-named t.rows dir name id (ap (id_at name) (sym (came_lists dir)) ∙ h) in let none = never in omega (arith, some, none);
    };
    but = λ unnamed but x new h other. by_id x id
        (λ e. inl (in-here unnamed id x e))
        (λ ne. ⊎_elim (λ c. inl (in-later unnamed id x c)) (λ some. inr (subst (λ n. 0 < n) (sym (came_named x)) some))
        (but x new (sym (ap (option_map (λ (r : RowState). r.rows)) (came_rows x ne)) ∙ h) other));
  }

-- ---- other marks

module _ (t : Table) (are : AreNamed t) where
  keeps_same : KeepsNames t t
  keeps_same = record { same = record { rows = λ x. refl; lists = λ x. refl; named = λ x. refl }; named = are; but = λ unnamed but. but }

  -- another row with the same states and names
  module _ (id : InodeId) (old new : RowState) (there : row_at t id ≡ Some old) (same : new.rows ≡ old.rows) (names : new.names ≡ old.names) where
    abbrev put_new : Table
    put_new = put id_order id new t

    put_times : (x : InodeId) → times_named x put_new ≡ times_named x t
    put_times x = let all = put-named t id x old new are.order there in let own = ap (λ (r : RowHistory). times x (named_in r)) same in omega (arith, all, own)

    put_some : (x : InodeId) → is_some (row_at put_new x) ≡ is_some (row_at t x)
    put_some x = by_id x id
        (λ e. subst (λ (y : InodeId). is_some (row_at put_new y) ≡ is_some (row_at t y)) (sym e) (ap is_some (row-put-here id new t) ∙ sym (ap is_some there)))
        (λ ne. ap is_some (row-put-there id x new t ne))

    put_lists : (dir : InodeId) → lists_of put_new dir ≡ lists_of t dir
    put_lists dir = by_id dir id
        (λ e. subst (λ (d : InodeId). lists_of put_new d ≡ lists_of t d) (sym e)
        (ap (λ (o : Option RowState). entries_of 0 (option_map (λ (r : RowState). r.rows) o)) (row-put-here id new t) ∙ ap (entries_in 0) same
        ∙ sym (ap (λ (o : Option RowState). entries_of 0 (option_map (λ (r : RowState). r.rows) o)) there)))
        (λ ne. ap (λ (o : Option RowState). entries_of 0 (option_map (λ (r : RowState). r.rows) o)) (row-put-there id dir new t ne))

    keeps_put : KeepsNames t put_new
    keeps_put = record {
      same = record { rows = put_some; lists = put_lists; named = put_times };
      named = record {
        order = order-put id new t are.order;
        names = record {
          there = λ x some. put_some x ∙ are.names.there x (subst (λ n. 0 < n) (put_times x) some);
          counted = λ x row h. let all = put_times x in by_id x id
              (λ e. let is : new ≡ row = same_some (sym (row-put-here id new t) ∙ ap (row_at put_new) (sym e) ∙ h) in
              let now : new.names ≡ row.names = ap (λ (r : RowState). r.names) is in
              let count = are.names.counted x old (ap (row_at t) e ∙ there) in omega (arith, now, count, all, names))
              (λ ne. let count = are.names.counted x row (sym (row-put-there id x new t ne) ∙ h) in omega (arith, count, all));
          once = once-alike (lists_of t) (lists_of put_new) put_lists are.names.once;
          ends = ends-alike (lists_of t) (lists_of put_new) put_lists are.names.ends;
        };
        root = put_times root_id ∙ are.root;
      };
      but = λ unnamed. but-same t put_new unnamed put_some put_times;
    }

pub mark-names : (t : Tabled) (id : InodeId) (since carry : ℕ) → AreNamed t.rows → KeepsNames t.rows (marked_row id since carry t).rows
mark-names t id since carry are = by (row_at t.rows id) refl
  where
    by : (o : Option RowState) → row_at t.rows id ≡ o → KeepsNames t.rows (put_marks id since carry o t.rows)
    by None e = keeps_same t.rows are
    by (Some row) e = keeps_put t.rows are id row (record row { since = since; carry = carry }) e refl refl

-- ---- a record goes

length_map : {X Y : Type 0} (f : X → Y) (xs : List X) → length (map f xs) ≡ length xs
length_map f [] = refl
length_map f (x ∷ xs) = let rest = length_map f xs in omega (arith, rest)

merged_times : (i : ℕ) (x : InodeId) (rows : RowHistory) → AreSound rows → i < length (numbers_in rows) → times x (named_in (merged_rows i rows)) + times x (ids_dropped i rows) ≡ times x (named_in rows)
merged_times i x (File file) sound within = refl
merged_times i x (Dir dir) sound within = let long = length_map (λ r. r.number.0) dir.records in merge-named dir i x sound (omega (arith, long, within))

merged_list : (i : ℕ) (rows : RowHistory) → entries_in 0 (merged_rows i rows) ≡ entries_in 0 rows
merged_list i (File file) = refl
merged_list i (Dir dir) = refl

some_times : (x : InodeId) (ids : List InodeId) → 0 < times x ids → Contains ids x
some_times x [] some = absurd (omega (arith, some))
some_times x (id ∷ ids) some = by_id x id
    (λ e. in-here ids id x e)
    (λ ne. in-later ids id x (some_times x ids (rest ne some)))
  where
    rest : x ≢ id → 0 < one_where (same_id id x) + times x ids → 0 < times x ids
    rest ne some = elim (same_id id x) as (λ b. same_id id x ≡ b → 0 < one_where b + times x ids → 0 < times x ids) [
      | true ↦ λ e _. absurd (ne (sym (same_id_so id x ((Decides-eqb id.0 x.0).0 e))))
      | false ↦ λ e s. omega (arith, s)
    ] refl some

module _ (t : Tabled) (id : InodeId) (i : ℕ) (row : RowState) (there : row_at t.rows id ≡ Some row) (within : i < length (numbers_in row.rows)) (sound : AllSound t.rows) (are : AreNamed t.rows) where
  abbrev new_row : RowState
  new_row = record row { rows = merged_rows i row.rows }

  abbrev mid : Table
  mid = put id_order id new_row t.rows

  abbrev dropped : List InodeId
  dropped = ids_dropped i row.rows

  mid_times : (x : InodeId) → times_named x mid + times x dropped ≡ times_named x t.rows
  mid_times x =
      let all = put-named t.rows id x row new_row are.order there in
      let own = merged_times i x row.rows (sound-there t.rows id row sound there) within in
      omega (arith, all, own)

  all_times : (x : InodeId) → times_named x (all_named_less dropped mid) + times x dropped ≡ times_named x t.rows
  all_times x = let same = times-all-less dropped x mid in let step = mid_times x in omega (arith, same, step)

  all_some : (x : InodeId) → is_some (row_at (all_named_less dropped mid) x) ≡ is_some (row_at t.rows x)
  all_some x = some-all-less dropped x mid ∙ by_id x id
      (λ e. subst (λ (y : InodeId). is_some (row_at mid y) ≡ is_some (row_at t.rows y)) (sym e) (ap is_some (row-put-here id new_row t.rows) ∙ sym (ap is_some there)))
      (λ ne. ap is_some (row-put-there id x new_row t.rows ne))

  all_lists : (dir : InodeId) → lists_of (all_named_less dropped mid) dir ≡ lists_of t.rows dir
  all_lists dir = ap (entries_of 0) (rows-all-less dropped dir mid) ∙ by_id dir id
      (λ e. subst (λ (d : InodeId). entries_of 0 (rows_at mid d) ≡ lists_of t.rows d) (sym e)
      (ap (λ (o : Option RowState). entries_of 0 (option_map (λ (r : RowState). r.rows) o)) (row-put-here id new_row t.rows) ∙ merged_list i row.rows
      ∙ sym (ap (λ (o : Option RowState). entries_of 0 (option_map (λ (r : RowState). r.rows) o)) there)))
      (λ ne. ap (λ (o : Option RowState). entries_of 0 (option_map (λ (r : RowState). r.rows) o)) (row-put-there id dir new_row t.rows ne))

  mid_counted : Counted mid dropped
  mid_counted = record {
    counted = λ x new h. let step = mid_times x in by_id x id
        (λ e. let is : new_row ≡ new = same_some (sym (row-put-here id new_row t.rows) ∙ ap (row_at mid) (sym e) ∙ h) in
        let names : row.names ≡ new.names = ap (λ (r : RowState). r.names) is in
        let count = are.names.counted x row (ap (row_at t.rows) e ∙ there) in omega (arith, names, count, step))
        (λ ne. let count = are.names.counted x new (sym (row-put-there id x new_row t.rows ne) ∙ h) in omega (arith, count, step));
  }

  pub merges : MergesNames t.rows (merged_from id i (Some row) t).rows (ids_dropped i row.rows)
  merges = record {
    rows = all_some;
    lists = all_lists;
    named = record {
      order = order-all-less dropped mid (order-put id new_row t.rows are.order);
      names = record {
        there = λ x some. let step = all_times x in all_some x ∙ are.names.there x (omega (arith, step, some));
        counted = λ x new h. let count = (counted-all-less dropped mid mid_counted).counted x new h in omega (arith, count);
        once = once-alike (lists_of t.rows) (lists_of (all_named_less dropped mid)) all_lists are.names.once;
        ends = ends-alike (lists_of t.rows) (lists_of (all_named_less dropped mid)) all_lists are.names.ends;
      };
      root = let step = all_times root_id in let none = are.root in omega (arith, step, none);
    };
    but = λ unnamed but x rows h other.
        let old = rows-so t.rows (all_named_less dropped mid) x rows (all_some x) h in
        let step = all_times x in
        ⊎_elim (λ c. inl (Contains-append_right dropped unnamed x c))
        (λ some. by-zero (times x dropped)
        (λ none. inr (omega (arith, step, some, none)))
        (λ few. inl (Contains-append_left dropped unnamed x (some_times x dropped few))))
        (but x old.0 old.1 other);
  }

pub merge-names : (t : Tabled) (id : InodeId) (i : ℕ) (row : RowState) → row_at t.rows id ≡ Some row → i < length (numbers_in row.rows) → AllSound t.rows → AreNamed t.rows
    → MergesNames t.rows (merged id i t).rows (ids_dropped i row.rows)
merge-names t id i row there within sound are =
    subst (λ (o : Option RowState). MergesNames t.rows (merged_from id i o t).rows (ids_dropped i row.rows)) (sym there) (merges t id i row there within sound are)

-- ---- rows go

-- what is left, before it is known that all of it is named
record Left (before after : Table) : Type 0 where
  lists : (dir : InodeId) (name : List ℕ) (x : InodeId) → IsIn (lists_of after) dir name x → IsIn (lists_of before) dir name x
  named : AreNamed after

module _ (t : Tabled) (id : InodeId) (row : RowState) (may : MayGo t.rows id row) (are : AreNamed t.rows) where
  abbrev rest : Table
  rest = without_row id t.rows

  abbrev gone : Table
  gone = all_named_less (named_in row.rows) rest

  gone_times : (x : InodeId) → times_named x gone + times x (named_in row.rows) ≡ times_named x t.rows
  gone_times x =
      let same = times-all-less (named_in row.rows) x rest in
      let all = total-without (λ r. times x (named_in r.rows)) t.rows id row are.order may.there in
      omega (arith, same, all)

  gone_in : (dir : InodeId) (name : List ℕ) (x : InodeId) → IsIn (lists_of gone) dir name x → IsIn (lists_of t.rows) dir name x
  gone_in dir name x h =
      let here : id_at name (lists_of rest dir) ≡ Some x = ap (λ (o : Option RowHistory). id_at name (entries_of 0 o)) (sym (rows-all-less (named_in row.rows) dir rest)) ∙ h in
      by_id dir id
      (λ e. absurd (none_some (sym (ap (λ (o : Option RowState). id_at name (entries_of 0 (option_map (λ (r : RowState). r.rows) o))) (ap (row_at rest) e ∙ row-without-here id t.rows)) ∙ here)))
      (λ ne. ap (λ (o : Option RowState). id_at name (entries_of 0 (option_map (λ (r : RowState). r.rows) o))) (sym (row_at-without id dir t.rows ne)) ∙ here)

  rest_counted : Counted rest (named_in row.rows)
  rest_counted = record {
    counted = λ x new h.
        let all = total-without (λ r. times x (named_in r.rows)) t.rows id row are.order may.there in
        by_id x id
        (λ e. absurd (none_some (sym (row-without-here id t.rows) ∙ ap (row_at rest) (sym e) ∙ h)))
        (λ ne. let count = are.names.counted x new (sym (row_at-without id x t.rows ne) ∙ h) in omega (arith, all, count));
  }

  gone_left : Left t.rows (let_go id row.rows t).rows
  gone_left = record {
    lists = gone_in;
    named = record {
      order = order-all-less (named_in row.rows) rest (order-without id t.rows are.order);
      names = record {
        there = λ x some. let step = gone_times x in some-all-less (named_in row.rows) x rest ∙ by_id x id
            (λ e. let none : times_named x t.rows ≡ 0 = ap (λ (y : InodeId). times_named y t.rows) e ∙ may.not_named in absurd (omega (arith, step, none, some)))
            (λ ne. ap is_some (row_at-without id x t.rows ne) ∙ are.names.there x (omega (arith, step, some)));
        counted = λ x new h. let count = (counted-all-less (named_in row.rows) rest rest_counted).counted x new h in omega (arith, count);
        once = λ p q a b x h k. are.names.once p q a b x (gone_in p a x h) (gone_in q b x k);
        ends = fewer-end (lists_of t.rows) (lists_of gone) gone_in are.names.ends;
      };
      root = let step = gone_times root_id in let none = are.root in omega (arith, step, none);
    };
  }

released : (before after : Tabled) (gone : List InodeId) → ReleasedBy before gone after → AreNamed before.rows → Left before.rows after.rows
released before after [] same are = subst (λ (t : Tabled). Left before.rows t.rows) (sym same) (record { lists = λ dir name x h. h; named = are })
released before after (id ∷ gone) step are =
    let one = gone_left before id step.0 step.1 are in
    let all = released (let_go id step.0.rows before) after gone step.2 one.named in
    record { lists = λ dir name x h. one.lists dir name x (all.lists dir name x h); named = all.named }

pub release-names : (before after : Tabled) (freed : Freed) → Releasing before freed after → AreNamed before.rows → ReleasesNames before.rows after.rows
release-names before after freed step are =
    let all = released before (record after { waiting = freed.blocks }) step.gone step.steps are in
    record { lists = all.lists; named = all.named; all = step.all_named }

-- ---- none but the root, and the first table

pub all-names : (table : Table) → (NamedBut [] table → AllNamed table) × (AllNamed table → NamedBut [] table)
all-names table = (
  λ but id rows h other. ⊎_elim (λ c. absurd (let lt = c.1 in omega (arith, lt))) (λ some. some) (but id rows h other),
  λ all id rows h other. inr (all id rows h other),
)

module _ (spot : Spot) where
  abbrev first_rows : Table
  first_rows = (root_id, first_row spot) ∷ []

  pub first-at : (id : InodeId) (row : RowState) → row_at first_rows id ≡ Some row → (id ≡ root_id) × (row ≡ first_row spot)
  first-at id row h = elim (eq_by_cmp id_order id root_id) as (λ b. eq_by_cmp id_order id root_id ≡ b → cond b (Some (first_row spot)) None ≡ Some row → (id ≡ root_id) × (row ≡ first_row spot)) [
    | true ↦ λ e k. (by_id id root_id (λ s. s) (λ ne. absurd (true_false e (not-tied id root_id ne))), sym (same_some k))
    | false ↦ λ e k. absurd (none_some k)
  ] refl h

  first_none : (p : InodeId) (name : List ℕ) (x : InodeId) → IsIn (lists_of first_rows) p name x → ⊥
  first_none p name x h = let some = in-named first_rows p name x h in omega (arith, some)

  pub start-names : AreNamed (first_table spot).rows × AllNamed (first_table spot).rows
  start-names = (
    record {
      order = refl;
      names = record {
        there = λ id some. absurd (omega (arith, some));
        counted = λ id row h. ap (λ (r : RowState). r.names) (first-at id row h).1;
        once = λ p q a b x h k. absurd (first_none p a x h);
        ends = λ id. ends id (λ p name h. absurd (first_none p name id h));
      };
      root = refl;
    },
    λ id rows h other. let r = row-so first_rows id rows h in absurd (other (first-at id r.0 r.1).0),
  )
