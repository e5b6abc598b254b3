-- Without snapshots a table has no records, and no rows but those of the live tree.
use Rattle.std.proofs.Common.{◌≡◌, inl, inr, ℕ, ◌+◌, ◌<◌, ◌≤◌, Bool, true, false, cond, List, [], ◌∷◌, map, length, Some, refl, sym, ap, subst, ◌∙◌, nat_eq, nat_lt, arith}
use Rattle.std.specs.Prelude.{◌==◌, IsTrue}
use Rattle.std.specs.List.{AllByRecursion}
use Rattle.std.specs.Option.{option_map}
use Rattle.std.specs.Ordering.{nat_cmp, is_lt, eq_by_cmp}
use Rattle.std.specs.declared.cmp.Ordering.TheVariants.{Less, Equal, Greater}
use Rattle.std.specs.Cmp.{nat_eq_equiv}
use Rattle.std.specs.FinMap.Entries.{is_sorted, below_all}
use Rattle.std.proofs.lemmas.Bool.Decides.{Decides-eqb, Decides-ltb, nat_tests}
use Rattle.std.proofs.lemmas.List.{length-map}
use Rattle.std.proofs.lemmas.Map.Made.{length-le_from_is_member}
use Rattle.hs_types.specs.Names.{Names}
use Rattle.hs_types.specs.declared.ids.InodeId.{InodeId}
use Rattle.hs_plain.specs.declared.state.Node.{Node}
use Rattle.hs_plain.specs.declared.state.Member.{Member}
use Rattle.hs_plain.specs.declared.state.State.{State}
use Rattle.hs_plain.specs.declared.state.FileBlocks.{FileBlocks}
use Rattle.hs_plain.specs.Tree.{node_at}
use Rattle.hs_plain.proofs.ValidHeld.{in-tree}
use Rattle.hs_plain.proofs.ValidLists.{In, any_so, any_from, map_so, in-map}
use Rattle.hs_plain.proofs.ValidShapes.{none_some}
use Rattle.hs_plain.proofs.ValidTrees.{first, second}
use Rattle.dir_changes.specs.Counts.{times, same_id, one_where, deleted_ids}
use Rattle.dir_changes.specs.Entries.{Entries, name_order, in_order, id_at}
use Rattle.dir_changes.specs.History.{DirHistory, Past, ids_of}
use Rattle.dir_changes.specs.Sound.{IsSound}
use Rattle.dir_changes.proofs.EditLaws.{same_name_so, same_name-refl}
use Rattle.dir_changes.proofs.MergeLaws.{in_order-tail}
use Rattle.dir_changes.proofs.PlaceLaws.{absent_below}
use Rattle.file_changes.specs.declared.state.FileRecord.{FileRecord}
use Rattle.snapshot_manager.specs.Snapshots.{Snapshots, IsRising}
use Rattle.snapshot_manager.proofs.Rising.{rising_apart}
use Rattle.inode_table.specs.Acyclic.{Ends, ends}
use Rattle.inode_table.specs.Names.{named_in, times_named}
use Rattle.inode_table.specs.Once.{IsIn}
use Rattle.inode_table.specs.Reads.{Has, child}
use Rattle.inode_table.specs.RowHistory.{Table, RowState, RowHistory, File, Dir, row_at, rows_at, shown, entries_in, entries_of, id_order}
use Rattle.inode_table.specs.Stands.{root_id}
use Rattle.inode_table.specs.Tabled.{Tabled}
use Rattle.inode_table.specs.Totals.{total, records_in}
use Rattle.inode_table.specs.Whole.{StandsFor, AreRecords, numbers_in}
use Rattle.inode_table.proofs.Covers.{some_id}
use Rattle.inode_table.proofs.Naming.{times-append}
use Rattle.inode_table.proofs.Reading.{by_id, same_id_so}
use Rattle.table_laws.proofs.Recording.{records-bare}
use Rattle.namenode_write.proofs.RowCounts.{key, above-in, few-live}

-- ---- rows in order

less-so : (a b : ℕ) → is_lt (nat_cmp a b) ≡ true → a < b
less-so a b h = by (nat_lt a b) (a == b) refl h
  where
    by : (t e : Bool) → nat_lt a b ≡ t → is_lt (cond t Less (cond e Equal Greater)) ≡ true → a < b
    by true e is g = (Decides-ltb a b).0 is
    by false true is g = absurd (cc)
    by false false is g = absurd (cc)

above-all : (id : InodeId) (rows : Table) → below_all id_order id rows ≡ true → AllByRecursion (λ n. id.0 < n) (map key rows)
above-all id [] below = tt
above-all id (r ∷ rows) below = (less-so id.0 r.0.0 (first (is_lt (id_order id r.0)) _ below), above-all id rows (second (is_lt (id_order id r.0)) _ below))

keys-rise : (rows : Table) → is_sorted id_order rows ≡ true → IsRising (map key rows)
keys-rise [] sorted = tt
keys-rise (r ∷ rows) sorted = (above-all r.0 rows (first (below_all id_order r.0 rows) _ sorted), keys-rise rows (second (below_all id_order r.0 rows) _ sorted))

-- a row of the list is the one that is found
row-found : (rows : Table) → IsRising (map key rows) → (e : InodeId × RowState) → In rows e → row_at rows e.0 ≡ Some e.1
row-found [] rise e at = absurd at
row-found (r ∷ rows) rise e (inl same) = subst (λ (x : InodeId × RowState). row_at (r ∷ rows) x.0 ≡ Some x.1) same here
  where
    here : row_at (r ∷ rows) r.0 ≡ Some r.1
    here =
        let no : nat_lt r.0.0 r.0.0 ≡ false = grind (arith, nat_tests) in
        let yes : (r.0.0 == r.0.0) ≡ true = grind (arith, nat_tests) in
        rw no (rw yes refl)
row-found (r ∷ rows) rise e (inr at) =
    let less : key r < key e = above-in key (key r) rows e rise.0 at in
    let no : nat_lt e.0.0 r.0.0 ≡ false = grind (arith, nat_tests) in
    let other : (e.0.0 == r.0.0) ≡ false = grind (arith, nat_tests) in
    rw no (rw other (row-found rows rise.1 e at))

-- ---- who names a row

-- an id that a list in order has stands under a name
listed-id : (x : InodeId) (es : Entries) → IsTrue (in_order es) → 0 < times x (ids_of es) → (name : List ℕ) × (id_at name es ≡ Some x)
listed-id x [] order lt = absurd (omega arith)
listed-id x (e ∷ es) order lt = by (same_id e.1 x) (listed-id x es (in_order-tail e es order)) refl lt
  where
    later : (n : List ℕ) → id_at n es ≡ Some x → id_at n (e ∷ es) ≡ Some x
    later n h = at (eq_by_cmp name_order n e.0) refl
      where
        at : (b : Bool) → eq_by_cmp name_order n e.0 ≡ b → cond b (Some e.1) (id_at n es) ≡ Some x
        at true t = absurd (none_some (sym (absent_below e.0 es (first (below_all name_order e.0 es) _ order)) ∙ ap (λ (k : List ℕ). id_at k es) (sym (same_name_so n e.0 t)) ∙ h))
        at false t = h

    by : (b : Bool) → (0 < times x (ids_of es) → (name : List ℕ) × (id_at name es ≡ Some x)) → same_id e.1 x ≡ b → 0 < one_where b + times x (ids_of es) → (name : List ℕ) × (id_at name (e ∷ es) ≡ Some x)
    by true rest t _ = (e.0, ap (λ b. cond b (Some e.1) (id_at e.0 es)) (same_name-refl e.0) ∙ ap (λ (i : InodeId). Some i) (same_id_so e.1 x ((Decides-eqb e.1.0 x.0).0 t)))
    by false rest t k = let r = rest (omega (arith, k)) in (r.0, later r.0 r.1)

none-mapped : {X : Type 0} (g : X → ℕ) (xs : List X) → map g xs ≡ [] → xs ≡ []
none-mapped g [] h = refl
none-mapped g (x ∷ xs) h = absurd (cc)

-- where there is no record a row's lists name what its current list has
listed-now : (x : InodeId) (rows : RowHistory) → numbers_in rows ≡ [] → ((dir : DirHistory) → rows ≡ Dir dir → IsSound dir) → 0 < times x (named_in rows) → (name : List ℕ) × (id_at name (entries_in 0 rows) ≡ Some x)
listed-now x (File file) none sound lt = absurd (omega arith)
listed-now x (Dir dir) none sound lt =
    let split = times-append x (ids_of dir.children) (deleted_ids dir.records) in
    let gone = ap (λ (rs : List Past). times x (deleted_ids rs)) (none-mapped (λ (r : Past). r.number.0) dir.records none) in
    listed-id x dir.children (sound dir refl).in_order (omega (arith, split, gone, lt))

-- one of the rows names an id that is named
namer : (rows : Table) (x : InodeId) → 0 < times_named x rows → (e : InodeId × RowState) × In rows e × (0 < times x (named_in e.1.rows))
namer [] x lt = absurd (omega arith)
namer (r ∷ rows) x lt = by (nat_lt 0 (times x (named_in r.1.rows))) (namer rows x) refl
  where
    by : (b : Bool) → (0 < times_named x rows → (e : InodeId × RowState) × In rows e × (0 < times x (named_in e.1.rows))) → nat_lt 0 (times x (named_in r.1.rows)) ≡ b
        → (e : InodeId × RowState) × In (r ∷ rows) e × (0 < times x (named_in e.1.rows))
    by true rest t = (r, inl refl, (Decides-ltb 0 (times x (named_in r.1.rows))).0 t)
    by false rest t =
        let none : times x (named_in r.1.rows) ≤ 0 = grind (arith, nat_tests) in
        let n = rest (omega (arith, lt, none)) in
        (n.0, inr n.1, n.2)

none-recorded : (rows : RowHistory) → numbers_in rows ≡ [] → records_in rows ≡ 0
none-recorded (File file) none = ap length (none-mapped (λ (r : FileRecord). r.number.0) file.records none)
none-recorded (Dir dir) none = ap length (none-mapped (λ (r : Past). r.number.0) dir.records none)

-- ---- without snapshots

module _ (table : Tabled) (snaps : Snapshots) (state : State FileBlocks) (all : StandsFor table snaps state) (alone : state.members ≡ []) where
  no_numbers : (id : InodeId) (rows : RowHistory) → rows_at table.rows id ≡ Some rows → numbers_in rows ≡ []
  no_numbers id rows there = records-bare table snaps.issued.0 id rows (subst (λ (members : List (Member FileBlocks)). AreRecords table.rows table.index members snaps.issued.0) alone all.records) there

  rise : IsRising (map key table.rows)
  rise = keys-rise table.rows all.naming.order

  rows-found : (e : InodeId × RowState) → In table.rows e → rows_at table.rows e.0 ≡ Some e.1.rows
  rows-found e at = ap (option_map (λ (row : RowState). row.rows)) (row-found table.rows rise e at)

  -- no row has a record
  pub no-records : total (λ row. records_in row.rows) table.rows ≡ 0
  no-records = by table.rows (λ e at. none-recorded e.1.rows (no_numbers e.0 e.1.rows (rows-found e at)))
    where
      by : (rows : Table) → ((e : InodeId × RowState) → In rows e → records_in e.1.rows ≡ 0) → total (λ row. records_in row.rows) rows ≡ 0
      by [] none = refl
      by (r ∷ rows) none = let here = none r (inl refl) in let rest = by rows (λ e at. none e (inr at)) in omega (arith, here, rest)

  top : Has (node_at state.tree) root_id
  top = let n = some_id (node_at state.tree []) root_id all.stands.live.root in record { at = []; node = n.0; is = n.1; named = n.2 }

  below : (p : InodeId) (name : List ℕ) (x : InodeId) → Has (node_at state.tree) p → IsIn (shown table.rows 0).entries p name x → Has (node_at state.tree) x
  below p name x has is_in =
      let kid = some_id (node_at state.tree (child has.at name)) x
      (sym (all.stands.live.entries has.at has.node name has.is) ∙ ap (λ (i : InodeId). id_at name ((shown table.rows 0).entries i)) has.named ∙ is_in) in
      record { at = child has.at name; node = kid.0; is = kid.1; named = kid.2 }

  -- each row's inode stands in the live tree
  is-live : (id : InodeId) (rows : RowHistory) → Ends (shown table.rows 0).entries id → rows_at table.rows id ≡ Some rows → Has (node_at state.tree) id
  is-live id rows (ends _ up) there = by_id id root_id
      (λ same. subst (Has (node_at state.tree)) (sym same) top)
      (λ other.
      let n = namer table.rows id (all.named id rows there other) in
      let found = rows-found n.0 n.1 in
      let listed = listed-now id n.0.1.rows (no_numbers n.0.0 n.0.1.rows found) (λ dir is. all.records.undoable n.0.0 dir (found ∙ ap (λ (h : RowHistory). Some h) is)) n.2 in
      let is_in : IsIn (shown table.rows 0).entries n.0.0 listed.0 id = ap (λ o. id_at listed.0 (entries_of 0 o)) found ∙ listed.1 in
      below n.0.0 listed.0 id (is-live n.0.0 n.0.1.rows (up n.0.0 listed.0 is_in) found) is_in)

  few-rows : length table.rows ≤ length state.tree
  few-rows =
      let id : Names × Node FileBlocks → ℕ = λ place. place.1.id.0 in
      let mine = length-map state.tree id in
      let theirs = length-map table.rows key in
      let less : length (map key table.rows) ≤ length (map id state.tree) = length-le_from_is_member nat_eq_equiv (map key table.rows) (map id state.tree) (rising_apart (map key table.rows) rise)
      (λ q h. let w = any_so (nat_eq q) (map key table.rows) h in
      let e = map_so key table.rows w.0 w.1 in
      let has = is-live e.0.0 e.0.1.rows (all.naming.names.ends e.0.0) (rows-found e.0 e.1) in
      any_from (nat_eq q) (map id state.tree) has.node.id.0 (in-map id state.tree (has.at, has.node) (in-tree state.tree has.at has.node has.is))
      ((Decides-eqb q has.node.id.0).1 ((Decides-eqb q w.0).0 w.2 ∙ sym e.2 ∙ ap (λ (i : InodeId). i.0) (sym has.named)))) in
      omega (arith, mine, theirs, less)

  -- there are as many rows as nodes in the live tree
  pub all-live : length table.rows ≡ length state.tree
  all-live = let few = few-live table snaps state all in let most = few-rows in omega (arith, few, most)
