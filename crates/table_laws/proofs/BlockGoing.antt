-- Blocks as a record goes, and as rows go.
use Rattle.std.proofs.Common.{◌≡◌, ℕ, zero, suc, ◌≤◌, Bool, true, false, not, ◌||◌, nat_eq, List, [], ◌∷◌, ◌++◌, remove, Option, Some, None, refl, sym, ap, subst, ◌∙◌, append-nil, append_assoc, ◌⊎◌, inl, inr, ⊎_elim, arith}
use Rattle.std.specs.Prelude.{◌≢◌}
use Rattle.std.specs.List.{Contains, IsDistinct, list_any}
use Rattle.std.specs.Option.{option_map}
use Rattle.std.specs.FinMap.Entries.{put}
use Rattle.hs_types.specs.declared.ids.InodeId.{InodeId}
use Rattle.hs_types.specs.declared.ids.BlockId.{BlockId}
use Rattle.hs_types.specs.Blocks.{BlockMap, same_block}
use Rattle.hs_plain.proofs.ValidShapes.{none_some, same_some, true_false}
use Rattle.dir_changes.specs.Counts.{one_where}
use Rattle.file_changes.specs.declared.state.FileRecord.{FileRecord}
use Rattle.file_changes.specs.declared.state.FileState.{FileState}
use Rattle.file_changes.specs.History as files
use Rattle.file_changes.specs.History.{FileHistory, blocks_at, only_at, names, state_has}
use Rattle.inode_table.specs.declared.freed.Freed.{Freed}
use Rattle.inode_table.specs.RowHistory.{RowHistory, RowState, File, Dir, Table, id_order, row_at, rows_at}
use Rattle.inode_table.specs.Names.{named_in}
use Rattle.inode_table.specs.Tabled.{Tabled}
use Rattle.inode_table.specs.Blocked.{AreBlocks, HasState, NamesBlock, states_of, bytes_within}
use Rattle.inode_table.specs.Merged.{merged, merged_from, merged_rows, ids_dropped, blocks_dropped}
use Rattle.inode_table.specs.Released.{all_named_less, without_row, let_go, MayGo, ReleasedBy, Releasing, AreApart, times_block, blocks_in}
use Rattle.inode_table.proofs.Reading.{by_id}
use Rattle.inode_table.proofs.Going.{row_at-without}
use Rattle.inode_table.proofs.BlocksOnce.{blocks-once}
use Rattle.table_laws.proofs.NamedTables.{rows-all-less, row-without-here}
use Rattle.table_laws.proofs.BlockLists.{or-left, or-right, or-either, by-block, same-block, in-here, in-later, in-either, in-none, times-in, in-times, times-distinct, distinct-none, distinct-times, distinct-filter, in-filter, filter-in}
use Rattle.table_laws.proofs.BlockStates.{OneRow, handed, has-one, had-one, no-more-one, in-states, current-in, saved-in, same-file, dir-file, dir-blocks}
use Rattle.table_laws.proofs.BlockSteps.{one-put}

-- ---- which blocks a file names

any_in : (block : BlockId) (xs : List BlockId) → list_any (λ (other : BlockId). nat_eq other.0 block.0) xs ≡ true → Contains xs block
any_in block [] h = absurd (true_false h refl)
any_in block (x ∷ xs) h = by-block x block
    (λ e. in-here xs x block (sym e))
    (λ ne. in-later xs x block (any_in block xs (sym (ap (λ b. b || list_any (λ (other : BlockId). nat_eq other.0 block.0) xs) ne) ∙ h)))

in_any : (block : BlockId) (xs : List BlockId) → Contains xs block → list_any (λ (other : BlockId). nat_eq other.0 block.0) xs ≡ true
in_any block [] c = absurd (in-none block c)
in_any block (x ∷ xs) c = ⊎_elim
    (λ e. or-left (nat_eq x.0 block.0) (list_any (λ (other : BlockId). nat_eq other.0 block.0) xs) (same-block x block (sym e)))
    (λ k. or-right (nat_eq x.0 block.0) (list_any (λ (other : BlockId). nat_eq other.0 block.0) xs) (in_any block xs k))
    (in-either xs x block c)

recorded_in : (block : BlockId) (rs : List FileRecord) → list_any (λ (r : FileRecord). state_has block r.state) rs ≡ true → (r : FileRecord) × Contains rs r × Contains r.state.blocks block
recorded_in block [] h = absurd (true_false h refl)
recorded_in block (r ∷ rs) h = or-either (state_has block r.state) (list_any (λ (q : FileRecord). state_has block q.state) rs) h
    (λ here. (r, in-here rs r r refl, any_in block r.state.blocks here))
    (λ rest. let found = recorded_in block rs rest in (found.0, in-later rs r found.0 found.1, found.2))

in_recorded : (block : BlockId) (rs : List FileRecord) (r : FileRecord) → Contains rs r → Contains r.state.blocks block → list_any (λ (q : FileRecord). state_has block q.state) rs ≡ true
in_recorded block [] r c k = absurd (in-none r c)
in_recorded block (q ∷ rs) r c k = ⊎_elim
    (λ e. or-left (state_has block q.state) (list_any (λ (p : FileRecord). state_has block p.state) rs) (in_any block q.state.blocks (subst (λ (p : FileRecord). Contains p.state.blocks block) e k)))
    (λ l. or-right (state_has block q.state) (list_any (λ (p : FileRecord). state_has block p.state) rs) (in_recorded block rs r l k))
    (in-either rs q r c)

-- a state that names it
names_so : (file : FileHistory) (block : BlockId) → names file block ≡ true → (state : FileState) × Contains (states_of file) state × Contains state.blocks block
names_so file block h = or-either (state_has block file.current) (list_any (λ (r : FileRecord). state_has block r.state) file.records) h
    (λ here. (file.current, current-in file, any_in block file.current.blocks here))
    (λ rest. let found = recorded_in block file.records rest in (found.0.state, saved-in file found.0 found.1, found.2))

so_names : (file : FileHistory) (block : BlockId) (state : FileState) → Contains (states_of file) state → Contains state.blocks block → names file block ≡ true
so_names file block state c k = in-states file state c
    (λ e. or-left (state_has block file.current) (list_any (λ (r : FileRecord). state_has block r.state) file.records) (in_any block file.current.blocks (subst (λ (s : FileState). Contains s.blocks block) e k)))
    (λ r m e. or-right (state_has block file.current) (list_any (λ (q : FileRecord). state_has block q.state) file.records) (in_recorded block file.records r m (subst (λ (s : FileState). Contains s.blocks block) (sym e) k)))

-- ---- a list of records without one

left_in : (rs : List FileRecord) (i : ℕ) (r : FileRecord) → Contains (remove rs i) r → Contains rs r
left_in [] zero r c = c
left_in [] (suc i) r c = c
left_in (q ∷ rs) zero r c = in-later rs q r c
left_in (q ∷ rs) (suc i) r c = ⊎_elim (λ e. in-here rs q r e) (λ k. in-later rs q r (left_in rs i r k)) (in-either (remove rs i) q r c)

left_or : (rs : List FileRecord) (i : ℕ) (r : FileRecord) → Contains rs r → Contains (remove rs i) r ⊎ (r.state.blocks ≡ blocks_at rs i)
left_or [] zero r c = absurd (in-none r c)
left_or [] (suc i) r c = absurd (in-none r c)
left_or (q ∷ rs) zero r c = ⊎_elim (λ e. inr (ap (λ (p : FileRecord). p.state.blocks) e)) (λ k. inl k) (in-either rs q r c)
left_or (q ∷ rs) (suc i) r c = ⊎_elim
    (λ e. inl (in-here (remove rs i) q r e))
    (λ k. ⊎_elim (λ l. inl (in-later (remove rs i) q r l)) (λ e. inr e) (left_or rs i r k))
    (in-either rs q r c)

-- what holds of no blocks and of each record's holds of those of record i
of_record : (P : List BlockId → Type 0) (rs : List FileRecord) (i : ℕ) → P [] → ((r : FileRecord) → Contains rs r → P r.state.blocks) → P (blocks_at rs i)
of_record P [] i none all = none
of_record P (r ∷ rs) zero none all = all r (in-here rs r r refl)
of_record P (r ∷ rs) (suc i) none all = of_record P rs i none (λ q c. all q (in-later rs r q c))

at_in : (block : BlockId) (rs : List FileRecord) (i : ℕ) → Contains (blocks_at rs i) block → (r : FileRecord) × Contains rs r × Contains r.state.blocks block
at_in block rs i = of_record (λ (bs : List BlockId). Contains bs block → (r : FileRecord) × Contains rs r × Contains r.state.blocks block) rs i (λ c. absurd (in-none block c)) (λ r c k. (r, c, k))

-- ---- a file loses a record

module _ (before after : Table) (id : InodeId) (i : ℕ) (file : FileHistory) (was : rows_at before id ≡ Some (File file)) (one : OneRow before after id (File (files.without_record i file))) (store : Option BlockMap) (made : ℕ) (waiting : List BlockId)
    (are : AreBlocks before store made waiting) where
  abbrev less : FileHistory
  less = files.without_record i file

  -- its states were there
  was_state : (state : FileState) → Contains (states_of less) state → Contains (states_of file) state
  was_state state c = in-states less state c
      (λ e. subst (Contains (states_of file)) (sym e) (current-in file))
      (λ r k e. subst (Contains (states_of file)) e (saved-in file r (left_in file.records i r k)))

  has : (state : FileState) → Contains (states_of file) state → HasState before id state
  has state c = record { file = file; row = was; is = c }

  was_has : (x : InodeId) (state : FileState) → HasState after x state → HasState before x state
  was_has x state h = has-one before after id (File less) one x state h
      (λ f e d c. subst (λ (y : InodeId). HasState before y state) (sym e) (has state (was_state state (subst (λ (g : FileHistory). Contains (states_of g) state) (sym (same-file d)) c))))
      (λ ne o. o)

  was_names : (x : InodeId) (block : BlockId) → NamesBlock after x block → NamesBlock before x block
  was_names x block n = record { state = n.state; has = was_has x n.state n.has; named = n.named }

  -- named by what is left, or by that record alone
  loses : (block : BlockId) (state : FileState) → Contains (states_of file) state → Contains state.blocks block → NamesBlock after id block ⊎ Contains (only_at i file) block
  loses block state c k = by (names less block) refl
    where
      by : (b : Bool) → names less block ≡ b → NamesBlock after id block ⊎ Contains (only_at i file) block
      by true e = let found = names_so less block e in inl (record { state = found.0; has = record { file = less; row = one.here; is = found.1 }; named = found.2 })
      by false e = in-states file state c
          (λ cur. absurd (true_false (so_names less block file.current (current-in less) (subst (λ (s : FileState). Contains s.blocks block) cur k)) e))
          (λ r m s.
          let here : Contains r.state.blocks block = subst (λ (t : FileState). Contains t.blocks block) (sym s) k in
          ⊎_elim
          (λ l. absurd (true_false (so_names less block r.state (saved-in less r l) here) e))
          (λ at. inr (filter-in (λ b. not (names less b)) block (blocks_at file.records i) (subst (λ (bs : List BlockId). Contains bs block) at here) (ap not e)))
          (left_or file.records i r m))

  names_before : (block : BlockId) → Contains (only_at i file) block → NamesBlock before id block
  names_before block c =
      let found = at_in block file.records i (in-filter (λ b. not (names less b)) block (blocks_at file.records i) c).0 in
      record { state = found.0.state; has = has found.0.state (saved-in file found.0 found.1); named = found.2 }

  not_true : (b : Bool) → not b ≡ true → b ≡ true → ⊥
  not_true true h e = true_false h refl
  not_true false h e = true_false e refl

  pub record-gone : AreBlocks after store made (waiting ++ only_at i file)
  record-gone = handed before after (only_at i file) store made waiting (record {
    states = λ x state h. let o = was_has x state h in (are.files x state o, are.held x state o);
    names = was_names;
    lost = λ x block n. by_id x id
        (λ e. let same : n.has.file ≡ file = same-file (same_some (sym n.has.row ∙ ap (rows_at before) e ∙ was)) in
        ⊎_elim (λ still. inl (subst (λ (y : InodeId). NamesBlock after y block) (sym e) still)) (λ g. inr g)
        (loses block n.state (subst (λ (f : FileHistory). Contains (states_of f) n.state) same n.has.is) n.named))
        (λ ne. inl (record { state = n.state; has = had-one before after id (File less) one x n.state ne n.has; named = n.named }));
    named = λ block c. (id, names_before block c);
    free = λ x block c n.
        let same : x ≡ id = are.apart x id block (was_names x block n) (names_before block c) in
        let is : n.has.file ≡ less = same-file (same_some (sym n.has.row ∙ ap (rows_at after) same ∙ one.here)) in
        not_true (names less block) (in-filter (λ b. not (names less b)) block (blocks_at file.records i) c).1
        (so_names less block n.state (subst (λ (f : FileHistory). Contains (states_of f) n.state) is n.has.is) n.named);
    once = distinct-filter (λ b. not (names less b)) (blocks_at file.records i)
        (of_record (λ (bs : List BlockId). IsDistinct same_block bs) file.records i distinct-none (λ r c. (are.files id r.state (has r.state (saved-in file r c))).apart));
    no_more = no-more-one before after id (File less) one are.no_more (λ f saved block d c s k.
        subst (λ (g : FileHistory). Contains g.records saved → Contains g.current.blocks block → bytes_within saved.state.size saved.state.blocks block ≤ bytes_within g.current.size g.current.blocks block)
        (same-file d) (λ c2 k2. are.no_more id file saved block was (left_in file.records i saved c2) s k2) c k);
  }) are

pub merge-blocks : (t : Tabled) (id : InodeId) (i : ℕ) (store : Option BlockMap) (made : ℕ) (waiting : List BlockId)
    → AreBlocks t.rows store made (waiting ++ t.waiting) → AreBlocks (merged id i t).rows store made (waiting ++ (merged id i t).waiting)
merge-blocks t id i store made waiting are = by (row_at t.rows id) refl
  where
    one_merged : (row : RowState) → OneRow t.rows (all_named_less (ids_dropped i row.rows) (put id_order id (record row { rows = merged_rows i row.rows }) t.rows)) id (merged_rows i row.rows)
    one_merged row = let one = one-put t.rows id (record row { rows = merged_rows i row.rows }) in record {
      here = rows-all-less (ids_dropped i row.rows) id (put id_order id (record row { rows = merged_rows i row.rows }) t.rows) ∙ one.here;
      there = λ other ne. rows-all-less (ids_dropped i row.rows) other (put id_order id (record row { rows = merged_rows i row.rows }) t.rows) ∙ one.there other ne;
    }

    of_rows : (row : RowState) (rows : RowHistory) → row_at t.rows id ≡ Some row → row.rows ≡ rows
        → AreBlocks (all_named_less (ids_dropped i row.rows) (put id_order id (record row { rows = merged_rows i row.rows }) t.rows)) store made ((waiting ++ t.waiting) ++ blocks_dropped i rows)
    of_rows row (File file) e is =
        record-gone t.rows (all_named_less (ids_dropped i row.rows) (put id_order id (record row { rows = merged_rows i row.rows }) t.rows)) id i file
        (ap (option_map (λ (r : RowState). r.rows)) e ∙ ap (λ (r : RowHistory). Some r) is)
        (subst (λ (r : RowHistory). OneRow t.rows (all_named_less (ids_dropped i row.rows) (put id_order id (record row { rows = merged_rows i row.rows }) t.rows)) id (merged_rows i r)) is (one_merged row))
        store made (waiting ++ t.waiting) are
    of_rows row (Dir dir) e is =
        subst (AreBlocks (all_named_less (ids_dropped i row.rows) (put id_order id (record row { rows = merged_rows i row.rows }) t.rows)) store made) (sym (append-nil (waiting ++ t.waiting)))
        (dir-blocks t.rows (all_named_less (ids_dropped i row.rows) (put id_order id (record row { rows = merged_rows i row.rows }) t.rows)) id dir _
        (ap (option_map (λ (r : RowState). r.rows)) e ∙ ap (λ (r : RowHistory). Some r) is)
        (subst (λ (r : RowHistory). OneRow t.rows (all_named_less (ids_dropped i row.rows) (put id_order id (record row { rows = merged_rows i row.rows }) t.rows)) id (merged_rows i r)) is (one_merged row))
        store made (waiting ++ t.waiting) are)

    by : (o : Option RowState) → row_at t.rows id ≡ o → AreBlocks (merged_from id i (row_at t.rows id) t).rows store made (waiting ++ (merged_from id i (row_at t.rows id) t).waiting)
    by None e = subst (λ (o : Option RowState). AreBlocks (merged_from id i o t).rows store made (waiting ++ (merged_from id i o t).waiting)) (sym e) are
    by (Some row) e = subst (λ (o : Option RowState). AreBlocks (merged_from id i o t).rows store made (waiting ++ (merged_from id i o t).waiting)) (sym e)
        (subst (AreBlocks (all_named_less (ids_dropped i row.rows) (put id_order id (record row { rows = merged_rows i row.rows }) t.rows)) store made) (append_assoc waiting t.waiting (blocks_dropped i row.rows))
        (of_rows row row.rows e refl))

-- ---- a row goes

module _ (before after : Table) (id : InodeId) (none : rows_at after id ≡ None) (there : (other : InodeId) → other ≢ id → rows_at after other ≡ rows_at before other) where
  -- another row's
  not_gone : (x : InodeId) (state : FileState) → HasState after x state → x ≢ id
  not_gone x state has e = none_some (sym none ∙ ap (rows_at after) (sym e) ∙ has.row)

  gone_has : (x : InodeId) (state : FileState) → HasState after x state → HasState before x state
  gone_has x state has = record { file = has.file; row = sym (there x (not_gone x state has)) ∙ has.row; is = has.is }

  kept_has : (x : InodeId) (state : FileState) → x ≢ id → HasState before x state → HasState after x state
  kept_has x state ne has = record { file = has.file; row = there x ne ∙ has.row; is = has.is }

  gone_names : (x : InodeId) (block : BlockId) → NamesBlock after x block → NamesBlock before x block
  gone_names x block n = record { state = n.state; has = gone_has x n.state n.has; named = n.named }

  module _ (store : Option BlockMap) (made : ℕ) (waiting gone : List BlockId) (are : AreBlocks before store made waiting)
      (lost : (block : BlockId) → NamesBlock before id block → Contains gone block) (named : (block : BlockId) → Contains gone block → NamesBlock before id block) (once : IsDistinct same_block gone) where
    pub row-gone : AreBlocks after store made (waiting ++ gone)
    row-gone = handed before after gone store made waiting (record {
      states = λ x state h. let o = gone_has x state h in (are.files x state o, are.held x state o);
      names = gone_names;
      lost = λ x block n. by_id x id
          (λ e. inr (lost block (subst (λ (y : InodeId). NamesBlock before y block) e n)))
          (λ ne. inl (record { state = n.state; has = kept_has x n.state ne n.has; named = n.named }));
      named = λ block c. (id, named block c);
      free = λ x block c n. not_gone x n.state n.has (are.apart x id block (gone_names x block n) (named block c));
      once = once;
      no_more = λ x file saved block row c s k. by_id x id
          (λ e. absurd (none_some (sym none ∙ ap (rows_at after) (sym e) ∙ row)))
          (λ ne. are.no_more x file saved block (sym (there x ne) ∙ row) c s k);
    }) are

module _ (before : Table) (id : InodeId) (file : FileHistory) (was : rows_at before id ≡ Some (File file)) (store : Option BlockMap) (made : ℕ) (waiting : List BlockId) (are : AreBlocks before store made waiting) where
  file_has : (state : FileState) → Contains (states_of file) state → HasState before id state
  file_has state c = record { file = file; row = was; is = c }

  apart : AreApart file
  apart = record {
    current = λ block. times-distinct block file.current.blocks (are.files id file.current (file_has file.current (current-in file))).apart;
    saved = λ i block. of_record (λ (bs : List BlockId). times_block block bs ≤ 1) file.records i (omega arith)
        (λ r c. times-distinct block r.state.blocks (are.files id r.state (file_has r.state (saved-in file r c))).apart);
  }

  pub file-lost : (block : BlockId) → NamesBlock before id block → Contains (blocks_in (File file)) block
  file-lost block n =
      let same : n.has.file ≡ file = same-file (same_some (sym n.has.row ∙ was)) in
      let named = ap one_where (so_names file block n.state (subst (λ (f : FileHistory). Contains (states_of f) n.state) same n.has.is) n.named) in
      let all = blocks-once file block apart in
      in-times block (blocks_in (File file)) (omega (arith, named, all))

  pub file-named : (block : BlockId) → Contains (blocks_in (File file)) block → NamesBlock before id block
  file-named block c = by (names file block) refl
    where
      by : (b : Bool) → names file block ≡ b → NamesBlock before id block
      by true e = let found = names_so file block e in record { state = found.0; has = file_has found.0 found.1; named = found.2 }
      by false e = let some = times-in block (blocks_in (File file)) c in let all = blocks-once file block apart in let none = ap one_where e in absurd (omega (arith, some, all, none))

  pub file-once : IsDistinct same_block (blocks_in (File file))
  file-once = distinct-times (blocks_in (File file)) (λ block.
      let all = blocks-once file block apart in
      let few = at_most (names file block) in
      omega (arith, all, few))
    where
      at_most : (b : Bool) → one_where b ≤ 1
      at_most true = omega arith
      at_most false = omega arith

go_blocks : (t : Tabled) (id : InodeId) (row : RowState) (store : Option BlockMap) (made : ℕ) (waiting : List BlockId) → MayGo t.rows id row
    → AreBlocks t.rows store made (waiting ++ t.waiting) → AreBlocks (let_go id row.rows t).rows store made (waiting ++ (let_go id row.rows t).waiting)
go_blocks t id row store made waiting may are = subst (AreBlocks (let_go id row.rows t).rows store made) (append_assoc waiting t.waiting (blocks_in row.rows)) (by row.rows refl)
  where
    none : rows_at (let_go id row.rows t).rows id ≡ None
    none = rows-all-less (named_in row.rows) id (without_row id t.rows) ∙ ap (option_map (λ (r : RowState). r.rows)) (row-without-here id t.rows)

    there : (other : InodeId) → other ≢ id → rows_at (let_go id row.rows t).rows other ≡ rows_at t.rows other
    there other ne = rows-all-less (named_in row.rows) other (without_row id t.rows) ∙ ap (option_map (λ (r : RowState). r.rows)) (row_at-without id other t.rows ne)

    was : (rows : RowHistory) → row.rows ≡ rows → rows_at t.rows id ≡ Some rows
    was rows is = ap (option_map (λ (r : RowState). r.rows)) may.there ∙ ap (λ (r : RowHistory). Some r) is

    by : (rows : RowHistory) → row.rows ≡ rows → AreBlocks (let_go id row.rows t).rows store made ((waiting ++ t.waiting) ++ blocks_in rows)
    by (File file) is = row-gone t.rows (let_go id row.rows t).rows id none there store made (waiting ++ t.waiting) (blocks_in (File file)) are
        (file-lost t.rows id file (was (File file) is) store made (waiting ++ t.waiting) are) (file-named t.rows id file (was (File file) is) store made (waiting ++ t.waiting) are)
        (file-once t.rows id file (was (File file) is) store made (waiting ++ t.waiting) are)
    by (Dir dir) is = row-gone t.rows (let_go id row.rows t).rows id none there store made (waiting ++ t.waiting) [] are
        (λ block n. absurd (dir-file (same_some (sym (was (Dir dir) is) ∙ n.has.row))))
        (λ block c. absurd (in-none block c))
        distinct-none

gone_blocks : (before after : Tabled) (gone : List InodeId) (store : Option BlockMap) (made : ℕ) (waiting : List BlockId) → ReleasedBy before gone after
    → AreBlocks before.rows store made (waiting ++ before.waiting) → AreBlocks after.rows store made (waiting ++ after.waiting)
gone_blocks before after [] store made waiting same are = subst (λ (t : Tabled). AreBlocks t.rows store made (waiting ++ t.waiting)) (sym same) are
gone_blocks before after (id ∷ gone) store made waiting step are =
    gone_blocks (let_go id step.0.rows before) after gone store made waiting step.2 (go_blocks before id step.0 store made waiting step.1 are)

pub release-blocks : (before after : Tabled) (freed : Freed) (store : Option BlockMap) (made : ℕ) (waiting : List BlockId) → Releasing before freed after
    → AreBlocks before.rows store made (waiting ++ before.waiting) → AreBlocks after.rows store made (waiting ++ freed.blocks)
release-blocks before after freed store made waiting step are = gone_blocks before (record after { waiting = freed.blocks }) step.gone store made waiting step.steps are
