-- Blocks as a row changes without another body, comes, or gets other marks.
use Rattle.std.proofs.Common.{◌≡◌, ℕ, List, [], Option, Some, None, is_some, refl, sym, ap, subst, ◌∙◌, inl, ⊎_elim}
use Rattle.std.specs.Prelude.{◌≢◌}
use Rattle.std.specs.List.{Contains}
use Rattle.std.specs.Option.{option_map}
use Rattle.std.specs.FinMap.Entries.{put}
use Rattle.hs_types.specs.declared.ids.InodeId.{InodeId}
use Rattle.hs_types.specs.declared.ids.BlockId.{BlockId}
use Rattle.hs_types.specs.declared.name.Spot.{Spot}
use Rattle.hs_types.specs.Blocks.{BlockMap, IsFile, HoldsFile}
use Rattle.hs_plain.proofs.ValidShapes.{none_some, true_false}
use Rattle.file_changes.specs.declared.state.FileRecord.{FileRecord}
use Rattle.file_changes.specs.declared.state.FileState.{FileState}
use Rattle.file_changes.specs.History.{FileHistory}
use Rattle.inode_table.specs.declared.change.Change.{Change}
use Rattle.inode_table.specs.RowHistory.{RowHistory, RowState, File, Dir, Table, id_order, row_at, rows_at}
use Rattle.inode_table.specs.Tabled.{Tabled, changed, changed_row, changed_rows, begun_rows, begun_file, edited_file, recounted, recount_of, recount_in, put_changed, put_marks, marked_row, inserted, fresh_row}
use Rattle.inode_table.specs.Blocked.{AreBlocks, HasState, IsNeeded, HasNeeded, HoldsState, states_of}
use Rattle.inode_table.specs.Start.{first_table}
use Rattle.inode_table.proofs.Reading.{by_id}
use Rattle.table_laws.specs.Blocking.{IsBodiless, IsEmptyRows, HasNone}
use Rattle.table_laws.proofs.NamedTables.{row-put-here, row-put-there}
use Rattle.table_laws.proofs.NamedSteps.{rows-recount, row-so}
use Rattle.table_laws.proofs.NamedRows.{first-at}
use Rattle.table_laws.proofs.BlockLists.{in-none, distinct-none}
use Rattle.table_laws.proofs.BlockStates.{OneRow, handed-none, has-one, had-one, no-more-one, in-states, current-in, dir-file, dir-blocks, file-blocks, changed-saves, changed-size, changed-blocks}

-- ---- tables in which a row is another

pub one-put : (t : Table) (id : InodeId) (v : RowState) → OneRow t (put id_order id v t) id v.rows
one-put t id v = record {
  here = ap (option_map (λ (r : RowState). r.rows)) (row-put-here id v t);
  there = λ other ne. ap (option_map (λ (r : RowState). r.rows)) (row-put-there id other v t ne);
}

module _ (t : Tabled) (id : InodeId) (cover tick : ℕ) (what : Change) (row : RowState) (there : row_at t.rows id ≡ Some row) where
  pub changed-is : (changed id cover tick what t).rows ≡ recounted (recount_of what (begun_rows cover row.rows)) (put id_order id (changed_row cover tick what row) t.rows)
  changed-is = ap (λ (o : Option RowState). recounted (recount_in cover what o) (put_changed id cover tick what o t.rows)) there

  pub changed-one : OneRow t.rows (changed id cover tick what t).rows id (changed_rows cover tick what row.rows)
  changed-one =
      let one = one-put t.rows id (changed_row cover tick what row) in
      subst (λ (after : Table). OneRow t.rows after id (changed_rows cover tick what row.rows)) (sym changed-is) (record {
        here = rows-recount (put id_order id (changed_row cover tick what row) t.rows) (recount_of what (begun_rows cover row.rows)) id ∙ one.here;
        there = λ other ne. rows-recount (put id_order id (changed_row cover tick what row) t.rows) (recount_of what (begun_rows cover row.rows)) other ∙ one.there other ne;
      })

-- ---- another mode, spot or entry

pub quiet-blocks : (t : Tabled) (id : InodeId) (cover tick : ℕ) (what : Change) (store : Option BlockMap) (made : ℕ) (waiting : List BlockId) → IsBodiless what
    → AreBlocks t.rows store made waiting → AreBlocks (changed id cover tick what t).rows store made waiting
quiet-blocks t id cover tick what store made waiting quiet are = by (row_at t.rows id) refl
  where
    of_row : (row : RowState) (rows : RowHistory) → row_at t.rows id ≡ Some row → row.rows ≡ rows → AreBlocks (changed id cover tick what t).rows store made waiting
    of_row row (File file) there is =
        file-blocks t.rows (changed id cover tick what t).rows id file (edited_file tick what (begun_file cover file)) (ap (option_map (λ (r : RowState). r.rows)) there ∙ ap (λ (r : RowHistory). Some r) is)
        (subst (λ (r : RowHistory). OneRow t.rows (changed id cover tick what t).rows id (changed_rows cover tick what r)) is (changed-one t id cover tick what row there))
        (changed-saves cover tick what file) (changed-size cover tick what file quiet) (changed-blocks cover tick what file quiet) store made waiting are
    of_row row (Dir dir) there is =
        dir-blocks t.rows (changed id cover tick what t).rows id dir _ (ap (option_map (λ (r : RowState). r.rows)) there ∙ ap (λ (r : RowHistory). Some r) is)
        (subst (λ (r : RowHistory). OneRow t.rows (changed id cover tick what t).rows id (changed_rows cover tick what r)) is (changed-one t id cover tick what row there))
        store made waiting are

    by : (o : Option RowState) → row_at t.rows id ≡ o → AreBlocks (changed id cover tick what t).rows store made waiting
    by None e = subst (λ (after : Table). AreBlocks after store made waiting) (sym (ap (λ (o : Option RowState). recounted (recount_in cover what o) (put_changed id cover tick what o t.rows)) e)) are
    by (Some row) e = of_row row row.rows e refl

-- ---- the same rows

module _ (before after : Table) (same : (x : InodeId) → rows_at after x ≡ rows_at before x) (store : Option BlockMap) (made : ℕ) (waiting : List BlockId) (are : AreBlocks before store made waiting) where
  back : (x : InodeId) (state : FileState) → HasState after x state → HasState before x state
  back x state has = record { file = has.file; row = sym (same x) ∙ has.row; is = has.is }

  on : (x : InodeId) (state : FileState) → HasState before x state → HasState after x state
  on x state has = record { file = has.file; row = same x ∙ has.row; is = has.is }

  pub same-blocks : AreBlocks after store made waiting
  same-blocks = handed-none before after store made waiting (record {
    states = λ x state has. (are.files x state (back x state has), are.held x state (back x state has));
    names = λ x block n. record { state = n.state; has = back x n.state n.has; named = n.named };
    lost = λ x block n. inl (record { state = n.state; has = on x n.state n.has; named = n.named });
    named = λ block c. absurd (in-none block c);
    free = λ x block c n. in-none block c;
    once = distinct-none;
    no_more = λ x file saved block row c s k. are.no_more x file saved block (sym (same x) ∙ row) c s k;
  }) are

pub mark-blocks : (t : Tabled) (id : InodeId) (since carry : ℕ) (store : Option BlockMap) (made : ℕ) (waiting : List BlockId)
    → AreBlocks t.rows store made waiting → AreBlocks (marked_row id since carry t).rows store made waiting
mark-blocks t id since carry store made waiting are = by (row_at t.rows id) refl
  where
    by : (o : Option RowState) → row_at t.rows id ≡ o → AreBlocks (put_marks id since carry o t.rows) store made waiting
    by None e = are
    by (Some row) e =
        let one = one-put t.rows id (record row { since = since; carry = carry }) in
        same-blocks t.rows (put id_order id (record row { since = since; carry = carry }) t.rows)
        (λ x. by_id x id
        (λ same. subst (λ (y : InodeId). rows_at (put id_order id (record row { since = since; carry = carry }) t.rows) y ≡ rows_at t.rows y) (sym same) (one.here ∙ sym (ap (option_map (λ (r : RowState). r.rows)) e)))
        (λ ne. one.there x ne))
        store made waiting are

-- ---- a new row

empty_file : IsFile 0 []
empty_file = record { least = refl; apart = distinct-none }

holds_none : (store : Option BlockMap) (state : FileState) → state.blocks ≡ [] → HoldsState store state
holds_none None state none = tt
holds_none (Some map) state none = subst (λ (bs : List BlockId). HoldsFile map state.size bs) (sym none) tt

module _ (t : Tabled) (id : InodeId) (rows : RowHistory) (since : ℕ) (store : Option BlockMap) (made : ℕ) (waiting : List BlockId) (free : row_at t.rows id ≡ None) (empty : IsEmptyRows rows) (are : AreBlocks t.rows store made waiting) where
  abbrev came : Table
  came = put id_order id (fresh_row rows since) t.rows

  one : OneRow t.rows came id rows
  one = one-put t.rows id (fresh_row rows since)

  -- the only state of a new file
  only : (file : FileHistory) (state : FileState) → rows ≡ File file → Contains (states_of file) state → (state.size ≡ 0) × (state.blocks ≡ [])
  only file state is c =
      let none = subst IsEmptyRows is empty in
      in-states file state c
      (λ e. (ap (λ (s : FileState). s.size) e ∙ none.1, ap (λ (s : FileState). s.blocks) e ∙ none.2))
      (λ r k e. absurd (in-none r (subst (λ (rs : List FileRecord). Contains rs r) none.0 k)))

  not_there : (x : InodeId) (state : FileState) → HasState t.rows x state → x ≢ id
  not_there x state has e = none_some (sym (ap (option_map (λ (r : RowState). r.rows)) free) ∙ ap (rows_at t.rows) (sym e) ∙ has.row)

  pub insert-blocks : AreBlocks (inserted id rows since t).rows store made waiting
  insert-blocks = handed-none t.rows came store made waiting (record {
    states = λ x state has. has-one t.rows came id rows one x state has
        (λ file e is c. let none = only file state is c in
        (subst (λ (n : ℕ). IsFile n state.blocks) (sym none.0) (subst (λ (bs : List BlockId). IsFile 0 bs) (sym none.1) empty_file), holds_none store state none.1))
        (λ ne was. (are.files x state was, are.held x state was));
    names = λ x block n. has-one t.rows came id rows one x n.state n.has
        (λ file e is c. let none = only file n.state is c in absurd (in-none block (subst (λ (bs : List BlockId). Contains bs block) none.1 n.named)))
        (λ ne was. record { state = n.state; has = was; named = n.named });
    lost = λ x block n. inl (record { state = n.state; has = had-one t.rows came id rows one x n.state (not_there x n.state n.has) n.has; named = n.named });
    named = λ block c. absurd (in-none block c);
    free = λ x block c n. in-none block c;
    once = distinct-none;
    no_more = no-more-one t.rows came id rows one are.no_more (λ file saved block is c s k.
        let none = subst IsEmptyRows is empty in absurd (in-none saved (subst (λ (rs : List FileRecord). Contains rs saved) none.0 c)));
  }) are

-- ---- the first table

module _ (spot : Spot) where
  no_state : (x : InodeId) (state : FileState) → HasState (first_table spot).rows x state → ⊥
  no_state x state has =
      let r = row-so (first_table spot).rows x (File has.file) has.row in
      dir-file (sym (ap (λ (s : RowState). s.rows) (first-at spot x r.0 r.1).1) ∙ r.2)

  first_stored : (store : Option BlockMap) → HasNone store → HasNeeded store (IsNeeded (first_table spot).rows [])
  first_stored None none = tt
  first_stored (Some map) none = λ block. (
    λ some. absurd (true_false some (ap is_some (none block))),
    λ need. ⊎_elim (λ w. absurd (in-none block w)) (λ n. absurd (no_state n.0 n.1.state n.1.has)) need,
  )

  pub start-blocks : (store : Option BlockMap) (made : ℕ) → HasNone store → AreBlocks (first_table spot).rows store made []
  start-blocks store made none = record {
    files = λ x state has. absurd (no_state x state has);
    held = λ x state has. absurd (no_state x state has);
    apart = λ a b block m n. absurd (no_state a m.state m.has);
    no_more = λ x file saved block row c s k. absurd (no_state x file.current (record { file = file; row = row; is = current-in file }));
    once = distinct-none;
    let_go = λ x block w n. in-none block w;
    stored = first_stored store none;
    numbers = λ block need. ⊎_elim (λ w. absurd (in-none block w)) (λ n. absurd (no_state n.0 n.1.state n.1.has)) need;
  }
