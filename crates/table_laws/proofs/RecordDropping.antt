-- A snapshot is gone, and its rows are looked at in turn.
use Rattle.std.proofs.Common.{◌≡◌, ℕ, zero, suc, ◌<◌, ◌≤◌, true, false, List, [], ◌∷◌, Option, Some, None, length, refl, sym, ap, subst, ◌∙◌, inl, inr, ⊎_elim, arith}
use Rattle.std.specs.Prelude.{◌≢◌, ◌⊎◌, ◌==◌, not, remove}
use Rattle.std.specs.List.{Contains}
use Rattle.std.specs.Option.{option_map}
use Rattle.std.proofs.lemmas.Bool.Decides.{Decides-eqb}
use Rattle.hs_types.specs.declared.ids.InodeId.{InodeId}
use Rattle.hs_plain.specs.declared.state.Member.{Member}
use Rattle.hs_plain.specs.declared.state.State.{State}
use Rattle.hs_plain.specs.declared.state.FileBlocks.{FileBlocks}
use Rattle.hs_plain.specs.Change.{unsnapped, is_snapshot}
use Rattle.hs_plain.proofs.ValidShapes.{none_some, same_some, true_false}
use Rattle.dir_changes.proofs.OrderLaws.{sound-combined}
use Rattle.inode_table.specs.Indexed.{Index, IsRising, made_between}
use Rattle.inode_table.specs.Kept.{AreSound}
use Rattle.inode_table.specs.Merged.{merged_rows, merged_from, merged, MergesOne}
use Rattle.inode_table.specs.Records.{Recorded, Loses, before_at, at_or}
use Rattle.inode_table.specs.RowHistory.{RowHistory, RowState, File, Dir, row_at, rows_at, is_live_between}
use Rattle.inode_table.specs.Tabled.{Tabled}
use Rattle.inode_table.specs.Whole.{IsIndexed, numbers_in, IsFilled}
use Rattle.inode_table.proofs.Combining.{merged-one}
use Rattle.inode_table.proofs.Reading.{by_id}
use Rattle.inode_table.proofs.Recording.{witness, between, not_between, lose}
use Rattle.table_laws.specs.Recording.{IsRecorded}
use Rattle.table_laws.specs.RecordDropping.{KeepsOrLoses, AreLeft, IsGone}
use Rattle.table_laws.proofs.RecordElements.{at_head, at_later, by_first, not_empty, in_filter, from_filter}
use Rattle.table_laws.proofs.RecordIndex.{merged-found}
use Rattle.table_laws.proofs.RecordNumbers.{last_so, each-within, last-one, in_removed}
use Rattle.table_laws.proofs.Recording.{indexed-among}

-- ---- one record among others

contains_at : (ns : List ℕ) (i : ℕ) → i < length ns → Contains ns (at_or ns i)
contains_at [] i lt = absurd (omega (arith, lt))
contains_at (n ∷ ns) zero lt = at_head n ns
contains_at (n ∷ ns) (suc i) lt = at_later n ns (at_or ns i) (contains_at ns i (omega (arith, lt)))

live_at : (members : List (Member FileBlocks)) (low : ℕ) (ns : List ℕ) (i : ℕ) → i < length ns → Recorded members low ns → is_live_between members (before_at low ns i) (at_or ns i) ≡ true
live_at members low [] i lt rec = absurd (omega (arith, lt))
live_at members low (n ∷ ns) zero lt rec = rec.1
live_at members low (n ∷ ns) (suc i) lt rec = live_at members n ns i (omega (arith, lt)) rec.2

-- without the first record, the second one's interval begins at the first one's; so where the first had no live id, the second has one of its own
second_live : (members : List (Member FileBlocks)) (low n next : ℕ) → is_live_between members low n ≡ false → is_live_between members low next ≡ true → is_live_between members n next ≡ true
second_live members low n next none some =
    let w = witness members low next some in
    let above = w.above in
    between members n next (record { m = w.m; is_live = w.is_live; above = ⊎_elim (λ le. absurd (omega (arith, le, above))) (λ lt. lt) (not_between members low n none w.m w.is_live); upto = w.upto })

-- at most one record has no live id in its interval, where taking one away leaves none without
one_lost : (fewer : List (Member FileBlocks)) (low : ℕ) (ns : List ℕ) (i j : ℕ) → i < length ns → j < length ns → is_live_between fewer (before_at low ns i) (at_or ns i) ≡ false
    → is_live_between fewer (before_at low ns j) (at_or ns j) ≡ false → Recorded fewer low (remove ns j) → j ≡ i
one_lost fewer low [] i j lt _ none lost rest = absurd (omega (arith, lt))
one_lost fewer low (n ∷ ns) zero zero _ _ none lost rest = refl
one_lost fewer low (n ∷ ns) zero (suc j) _ _ none lost rest = absurd (true_false rest.1 none)
one_lost fewer low (n ∷ []) (suc i) zero lt _ none lost rest = absurd (omega (arith, lt))
one_lost fewer low (n ∷ next ∷ ns) (suc zero) zero _ _ none lost rest = absurd (true_false (second_live fewer low n next lost rest.1) none)
one_lost fewer low (n ∷ next ∷ ns) (suc (suc i)) zero lt _ none lost rest = absurd (true_false (live_at fewer next ns i (omega (arith, lt)) rest.2) none)
one_lost fewer low (n ∷ ns) (suc i) (suc j) lt lj none lost rest = ap suc (one_lost fewer n ns i j (omega (arith, lt)) (omega (arith, lj)) none lost rest.2)

pub which-lost : (fewer : List (Member FileBlocks)) (ns : List ℕ) (i : ℕ) → i < length ns → is_live_between fewer (before_at 0 ns i) (at_or ns i) ≡ false
    → Recorded fewer 0 ns ⊎ Loses fewer 0 ns → (lost : Loses fewer 0 ns) × (lost.i ≡ i)
which-lost fewer ns i lt none = ⊎_elim
    (λ rec. absurd (true_false (live_at fewer 0 ns i lt rec) none))
    (λ lost. (lost, one_lost fewer 0 ns i lost.i lt lost.within none lost.none lost.rest))

pub none-lost : (fewer : List (Member FileBlocks)) (ns : List ℕ) → ((i : ℕ) → i < length ns → is_live_between fewer (before_at 0 ns i) (at_or ns i) ≡ true) → Recorded fewer 0 ns ⊎ Loses fewer 0 ns → Recorded fewer 0 ns
none-lost fewer ns all = ⊎_elim (λ rec. rec) (λ lost. absurd (true_false (all lost.i lost.within) lost.none))

-- ---- a snapshot is gone

-- the interval that was lost held the snapshot
held : (members fewer : List (Member FileBlocks)) (gone : Member FileBlocks) (ns : List ℕ) → IsGone members fewer gone → Recorded members 0 ns → (lost : Loses fewer 0 ns) → gone.snapshot.0 ≤ at_or ns lost.i
held members fewer gone ns is rec lost =
    let w = witness members (before_at 0 ns lost.i) (at_or ns lost.i) (live_at members 0 ns lost.i lost.within rec) in
    elim (w.m.snapshot.0 == gone.snapshot.0) as (λ b. (w.m.snapshot.0 == gone.snapshot.0) ≡ b → gone.snapshot.0 ≤ at_or ns lost.i) [
      | true ↦ λ t. let same = (Decides-eqb w.m.snapshot.0 gone.snapshot.0).0 t in let upto = w.upto in omega (arith, same, upto)
      | false ↦ λ t. absurd (true_false
          (between fewer (before_at 0 ns lost.i) (at_or ns lost.i) (record { m = w.m; is_live = is.left w.m w.is_live (λ e. true_false ((Decides-eqb w.m.snapshot.0 gone.snapshot.0).1 e) t); above = w.above; upto = w.upto }))
          lost.none)
    ] refl

pub records-gone : (t : Tabled) (members fewer : List (Member FileBlocks)) (issued tick used : ℕ) (gone : Member FileBlocks)
    → IsGone members fewer gone → IsFilled t.index tick used → IsRecorded t members issued → AreLeft t fewer issued (made_between gone.tick tick t.rows t.index)
records-gone t members fewer issued tick used gone is filled are = record {
  numbers = λ x rows h. ⊎_elim
      (λ rec. inl rec)
      (λ lost. inr (
        lost,
        merged-found t.rows t.index members issued tick used gone x rows (at_or (numbers_in rows) lost.i) are filled is.was h (contains_at (numbers_in rows) lost.i lost.within)
            (held members fewer gone (numbers_in rows) is (are.numbers x rows h) lost),
      ))
      (lose members fewer gone.snapshot.0 (numbers_in rows) is.left (are.numbers x rows h));
  within = λ x rows n h has.
      let most = each-within members 0 (numbers_in rows) n (are.numbers x rows h) has in
      let last = last_so rows in
      let upto = are.within x rows h in
      omega (arith, most, last, upto);
  undoable = are.undoable;
  rising = are.rising;
  indexed = λ x rows n h has. indexed-among t.index members fewer x n is.fewer_among (are.indexed x rows n h has);
}

pub is-gone : (state : State FileBlocks) (gone : Member FileBlocks) → Contains state.members gone → IsGone state.members (unsnapped state gone.snapshot).members gone
is-gone state gone was = record {
  was = was;
  fewer_among = λ m c. (m, from_filter (λ o. not (is_snapshot gone.snapshot o)) state.members m c, record { snapshot = refl; tick = refl; tree = refl });
  left = λ m c apart. in_filter (λ o. not (is_snapshot gone.snapshot o)) state.members m c (other m apart);
}
  where
    other : (m : Member FileBlocks) → m.snapshot.0 ≢ gone.snapshot.0 → not (is_snapshot gone.snapshot m) ≡ true
    other m apart = elim (m.snapshot.0 == gone.snapshot.0) as (λ b. (m.snapshot.0 == gone.snapshot.0) ≡ b → not b ≡ true) [
      | true ↦ λ t. absurd (apart ((Decides-eqb m.snapshot.0 gone.snapshot.0).0 t))
      | false ↦ λ _. refl
    ] refl

-- ---- a row is looked at

-- a row that is not the one that was looked at is as before
keeps_other : (fewer : List (Member FileBlocks)) (id x : InodeId) (todo : List InodeId) (rows : RowHistory) → x ≢ id → KeepsOrLoses fewer (id ∷ todo) x rows → KeepsOrLoses fewer todo x rows
keeps_other fewer id x todo rows apart = ⊎_elim (λ rec. inl rec) (λ k. inr (k.0, by_first id todo x k.1 (λ e. absurd (apart (sym e))) (λ c. c)))

pub merge-index : (t : Tabled) (id : InodeId) (i : ℕ) → (merged id i t).index ≡ t.index
merge-index t id i = by (row_at t.rows id)
  where
    by : (o : Option RowState) → (merged_from id i o t).index ≡ t.index
    by None = refl
    by (Some row) = refl

sound_merged : (i : ℕ) (rows : RowHistory) → AreSound rows → AreSound (merged_rows i rows)
sound_merged i (File file) sound = tt
sound_merged i (Dir dir) sound = sound-combined dir sound i

module _ (t : Tabled) (fewer : List (Member FileBlocks)) (issued : ℕ) (id : InodeId) (todo : List InodeId) (row : RowState) (there : row_at t.rows id ≡ Some row) (lost : Loses fewer 0 (numbers_in row.rows))
    (are : AreLeft t fewer issued (id ∷ todo)) where
  was : rows_at t.rows id ≡ Some row.rows
  was = ap (option_map (λ (r : RowState). r.rows)) there

  sound : AreSound row.rows
  sound = by row.rows was
    where
      by : (rows : RowHistory) → rows_at t.rows id ≡ Some rows → AreSound rows
      by (File file) h = tt
      by (Dir dir) h = are.undoable id dir h

  one : MergesOne t.rows (merged id lost.i t).rows id lost.i row.rows (merged_rows lost.i row.rows)
  one = merged-one t id lost.i row there sound lost.within

  by_row : {P : Type 0} (x : InodeId) (rows : RowHistory) → rows_at (merged id lost.i t).rows x ≡ Some rows → (x ≡ id → merged_rows lost.i row.rows ≡ rows → P) → (x ≢ id → rows_at t.rows x ≡ Some rows → P) → P
  by_row x rows h same other = by_id x id
      (λ e. same e (same_some (sym one.here ∙ ap (rows_at (merged id lost.i t).rows) (sym e) ∙ h)))
      (λ apart. other apart (sym (one.there x apart) ∙ h))

  -- the numbers that are left were there
  left : (rows : RowHistory) (n : ℕ) → merged_rows lost.i row.rows ≡ rows → Contains (numbers_in rows) n → Contains (numbers_in row.rows) n
  left rows n same has = in_removed (numbers_in row.rows) lost.i n (subst (λ (ns : List ℕ). Contains ns n) (ap numbers_in (sym same) ∙ one.numbers) has)

  pub records-merged : AreLeft (merged id lost.i t) fewer issued todo
  records-merged = record {
    numbers = λ x rows h. by_row x rows h
        (λ _ same. inl (subst (λ (ns : List ℕ). Recorded fewer 0 ns) (sym one.numbers ∙ ap numbers_in same) lost.rest))
        (λ apart k. keeps_other fewer id x todo rows apart (are.numbers x rows k));
    within = λ x rows n h has. by_row x rows h (λ _ same. are.within id row.rows n was (left rows n same has)) (λ _ k. are.within x rows n k has);
    undoable = λ x dir h. by_row x (Dir dir) h (λ _ same. subst AreSound same (sound_merged lost.i row.rows sound)) (λ _ k. are.undoable x dir k);
    rising = subst IsRising (sym (merge-index t id lost.i)) are.rising;
    indexed = λ x rows n h has. subst (λ (index : Index). IsIndexed index fewer x n) (sym (merge-index t id lost.i)) (by_row x rows h
        (λ e same. subst (λ (y : InodeId). IsIndexed t.index fewer y n) (sym e) (are.indexed id row.rows n was (left rows n same has)))
        (λ _ k. are.indexed x rows n k has));
  }

-- a row of the table
some_row : (t : Tabled) (id : InodeId) (rows : RowHistory) → rows_at t.rows id ≡ Some rows → (row : RowState) × (row_at t.rows id ≡ Some row) × (row.rows ≡ rows)
some_row t id rows h = by (row_at t.rows id) refl h
  where
    by : (o : Option RowState) → row_at t.rows id ≡ o → option_map (λ (r : RowState). r.rows) o ≡ Some rows → (row : RowState) × (row_at t.rows id ≡ Some row) × (row.rows ≡ rows)
    by None e k = absurd (none_some k)
    by (Some row) e k = (row, e, same_some k)

pub records-kept : (t : Tabled) (fewer : List (Member FileBlocks)) (issued : ℕ) (id : InodeId) (todo : List InodeId)
    → ((row : RowState) → row_at t.rows id ≡ Some row → Recorded fewer 0 (numbers_in row.rows)) → AreLeft t fewer issued (id ∷ todo) → AreLeft t fewer issued todo
records-kept t fewer issued id todo keeps are = record {
  numbers = λ x rows h. by_id x id
      (λ e. let row = some_row t id rows (ap (rows_at t.rows) (sym e) ∙ h) in inl (subst (λ (r : RowHistory). Recorded fewer 0 (numbers_in r)) row.2 (keeps row.0 row.1)))
      (λ apart. keeps_other fewer id x todo rows apart (are.numbers x rows h));
  within = are.within;
  undoable = are.undoable;
  rising = are.rising;
  indexed = are.indexed;
}

pub records-left : (t : Tabled) (fewer : List (Member FileBlocks)) (issued : ℕ) → AreLeft t fewer issued [] → IsRecorded t fewer issued
records-left t fewer issued are = record {
  numbers = λ x rows h. ⊎_elim (λ rec. rec) (λ k. not_empty x k.1) (are.numbers x rows h);
  within = λ x rows h. let last = last_so rows in let most = last-one 0 (numbers_in rows) issued (omega arith) (λ n c. are.within x rows n h c) in omega (arith, last, most);
  undoable = are.undoable;
  rising = are.rising;
  indexed = are.indexed;
}
