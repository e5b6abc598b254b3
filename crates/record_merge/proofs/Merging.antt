-- One row is looked at, and each row of a list in turn.
use Rattle.std.proofs.Common.{◌≡◌, ℕ, ◌+◌, ◌<◌, ◌≤◌, Bool, nat_eq, inl, inr, true, false, List, [], ◌∷◌, Option, Some, None, length, drop, get_or, refl, sym, ap, subst, ◌∙◌, arith}
use Rattle.std.specs.Prelude.{◌≢◌, ◌⊎◌}
use Rattle.std.specs.List.{Contains}
use Rattle.std.specs.Option.{option_map}
use Rattle.std.proofs.lemmas.Bool.Decides.{Decides-eqb}
use Rattle.std.proofs.lemmas.List.{at_drop_more, at_drop_all}
use Rattle.hs_types.specs.declared.ids.InodeId.{InodeId}
use Rattle.hs_plain.specs.declared.state.Member.{Member}
use Rattle.hs_plain.specs.declared.state.FileBlocks.{FileBlocks}
use Rattle.hs_plain.proofs.ValidShapes.{none_some, same_some, true_false}
use Rattle.snapshot_manager.specs.Snapshots.{Snapshots, IsProper}
use Rattle.inode_table.specs.declared.row.Row.{Row}
use Rattle.inode_table.specs.Joined.{AreTold}
use Rattle.inode_table.specs.Kept.{TableValue, told, rows_in}
use Rattle.inode_table.specs.Merged.{merged, CanMerge, IsMergeable, IsRowMergeable}
use Rattle.inode_table.specs.Numbered.{row_of, history_of, state_of}
use Rattle.inode_table.specs.Records.{Recorded, Loses, before_at, at_or}
use Rattle.inode_table.specs.RowHistory.{RowState, row_at, is_live_between}
use Rattle.inode_table.specs.Tabled.{Tabled}
use Rattle.inode_table.specs.Whole.{numbers_in}
use Rattle.inode_table.proofs.Telling.{row-told}
use Rattle.table_laws.specs.RecordDropping.{AreLeft}
use Rattle.table_laws.specs.RecordDropped.{MergesLost, StaysAlike, LooksAt}
use Rattle.table_laws.proofs.RecordDropping.{records-merged, records-kept, which-lost, none-lost}
use Rattle.table_laws.proofs.RecordElements.{at_later}
use Rattle.table_laws.proofs.RecordTold.{numbers-count, live-told}
use Rattle.record_merge.specs.Dropping.{AreRising, lives, IsLostOf, AllLiveOf}
use Rattle.record_merge.proofs.Once.{rise-apart}

-- ---- the records of a row

-- one interval more has a live id
pub live-more : (snaps : Snapshots) (ns : List ℕ) (i low number : ℕ) → before_at 0 ns i ≡ low → at_or ns i ≡ number → lives snaps low number ≡ true
    → ((j : ℕ) → j < i → lives snaps (before_at 0 ns j) (at_or ns j) ≡ true) → (j : ℕ) → j < i + 1 → lives snaps (before_at 0 ns j) (at_or ns j) ≡ true
live-more snaps ns i low number from to here before j lt = by (nat_eq j i) refl
  where
    by : (b : Bool) → nat_eq j i ≡ b → lives snaps (before_at 0 ns j) (at_or ns j) ≡ true
    by true e = let same : j ≡ i = (Decides-eqb j i).0 e in
        ap (λ k. lives snaps (before_at 0 ns k) (at_or ns k)) same ∙ ap (λ n. lives snaps n (at_or ns i)) from ∙ ap (lives snaps low) to ∙ here
    by false e = before j (let apart : j ≡ i → ⊥ = λ same. true_false ((Decides-eqb j i).1 same) e in omega (arith, lt, apart))

-- ---- one row

pub can-merge : (value : TableValue) (snaps : Snapshots) (id : InodeId) (i : ℕ) → IsLostOf snaps (row_of value.rows id) i → IsRowMergeable (row_of value.rows id) → 0 < value.room.blocks → CanMerge value id i
can-merge value snaps id i lost prepared room = by (row_of value.rows id) refl lost prepared
  where
    by : (o : Option Row) → row_of value.rows id ≡ o → IsLostOf snaps o i → IsRowMergeable o → CanMerge value id i
    by None e none p = absurd none
    by (Some row) e one p = record { row = row; there = e; has = (let lt = one.within in let same = numbers-count (history_of row.rows) in omega (arith, lt, same)); prepared = p; room = room }

-- a row's records keep the rule, or lose one
keeps_or : (value : TableValue) (fewer : List (Member FileBlocks)) (issued : ℕ) (id : InodeId) (todo : List InodeId) (row : RowState) → row_at (told value).rows id ≡ Some row → AreLeft (told value) fewer issued todo
    → Recorded fewer 0 (numbers_in row.rows) ⊎ Loses fewer 0 (numbers_in row.rows)
keeps_or value fewer issued id todo row there left = by (left.numbers id row.rows (ap (option_map (λ (r : RowState). r.rows)) there))
  where
    by : Recorded fewer 0 (numbers_in row.rows) ⊎ (Loses fewer 0 (numbers_in row.rows) × Contains todo id) → Recorded fewer 0 (numbers_in row.rows) ⊎ Loses fewer 0 (numbers_in row.rows)
    by (inl rec) = inl rec
    by (inr lost) = inr lost.0

module _ (value : TableValue) (snaps : Snapshots) (id : InodeId) (proper : IsProper snaps) (fewer : List (Member FileBlocks)) (issued : ℕ) (todo : List InodeId) (are : AreTold fewer snaps) (left : AreLeft (told value) fewer issued todo) where
  same_live : (low high : ℕ) → lives snaps low high ≡ is_live_between fewer low high
  same_live low high = live-told fewer snaps (record { 0 = low }) (record { 0 = high }) proper are

  -- as the memory tells it
  in_table : (o : Option Row) → row_of value.rows id ≡ o → row_at (told value).rows id ≡ option_map state_of o
  in_table o e = row-told value.rows id ∙ ap (option_map state_of) e

  pub lost-merged : (i : ℕ) (after : Tabled) → IsLostOf snaps (row_of value.rows id) i → after ≡ merged id i (told value) → MergesLost fewer id (told value) after
  lost-merged i after lost is = by (row_of value.rows id) refl lost
    where
      by : (o : Option Row) → row_of value.rows id ≡ o → IsLostOf snaps o i → MergesLost fewer id (told value) after
      by None e none = absurd none
      by (Some row) e one =
          let w = which-lost fewer (numbers_in (history_of row.rows)) i one.within (sym (same_live (before_at 0 (numbers_in (history_of row.rows)) i) (at_or (numbers_in (history_of row.rows)) i)) ∙ one.none)
          (keeps_or value fewer issued id todo (state_of row) (in_table (Some row) e) left) in
          record { row = state_of row; there = in_table (Some row) e; lost = w.0; is = is ∙ ap (λ n. merged id n (told value)) (sym w.1) }

  pub live-stays : (after : Tabled) → AllLiveOf snaps (row_of value.rows id) → after ≡ told value → StaysAlike fewer id (told value) after
  live-stays after all is = record { keeps = by (row_of value.rows id) refl all; is = is }
    where
      by : (o : Option Row) → row_of value.rows id ≡ o → AllLiveOf snaps o → (row : RowState) → row_at (told value).rows id ≡ Some row → Recorded fewer 0 (numbers_in row.rows)
      by None e none row there = absurd (none_some (sym (in_table None e) ∙ there))
      by (Some r) e each row there = none-lost fewer (numbers_in row.rows)
          (subst (λ (q : RowState). (i : ℕ) → i < length (numbers_in q.rows) → is_live_between fewer (before_at 0 (numbers_in q.rows) i) (at_or (numbers_in q.rows) i) ≡ true) (same_some (sym (in_table (Some r) e) ∙ there))
          (λ i lt. sym (same_live (before_at 0 (numbers_in (history_of r.rows)) i) (at_or (numbers_in (history_of r.rows)) i)) ∙ each i lt))
          (keeps_or value fewer issued id todo row there left)

-- ---- each in turn

pub still-mergeable : (a b : Option Row) → rows_in b ≡ rows_in a → IsRowMergeable a → IsRowMergeable b
still-mergeable None None e p = tt
still-mergeable None (Some b) e p = absurd (none_some (sym e))
still-mergeable (Some a) None e p = absurd (none_some e)
still-mergeable (Some a) (Some b) e p = subst IsMergeable (sym (same_some e)) p

-- what is left to be looked at, on the way from one table to another
pub record StillLooks (fewer : List (Member FileBlocks)) (issued : ℕ) (ids : List InodeId) (before : Tabled) (todo : List InodeId) (now : Tabled) : Type 0 where
  pub left : AreLeft now fewer issued todo
  pub on : (after : Tabled) → LooksAt fewer todo now after → LooksAt fewer ids before after

pub looks-first : (fewer : List (Member FileBlocks)) (issued : ℕ) (ids : List InodeId) (before : Tabled) → AreLeft before fewer issued ids → StillLooks fewer issued ids before ids before
looks-first fewer issued ids before left = record { left = left; on = λ after looks. looks }

pub looks-next : (fewer : List (Member FileBlocks)) (issued : ℕ) (ids : List InodeId) (before : Tabled) (id : InodeId) (todo : List InodeId) (now then : Tabled) → StillLooks fewer issued ids before (id ∷ todo) now
    → MergesLost fewer id now then ⊎ StaysAlike fewer id now then → StillLooks fewer issued ids before todo then
looks-next fewer issued ids before id todo now then still (inl m) = record {
  left = subst (λ (t : Tabled). AreLeft t fewer issued todo) (sym m.is) (records-merged now fewer issued id todo m.row m.there m.lost still.left);
  on = λ after looks. still.on after (then, inl m, looks);
}
looks-next fewer issued ids before id todo now then still (inr s) = record {
  left = subst (λ (t : Tabled). AreLeft t fewer issued todo) (sym s.is) (records-kept now fewer issued id todo s.keeps still.left);
  on = λ after looks. still.on after (then, inr s, looks);
}

pub rising-rest : (id : InodeId) (ids : List InodeId) → AreRising (id ∷ ids) → AreRising ids
rising-rest id [] rise = tt
rising-rest id (next ∷ ids) rise = rise.1

-- another row of the list is still prepared
pub rest-mergeable : (before after : TableValue) (id : InodeId) (ids : List InodeId) → AreRising (id ∷ ids) → ((x : InodeId) → Contains (id ∷ ids) x → IsRowMergeable (row_of before.rows x))
    → ((other : InodeId) → other ≢ id → rows_in (row_of after.rows other) ≡ rows_in (row_of before.rows other)) → (x : InodeId) → Contains ids x → IsRowMergeable (row_of after.rows x)
rest-mergeable before after id ids rise all there x c =
    still-mergeable (row_of before.rows x) (row_of after.rows x) (there x (λ same. let lt = rise-apart id.0 ids x rise c in let e = ap (λ (i : InodeId). i.0) same in omega (arith, lt, e))) (all x (at_later id ids x c))

-- ---- on to the next row of a list

module _ (ids : List InodeId) (i : ℕ) (d : InodeId) (lt : i < length ids) where
  next_one : drop i ids ≡ get_or ids i d ∷ drop (i + 1) ids
  next_one = at_drop_more (λ (l : List InodeId). l) ids i d lt

  pub rising-on : AreRising (drop i ids) → AreRising (drop (i + 1) ids)
  rising-on rise = rising-rest (get_or ids i d) (drop (i + 1) ids) (subst AreRising next_one rise)

  pub prepared-on : (before after : TableValue) → AreRising (drop i ids) → ((x : InodeId) → Contains (drop i ids) x → IsRowMergeable (row_of before.rows x))
      → ((other : InodeId) → other ≢ get_or ids i d → rows_in (row_of after.rows other) ≡ rows_in (row_of before.rows other)) → (x : InodeId) → Contains (drop (i + 1) ids) x → IsRowMergeable (row_of after.rows x)
  prepared-on before after rise all there = rest-mergeable before after (get_or ids i d) (drop (i + 1) ids) (subst AreRising next_one rise)
      (subst (λ (l : List InodeId). (x : InodeId) → Contains l x → IsRowMergeable (row_of before.rows x)) next_one all) there

  pub looks-on : (fewer : List (Member FileBlocks)) (issued : ℕ) (before now then : Tabled) → StillLooks fewer issued ids before (drop i ids) now
      → ((todo : List InodeId) → AreLeft now fewer issued (get_or ids i d ∷ todo) → MergesLost fewer (get_or ids i d) now then ⊎ StaysAlike fewer (get_or ids i d) now then)
      → StillLooks fewer issued ids before (drop (i + 1) ids) then
  looks-on fewer issued before now then still step =
      let s = subst (λ (l : List InodeId). StillLooks fewer issued ids before l now) next_one still in
      looks-next fewer issued ids before (get_or ids i d) (drop (i + 1) ids) now then s (step (drop (i + 1) ids) s.left)

pub looks-last : (fewer : List (Member FileBlocks)) (issued : ℕ) (ids : List InodeId) (i : ℕ) (before now : Tabled) → length ids ≤ i → StillLooks fewer issued ids before (drop i ids) now → LooksAt fewer ids before now
looks-last fewer issued ids i before now le still = (subst (λ (l : List InodeId). StillLooks fewer issued ids before l now) (at_drop_all (λ (l : List InodeId). l) ids i le) still).on now refl
