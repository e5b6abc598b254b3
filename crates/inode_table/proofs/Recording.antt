-- The intervals of records, as records and snapshots come and go.
use Rattle.std.proofs.Common.{◌≡◌, ℕ, suc, ◌<◌, ◌≤◌, true, false, cond, List, [], ◌∷◌, ◌++◌, refl, length, inl, inr, ⊎_elim, arith}
use Rattle.std.specs.Prelude.{◌≢◌, ◌⊎◌, nat_lt, nat_le, nat_eq, ◌&&◌, ◌||◌}
use Rattle.std.specs.List.{Contains}
use Rattle.std.proofs.lemmas.Bool.Decides.{nat_tests}
use Rattle.hs_plain.specs.declared.state.Member.{Member}
use Rattle.hs_plain.specs.declared.state.FileBlocks.{FileBlocks}
use Rattle.hs_plain.proofs.ValidTrees.{both, first, second}
use Rattle.hs_plain.proofs.ValidShapes.{true_false}
use Rattle.inode_table.specs.RowHistory.{RowHistory, is_live_between, need, ReadsAlike}
use Rattle.inode_table.specs.Records.{Recorded, last_of_all, before_at, at_or, Loses, Merges}
use Rattle.inode_table.proofs.Kept.{any_at}

module _ {B : Type 0} where
  -- a live id in an interval
  pub record Witness (ms : List (Member B)) (low high : ℕ) : Type 0 where
    pub m : Member B
    pub is_live : Contains ms m
    pub above : low < m.snapshot.0
    pub upto : m.snapshot.0 ≤ high

  later : (o : Member B) (ms : List (Member B)) (low high : ℕ) → Witness ms low high → Witness (o ∷ ms) low high
  later o ms low high w = record { m = w.m; is_live = (suc w.is_live.0, omega arith, w.is_live.2); above = w.above; upto = w.upto }
    where
      lt : suc w.is_live.0 < suc (length ms)
      lt = let h = w.is_live.1 in omega arith

  pub witness : (ms : List (Member B)) (low high : ℕ) → is_live_between ms low high ≡ true → Witness ms low high
  witness [] low high h = absurd (true_false h refl)
  witness (m ∷ ms) low high h = elim (nat_lt low m.snapshot.0 && nat_le m.snapshot.0 high) as (λ b. (nat_lt low m.snapshot.0 && nat_le m.snapshot.0 high) ≡ b → (b || is_live_between ms low high) ≡ true → Witness (m ∷ ms) low high) [
    | true ↦ λ t _. let a : nat_lt low m.snapshot.0 ≡ true = first (nat_lt low m.snapshot.0) _ t in let c : nat_le m.snapshot.0 high ≡ true = second (nat_lt low m.snapshot.0) _ t in
        record { m = m; is_live = (0, omega arith, refl); above = grind (arith, nat_tests); upto = grind (arith, nat_tests) }
    | false ↦ λ _ g. later m ms low high (witness ms low high g)
  ] refl h

  pub between : (ms : List (Member B)) (low high : ℕ) → Witness ms low high → is_live_between ms low high ≡ true
  between ms low high w =
      let above = w.above in let upto = w.upto in
      let a : nat_lt low w.m.snapshot.0 ≡ true = grind (arith, nat_tests) in let c : nat_le w.m.snapshot.0 high ≡ true = grind (arith, nat_tests) in
      any_at (λ o. nat_lt low o.snapshot.0 && nat_le o.snapshot.0 high) ms w.m w.is_live.0 w.is_live.1 w.is_live.2 (both a c)

  pub not_between : (ms : List (Member B)) (low high : ℕ) → is_live_between ms low high ≡ false → (m : Member B) → Contains ms m → m.snapshot.0 ≤ low ⊎ high < m.snapshot.0
  not_between ms low high none m is_live = elim (nat_lt low m.snapshot.0) as (λ b. nat_lt low m.snapshot.0 ≡ b → m.snapshot.0 ≤ low ⊎ high < m.snapshot.0) [
    | true ↦ λ t. elim (nat_lt high m.snapshot.0) as (λ b. nat_lt high m.snapshot.0 ≡ b → m.snapshot.0 ≤ low ⊎ high < m.snapshot.0) [
      | true ↦ λ k. inr (grind (arith, nat_tests))
      | false ↦ λ k. absurd (true_false (between ms low high (record { m = m; is_live = is_live; above = grind (arith, nat_tests); upto = grind (arith, nat_tests) })) none)
    ] refl
    | false ↦ λ t. inl (grind (arith, nat_tests))
  ] refl

  recorded_weaker : (ms : List (Member B)) (low before : ℕ) (ns : List ℕ) → low ≤ before → Recorded ms before ns → Recorded ms low ns
  recorded_weaker ms low before [] le rec = tt
  recorded_weaker ms low before (n ∷ ns) le rec = let w = witness ms before n rec.1 in let a = w.above in let lt = rec.0 in
      (omega arith, between ms low n (record { m = w.m; is_live = w.is_live; above = omega arith; upto = w.upto }), rec.2)

  module _ (members fewer : List (Member B)) (gone : ℕ) (left : (m : Member B) → Contains members m → m.snapshot.0 ≢ gone → Contains fewer m) where
    -- above the id that is gone nothing is lost
    above_gone : (before : ℕ) (ns : List ℕ) → gone ≤ before → Recorded members before ns → Recorded fewer before ns
    above_gone before [] le rec = tt
    above_gone before (n ∷ ns) le rec = let w = witness members before n rec.1 in let a = w.above in let lt = rec.0 in
        (rec.0, between fewer before n (record { m = w.m; is_live = left w.m w.is_live (λ e. differ w.m.snapshot.0 a le e); above = w.above; upto = w.upto }), above_gone n ns (omega arith) rec.2)
      where
        differ : (s : ℕ) → before < s → gone ≤ before → s ≢ gone
        differ s a le e = omega arith

    pub loses : (before : ℕ) (ns : List ℕ) → Recorded members before ns → Recorded fewer before ns ⊎ Loses fewer before ns
    loses before [] rec = inl tt
    loses before (n ∷ ns) rec = elim (is_live_between fewer before n) as (λ b. is_live_between fewer before n ≡ b → Recorded fewer before (n ∷ ns) ⊎ Loses fewer before (n ∷ ns)) [
      | true ↦ λ t. ⊎_elim (λ same. inl (rec.0, t, same)) (λ lost. inr (record { i = suc lost.i; within = more lost.i lost.within; none = lost.none; rest = (rec.0, t, lost.rest) })) (loses n ns rec.2)
      | false ↦ λ none. inr (record { i = 0; within = omega arith; none = none; rest = recorded_weaker fewer before n ns (le rec.0) (above_gone n ns (was none (witness members before n rec.1)) rec.2) })
    ] refl
      where
        more : (i : ℕ) → i < length ns → suc i < length (n ∷ ns)
        more i lt = omega arith

        le : before < n → before ≤ n
        le lt = omega arith

        was : is_live_between fewer before n ≡ false → Witness members before n → gone ≤ n
        was none w = elim (nat_eq w.m.snapshot.0 gone) as (λ b. nat_eq w.m.snapshot.0 gone ≡ b → gone ≤ n) [
          | true ↦ λ t. let same : w.m.snapshot.0 ≡ gone = grind (arith, nat_tests) in let upto = w.upto in omega arith
          | false ↦ λ t. let other : w.m.snapshot.0 ≢ gone = grind (arith, nat_tests) in
              absurd (true_false (between fewer before n (record { m = w.m; is_live = left w.m w.is_live other; above = w.above; upto = w.upto })) none)
        ] refl

  pub recorded-more : (ms : List (Member B)) (before : ℕ) (ns : List ℕ) (number : ℕ) → Recorded ms before ns → last_of_all before ns < number → is_live_between ms (last_of_all before ns) number ≡ true → Recorded ms before (ns ++ number ∷ [])
  recorded-more ms before [] number rec lt live = (lt, live, tt)
  recorded-more ms before (n ∷ ns) number rec lt live = (rec.0, rec.1, recorded-more ms n ns number rec.2 lt live)

  pub recorded-start : (ms : List (Member B)) (ns : List ℕ) (cover : ℕ) → Recorded ms 0 ns → last_of_all 0 ns < need ms (last_of_all 0 ns) cover → Recorded ms 0 (ns ++ need ms (last_of_all 0 ns) cover ∷ [])
  recorded-start ms ns cover rec lt = elim (is_live_between ms (last_of_all 0 ns) cover) as (λ b. is_live_between ms (last_of_all 0 ns) cover ≡ b → last_of_all 0 ns < cond b cover 0 → Recorded ms 0 (ns ++ cond b cover 0 ∷ [])) [
    | true ↦ λ live up. recorded-more ms 0 ns cover rec up live
    | false ↦ λ _ up. absurd (omega arith)
  ] refl lt

pub merge-reads : (fewer : List (Member FileBlocks)) (m : Member FileBlocks) (ns : List ℕ) (lost : Loses fewer 0 ns) (old new : RowHistory) → Merges lost.i ns old new → Contains fewer m → ReadsAlike m.snapshot.0 old new
merge-reads fewer m ns lost old new merges is_live = ⊎_elim (merges.below m.snapshot.0) (merges.above m.snapshot.0) (not_between fewer (before_at 0 ns lost.i) (at_or ns lost.i) lost.none m is_live)

pub lose : (members fewer : List (Member FileBlocks)) (gone : ℕ) (ns : List ℕ) → ((m : Member FileBlocks) → Contains members m → m.snapshot.0 ≢ gone → Contains fewer m)
    → Recorded members 0 ns → Recorded fewer 0 ns ⊎ Loses fewer 0 ns
lose members fewer gone ns left rec = loses members fewer gone left 0 ns rec

pub start-record : (members : List (Member FileBlocks)) (ns : List ℕ) (cover : ℕ) → Recorded members 0 ns → last_of_all 0 ns < need members (last_of_all 0 ns) cover
    → Recorded members 0 (ns ++ need members (last_of_all 0 ns) cover ∷ [])
start-record members ns cover rec lt = recorded-start members ns cover rec lt
