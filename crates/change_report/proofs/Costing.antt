-- How many rows a report looks at, by its ticks.
use Rattle.std.proofs.Common.{◌≡◌, ℕ, ◌+◌, ◌-◌, ◌*◌, ◌^◌, ◌<◌, ◌≤◌, true, false, cond, ◌&&◌, ◌==◌, List, [], ◌∷◌, filter, length, refl, sym, ap, subst, ◌∙◌, arith}
use Rattle.std.specs.Prelude.{nat_lt, nat_le, min, max}
use Rattle.std.specs.List.{Contains, IsDistinct}
use Rattle.std.proofs.lemmas.Bool.Decides.{nat_tests}
use Rattle.hs_types.specs.declared.ids.InodeId.{InodeId}
use Rattle.hs_types.specs.declared.ids.SnapId.{SnapId}
use Rattle.hs_types.specs.declared.journal.Entry.{Entry}
use Rattle.hs_plain.specs.declared.state.State.{State}
use Rattle.hs_plain.specs.declared.state.FileBlocks.{FileBlocks}
use Rattle.hs_plain.specs.Reading.{is_foreign}
use Rattle.hs_plain.specs.Replay.{plain_after}
use Rattle.hs_plain.specs.State.{is_snapshottable}
use Rattle.hs_plain.specs.Tree.{same_inode}
use Rattle.hs_plain.specs.Viewed as viewed
use Rattle.hs_plain.proofs.ValidLists.{by_test}
use Rattle.snapshot_manager.specs.Snapshots.{Snapshots, IsProper, live_at}
use Rattle.inode_table.specs.declared.noted.Noted.{Noted}
use Rattle.inode_table.specs.Indexed.{Index, is_between, made_between, ids_there}
use Rattle.inode_table.specs.RowHistory.{Table, shown}
use Rattle.inode_table.specs.Tabled.{Tabled}
use Rattle.inode_table.specs.Whole.{StandsFor, IsFilled}
use Rattle.table_laws.proofs.RecordElements.{at_head, at_later}
use Rattle.table_laws.proofs.RecordIndex.{few-between}
use Rattle.report_laws.specs.Chains.{HasChainsWithin}
use Rattle.report_laws.specs.Costs.{looks_at, entries_apart}
use Rattle.report_laws.specs.Ends.{copied_tick, end_tick, entries_between}
use Rattle.report_laws.proofs.Looking.{report-cost}
use Rattle.change_report.specs.Candidates.{tick_at, tick_or_last}
use Rattle.change_report.proofs.EndRows.{tick-told}

-- ---- the index

-- above the last tick it has nothing
up_to_now : (low high tick : ℕ) (index : Index) → tick ≤ high → ((e : Noted) → Contains index e → e.tick ≤ tick) → filter (is_between low high) index ≡ filter (is_between low tick) index
up_to_now low high tick [] le upto = refl
up_to_now low high tick (e ∷ index) le upto =
    let here = upto e (at_head e index) in
    let same : nat_le e.tick high ≡ nat_le e.tick tick = grind (arith, nat_tests, here, le) in
    λ i. cond (nat_lt low e.tick && same i) (e ∷ up_to_now low high tick index le (λ x c. upto x (at_later e index x c)) i) (up_to_now low high tick index le (λ x c. upto x (at_later e index x c)) i)

few_now : (rows : Table) (index : Index) (low high tick : ℕ) → IsFilled index tick 3 → low ≤ tick → tick ≤ high → length (made_between low high rows index) ≤ 3 * (tick - low)
few_now rows index low high tick filled le more =
    subst (λ n. n ≤ 3 * (tick - low)) (sym (ap (λ (l : Index). length (ids_there rows l)) (up_to_now low high tick index more filled.upto))) (few-between rows index tick 3 low tick filled le)

-- ---- the ends

module _ (t : Tabled) (snaps : Snapshots) (state : State FileBlocks) (few : state.tick < 2 ^ 64) (all : StandsFor t snaps state) (proper : IsProper snaps) (root : InodeId) (is_root : is_snapshottable state root ≡ true) where
  abbrev found : ℕ → ℕ → List InodeId
  found low high = made_between low high t.rows t.index

  abbrev between : ℕ → ℕ → List InodeId
  between a b = found (min a b) (max a b)

  flat : (a b : ℕ) → a ≡ b → length (between a b) ≤ 0
  flat a b same = let one = few-between t.rows t.index state.tick 3 (min a b) (max a b) all.filled (omega arith) in omega (arith, one, same)

  -- from one tick to now
  later : (a b : ℕ) → a ≤ state.tick → b ≡ 2 ^ 64 - 1 → length (between a b) ≤ 3 * (state.tick - a)
  later a b le last = subst (λ n. length (found n (max a b)) ≤ 3 * (state.tick - a)) {x = a} {y = min a b} (omega (arith, le, last, few))
      (few_now t.rows t.index a (max a b) state.tick all.filled le (omega (arith, last, few)))

  turned : (a b : ℕ) → length (between a b) ≡ length (between b a)
  turned a b = λ i. length (found (less i) (more i))
    where
      less : min a b ≡ min b a
      less = omega arith

      more : max a b ≡ max b a
      more = omega arith

  now_tick : (end : SnapId) → (end.0 == 0) ≡ true → tick_at snaps end ≡ 2 ^ 64 - 1
  now_tick end zero = ap (λ b. cond b (2 ^ 64 - 1) (tick_or_last (live_at snaps end))) zero

  now_end : (end : SnapId) → (end.0 == 0) ≡ true → end_tick state end ≡ state.tick
  now_end end zero = ap (λ b. cond b state.tick (copied_tick state.members end)) zero

  pub few-found : (from to : SnapId) → is_foreign state root from ≡ false → is_foreign state root to ≡ false → length (between (tick_at snaps from) (tick_at snaps to)) ≤ 3 * entries_between state from to
  few-found from to from_own to_own = by_test (from.0 == 0)
      (λ zf. by_test (to.0 == 0)
      (λ zt. let none = flat (tick_at snaps from) (tick_at snaps to) (now_tick from zf ∙ sym (now_tick to zt)) in omega (arith, none))
      (λ nt. let w = tick-told t snaps state few all proper root is_root to nt to_own in let same = w.same in let upto = w.upto in
      let one = later (tick_at snaps to) (tick_at snaps from) (omega (arith, same, upto)) (now_tick from zf) in
      let turn = turned (tick_at snaps from) (tick_at snaps to) in let now = now_end from zf in omega (arith, one, turn, now, same, upto)))
      (λ nf. let v = tick-told t snaps state few all proper root is_root from nf from_own in let same = v.same in let upto = v.upto in by_test (to.0 == 0)
      (λ zt. let one = later (tick_at snaps from) (tick_at snaps to) (omega (arith, same, upto)) (now_tick to zt) in let now = now_end to zt in omega (arith, one, now, same, upto))
      (λ nt. let w = tick-told t snaps state few all proper root is_root to nt to_own in let tied = w.same in
      let one = few-between t.rows t.index state.tick 3 (min (tick_at snaps from) (tick_at snaps to)) (max (tick_at snaps from) (tick_at snaps to)) all.filled (omega arith) in omega (arith, one, same, tied)))

  pub report-looks : (journal : List Entry) (from to : SnapId) (ids : List InodeId) (low high longest before after : ℕ) → viewed.StandsFor state (plain_after journal) → is_foreign state root from ≡ false → is_foreign state root to ≡ false
      → HasChainsWithin (shown t.rows from.0) longest → low ≡ min (tick_at snaps from) (tick_at snaps to) → high ≡ max (tick_at snaps from) (tick_at snaps to)
      → IsDistinct same_inode ids → length ids ≤ length (found low high) → after ≤ before + looks_at longest (entries_apart t root from to) ids
      → after ≤ before + 16 * (1 + entries_between state from to) * (1 + longest)
  report-looks journal from to ids low high longest before after stands from_own to_own within is_low is_high once fewer looks =
      let most = few-found from to from_own to_own in
      let same : length (found low high) ≡ length (between (tick_at snaps from) (tick_at snaps to)) = λ i. length (found (is_low i) (is_high i)) in
      let all_looks = report-cost t snaps state all root journal from to ids longest stands is_root from_own to_own within once (omega (arith, fewer, same, most)) in
      omega (arith, looks, all_looks)
