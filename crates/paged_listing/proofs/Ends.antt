-- What snapshots in memory say of the cursor of a report is what the plain state says.
use Rattle.std.proofs.Common.{◌≡◌, ℕ, ◌≤◌, Bool, true, false, not, ◌&&◌, ◌||◌, List, [], ◌∷◌, map, Option, Ok, Err, refl, sym, ap, ◌∙◌, arith}
use Rattle.std.specs.Prelude.{◌==◌, nat_lt, is_some, Result, IsErrAnd}
use Rattle.std.specs.List.{find, list_any}
use Rattle.std.specs.Cmp.{nat_eq_equiv}
use Rattle.std.proofs.lemmas.Bool.Decides.{nat_tests}
use Rattle.hs_types.specs.declared.ids.InodeId.{InodeId}
use Rattle.hs_types.specs.declared.ids.SnapId.{SnapId}
use Rattle.hs_types.specs.declared.name.SnapItem.{SnapItem}
use Rattle.hs_types.specs.declared.refusal.Refusal.{Refusal}
use Rattle.hs_types.specs.declared.refusal.Refusal.TheVariants.{NotSnapshottable, NoSnapshot, Gone, Moved}
use Rattle.hs_types.specs.declared.call.ReportCursor.{ReportCursor}
use Rattle.hs_types.specs.declared.reply.Reply.{Reply}
use Rattle.hs_plain.specs.declared.resolve.AskFault.{AskFault}
use Rattle.hs_plain.specs.declared.resolve.AskFault.TheVariants.{Refused}
use Rattle.hs_plain.specs.declared.state.Member.{Member}
use Rattle.hs_plain.specs.declared.state.State.{State}
use Rattle.hs_plain.specs.declared.state.FileBlocks.{FileBlocks}
use Rattle.hs_plain.specs.Asked.{Asked, ◌>>=◌, refuse_if}
use Rattle.hs_plain.specs.Tree.{same_inode}
use Rattle.hs_plain.specs.State.{is_snapshottable}
use Rattle.hs_plain.specs.Reading as reading
use Rattle.hs_plain.specs.Reading.{is_live, is_deleted, began_at, report_page, report_next_reply}
use Rattle.hs_plain.specs.Valid.{rises_above}
use Rattle.hs_plain.proofs.ValidTrees.{first, second}
use Rattle.snapshot_manager.specs.Snapshots.{Snapshots, IsProper, has_id}
use Rattle.snapshot_manager.proofs.MemberLemmas.{found_by_id}
use Rattle.inode_table.specs.Joined.{told}
use Rattle.inode_table.specs.Tabled.{Tabled}
use Rattle.inode_table.specs.Whole.{StandsFor}
use Rattle.paged_listing.specs.Reports.{is_lost, is_own, is_foreign, goes_on}
use Rattle.path_resolver.proofs.Named.{match_err}
use Rattle.paged_listing.proofs.Chains.{Tells, tells_as, err_ok}

-- ---- snapshots by their ids

abbrev looked_up : SnapId → List (Member FileBlocks) → Option (InodeId × SnapItem)
looked_up id members = find (λ m. has_id id m.1) (map told members)

live-found : (members : List (Member FileBlocks)) (id : SnapId) → is_some (looked_up id members) ≡ is_live members id
live-found [] id = refl
live-found (m ∷ ms) id = by (m.snapshot.0 == id.0) refl (live-found ms id)
  where
    by : (b : Bool) → (m.snapshot.0 == id.0) ≡ b → is_some (looked_up id ms) ≡ is_live ms id → is_some (looked_up id (m ∷ ms)) ≡ is_live (m ∷ ms) id
    by true e rest = let flip : (id.0 == m.snapshot.0) ≡ true = nat_eq_equiv.symm id.0 m.snapshot.0 ∙ e in rw (e, flip) refl
    by false e rest = let flip : (id.0 == m.snapshot.0) ≡ false = nat_eq_equiv.symm id.0 m.snapshot.0 ∙ e in rw (e, flip) rest

abbrev is_end : InodeId → SnapId → Member FileBlocks → Bool
is_end root end member = member.snapshot.0 == end.0 && same_inode member.directory root

-- above an id no snapshot has it
none-above : (root : InodeId) (end : SnapId) (low : ℕ) (members : List (Member FileBlocks)) → rises_above low (map (λ m. m.snapshot.0) members) ≡ true → end.0 ≤ low → list_any (is_end root end) members ≡ false
none-above root end low [] rise le = refl
none-above root end low (m ∷ ms) rise le =
    let above : nat_lt low m.snapshot.0 ≡ true = first (nat_lt low m.snapshot.0) _ rise in
    let other : (m.snapshot.0 == end.0) ≡ false = grind (arith, nat_tests) in
    ap (λ b. (b && same_inode m.directory root) || list_any (is_end root end) ms) other
    ∙ none-above root end m.snapshot.0 ms (second (nat_lt low m.snapshot.0) _ rise) (grind (arith, nat_tests))

or_false : (b : Bool) → (b || false) ≡ b
or_false true = refl
or_false false = refl

own-found : (root : InodeId) (end : SnapId) (low : ℕ) (members : List (Member FileBlocks)) → rises_above low (map (λ m. m.snapshot.0) members) ≡ true → is_own root (looked_up end members) ≡ list_any (is_end root end) members
own-found root end low [] rise = refl
own-found root end low (m ∷ ms) rise = by (m.snapshot.0 == end.0) refl (own-found root end m.snapshot.0 ms (second (nat_lt low m.snapshot.0) _ rise))
  where
    by : (b : Bool) → (m.snapshot.0 == end.0) ≡ b → is_own root (looked_up end ms) ≡ list_any (is_end root end) ms → is_own root (looked_up end (m ∷ ms)) ≡ list_any (is_end root end) (m ∷ ms)
    by true e rest =
        let flip : (end.0 == m.snapshot.0) ≡ true = nat_eq_equiv.symm end.0 m.snapshot.0 ∙ e in
        let none : list_any (is_end root end) ms ≡ false = none-above root end m.snapshot.0 ms (second (nat_lt low m.snapshot.0) _ rise) (grind (arith, nat_tests)) in
        rw (e, flip, none) (sym (or_false (same_inode m.directory root)))
    by false e rest = let flip : (end.0 == m.snapshot.0) ≡ false = nat_eq_equiv.symm end.0 m.snapshot.0 ∙ e in rw (e, flip) rest

-- ---- the tests of a cursor

or_first : (a b : Bool) → (a || b) ≡ false → a ≡ false
or_first true b e = e
or_first false b e = refl

or_second : (a b : Bool) → (a || b) ≡ false → b ≡ false
or_second true b e = absurd (cc)
or_second false b e = e

not_so : (b : Bool) → not b ≡ false → b ≡ true
not_so true e = refl
not_so false e = absurd (cc)

-- the second and the third of such tests didn't refuse
passed : (a b c : Bool) (x y z : Refusal) (d : Asked (Unit {0})) → (refuse_if a x >>= λ _. (refuse_if b y >>= λ _. (refuse_if c z >>= λ _. d))) ≡ Ok tt → (b ≡ false) × (c ≡ false)
passed true b c x y z d e = absurd (err_ok e)
passed false true c x y z d e = absurd (err_ok e)
passed false false true x y z d e = absurd (err_ok e)
passed false false false x y z d e = (refl, refl)

-- a report goes on at a directory that has its ends
pub record GoesOn (state : State FileBlocks) (cursor : ReportCursor) : Type 0 where
  pub root : is_snapshottable state cursor.root ≡ true
  pub from : reading.is_foreign state cursor.root cursor.from ≡ false
  pub to : reading.is_foreign state cursor.root cursor.to ≡ false

module _ (table : Tabled) (snaps : Snapshots) (state : State FileBlocks) (all : StandsFor table snaps state) (proper : IsProper snaps) where
  lost-told : (id : SnapId) → is_lost snaps id ≡ is_deleted state id
  lost-told id = ap (λ b. not (id.0 == 0) && not b) (ap is_some (found_by_id (map told state.members) snaps all.told id proper) ∙ live-found state.members id)

  foreign-told : (root : InodeId) (end : SnapId) → is_foreign snaps root end ≡ reading.is_foreign state root end
  foreign-told root end =
      ap (λ b. not (end.0 == 0) && not b)
      (ap (is_own root) (found_by_id (map told state.members) snaps all.told end proper) ∙ own-found root end 0 state.members all.valid.snapshots_rise)

  -- the tests in the plain state's words
  abbrev asked_on : ReportCursor → Asked (Unit {0})
  asked_on cursor = do
    live ← refuse_if (is_deleted state cursor.from || is_deleted state cursor.to) Gone
    there ← refuse_if (not (is_snapshottable state cursor.root)) NotSnapshottable
    own ← refuse_if (reading.is_foreign state cursor.root cursor.from || reading.is_foreign state cursor.root cursor.to) NoSnapshot
    refuse_if (reading.has_moved state cursor) (Moved (began_at state.tick cursor.tick) state.tick)

  on-told : (now : ℕ) (cursor : ReportCursor) → now ≡ state.tick → goes_on snaps now cursor ≡ asked_on cursor
  on-told now cursor tick =
      simp (lost-told cursor.from, lost-told cursor.to, foreign-told cursor.root cursor.from, foreign-told cursor.root cursor.to, sym (all.snapshottable cursor.root), tick) refl

  next-after : (cursor : ReportCursor) (size : ℕ) → (asked_on cursor >>= λ _. Ok (report_page state cursor size)) ≡ report_next_reply state cursor size
  next-after cursor size =
      by (refuse_if (is_deleted state cursor.from || is_deleted state cursor.to) Gone)
      (refuse_if (not (is_snapshottable state cursor.root)) NotSnapshottable)
      (refuse_if (reading.is_foreign state cursor.root cursor.from || reading.is_foreign state cursor.root cursor.to) NoSnapshot)
      (refuse_if (reading.has_moved state cursor) (Moved (began_at state.tick cursor.tick) state.tick))
    where
      by : (a b c d : Asked (Unit {0})) → ((a >>= λ _. b >>= λ _. c >>= λ _. d) >>= λ _. Ok (report_page state cursor size)) ≡ (a >>= λ _. b >>= λ _. c >>= λ _. d >>= λ _. Ok (report_page state cursor size))
      by (Err why) b c d = refl
      by (Ok _) (Err why) c d = refl
      by (Ok _) (Ok _) (Err why) d = refl
      by (Ok _) (Ok _) (Ok _) d = refl

  -- a report goes on where its tests say so
  pub next-told : (now : ℕ) (cursor : ReportCursor) (size : ℕ) → now ≡ state.tick → (goes_on snaps now cursor >>= λ _. Ok (report_page state cursor size)) ≡ report_next_reply state cursor size
  next-told now cursor size tick = ap (λ (a : Asked (Unit {0})). a >>= λ _. Ok (report_page state cursor size)) (on-told now cursor tick) ∙ next-after cursor size

  pub goes-on : (now : ℕ) (cursor : ReportCursor) → now ≡ state.tick → goes_on snaps now cursor ≡ Ok tt → GoesOn state cursor
  goes-on now cursor tick is =
      let foreign = reading.is_foreign state cursor.root in
      let gone : Bool = is_deleted state cursor.from || is_deleted state cursor.to in
      let so : (not (is_snapshottable state cursor.root) ≡ false) × ((foreign cursor.from || foreign cursor.to) ≡ false) =
      passed gone (not (is_snapshottable state cursor.root)) (foreign cursor.from || foreign cursor.to) Gone NotSnapshottable NoSnapshot (refuse_if (reading.has_moved state cursor) (Moved (began_at state.tick cursor.tick) state.tick)) (sym (on-told now cursor tick) ∙ is) in
      record {
        root = not_so _ so.0;
        from = or_first _ _ so.1;
        to = or_second _ _ so.1;
      }

-- ---- results

module _ (table : Tabled) (snaps : Snapshots) (state : State FileBlocks) (all : StandsFor table snaps state) (proper : IsProper snaps) (now : ℕ) (tick : now ≡ state.tick) (cursor : ReportCursor) (size : ℕ) where
  pub report_err : (result : Result Reply AskFault) (why : Refusal) → goes_on snaps now cursor ≡ Err why → IsErrAnd result (λ y. y ≡ Refused why) → Tells result (report_next_reply state cursor size)
  report_err result why is same =
      tells_as result _ _ (next-told table snaps state all proper now cursor size tick)
      (match_err result (Refused why) _ _ same (ap (λ (a : Asked (Unit {0})). a >>= λ _. Ok (report_page state cursor size)) is))

  pub report_ok : (reply : Reply) → goes_on snaps now cursor ≡ Ok tt → (GoesOn state cursor → reply ≡ report_page state cursor size) → report_next_reply state cursor size ≡ Ok reply
  report_ok reply is same =
      sym (next-told table snaps state all proper now cursor size tick)
      ∙ ap (λ (a : Asked (Unit {0})). a >>= λ _. Ok (report_page state cursor size)) is
      ∙ ap (λ (r : Reply). Ok r) (sym (same (goes-on table snaps state all proper now cursor tick is)))
