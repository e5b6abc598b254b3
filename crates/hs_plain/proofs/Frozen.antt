-- Snapshots stay as they are: lists of snapshots, calls, entries and journals.
use Rattle.std.proofs.Common.{◌≡◌, ℕ, ◌+◌, ◌≤◌, nat_lt, not, Bool, true, false, cond, ◌&&◌, ◌==◌, ◌⊎◌, inl, inr, Option, Some, None, Ok, List, [], ◌∷◌, ◌++◌, map, refl, ap, sym, ◌∙◌, arith}
use Rattle.std.specs.Prelude.{if◌then◌else◌}
use Rattle.std.specs.List.{filter}
use Rattle.std.proofs.lemmas.Bool.Decides.{nat_tests}
use Rattle.hs_types.specs.Names.{Names}
use Rattle.hs_types.specs.declared.ids.InodeId.{InodeId}
use Rattle.hs_types.specs.declared.ids.SnapId.{SnapId}
use Rattle.hs_types.specs.declared.call.Call.{Call}
use Rattle.hs_types.specs.declared.call.Call.TheVariants as calls
use Rattle.hs_types.specs.declared.journal.Entry.{Entry}
use Rattle.hs_plain.specs.declared.state.Node.{Node}
use Rattle.hs_plain.specs.declared.state.Member.{Member}
use Rattle.hs_plain.specs.declared.state.State.{State}
use Rattle.hs_plain.specs.Files.{Files, plain_files}
use Rattle.hs_plain.specs.State.{start, is_snapshottable, member_with}
use Rattle.hs_plain.specs.Modifying.{mkdir_at, create_at, append_at, delete_at, rename_at, set_mode_at}
use Rattle.hs_plain.specs.Snapshotting.{allow_at, disallow_at, snap_at, snap_del_at, snap_ren_at}
use Rattle.hs_plain.specs.Change.{change, changed_if, takes_effect, after, made_dir, made_file, appended, removed, renamed, with_mode, allowed, disallowed, new_member, snapped, is_snapshot, unsnapped, rename_member, resnapped}
use Rattle.hs_plain.specs.Replay.{replay_from}
use Rattle.hs_plain.specs.Frozen.{unnamed, IsAmong, was_issued, is_snap_ren, is_snap_del, FrozenStays, OnlySnapRen, OnlySnapDel, IdsIssued, IssuedStays}
use Rattle.hs_plain.proofs.Facts.{some_of, none_some, ok_of, okay}
use Rattle.hs_plain.proofs.ValidTrees.{second, if_asked-keeps}

-- ---- one snapshot of a list, as it is seen

-- the snapshot with this id, seen in some way
abbrev pub seen : {B X : Type 0} → (Member B → X) → List (Member B) → SnapId → Option X
seen f [] id = None
seen f (m ∷ ms) id = if m.snapshot.0 == id.0 then Some (f m) else seen f ms id

-- a snapshot of a list that is seen so
pub record IsSeen {B X : Type 0} (f : Member B → X) (ms : List (Member B)) (id : SnapId) (x : X) : Type 0 where
  pub member : Member B
  pub found : member_with ms id ≡ Ok member
  pub so : f member ≡ x

module _ {B X : Type 0} (f : Member B → X) where
  pub seen-with : (ms : List (Member B)) (id : SnapId) (m : Member B) → member_with ms id ≡ Ok m → seen f ms id ≡ Some (f m)
  seen-with [] id m is = absurd (cc)
  seen-with (n ∷ ms) id m is =
      elim (n.snapshot.0 == id.0) as (λ b. cond b (Ok n) (member_with ms id) ≡ Ok m → cond b (Some (f n)) (seen f ms id) ≡ Some (f m)) [
        | true ↦ λ e. ap (λ (x : Member B). Some (f x)) (ok_of n m e)
        | false ↦ seen-with ms id m
      ] is

  pub with-seen : (ms : List (Member B)) (id : SnapId) (x : X) → seen f ms id ≡ Some x → IsSeen f ms id x
  with-seen [] id x is = absurd (cc)
  with-seen (n ∷ ms) id x is = by (n.snapshot.0 == id.0) refl (with-seen ms id x)
    where
      by : (b : Bool) → (n.snapshot.0 == id.0) ≡ b → (seen f ms id ≡ Some x → IsSeen f ms id x) → IsSeen f (n ∷ ms) id x
      by true e below = record {
        member = n;
        found = ap (λ b. cond b (Ok n) (member_with ms id)) e;
        so = some_of (f n) x (sym (ap (λ b. cond b (Some (f n)) (seen f ms id)) e) ∙ is);
      }
      by false e below =
          let rest : IsSeen f ms id x = below (sym (ap (λ b. cond b (Some (f n)) (seen f ms id)) e) ∙ is) in
          record { member = rest.member; found = ap (λ b. cond b (Ok n) (member_with ms id)) e ∙ rest.found; so = rest.so }

  -- ---- lists of snapshots

  seen-append : (ms : List (Member B)) (m : Member B) (id : SnapId) → (m.snapshot.0 == id.0) ≡ false → seen f (ms ++ m ∷ []) id ≡ seen f ms id
  seen-append [] m id other = ap (λ b. cond b (Some (f m)) None) other
  seen-append (n ∷ ms) m id other = ap (λ (t : Option X). cond (n.snapshot.0 == id.0) (Some (f n)) t) (seen-append ms m id other)

  seen-more : (ms : List (Member B)) (m : Member B) (id : SnapId) (x : X) → seen f ms id ≡ Some x → seen f (ms ++ m ∷ []) id ≡ Some x
  seen-more [] m id x here = absurd (cc)
  seen-more (n ∷ ms) m id x here =
      elim (n.snapshot.0 == id.0) as (λ b. cond b (Some (f n)) (seen f ms id) ≡ Some x → cond b (Some (f n)) (seen f (ms ++ m ∷ []) id) ≡ Some x) [
        | true ↦ λ e. e
        | false ↦ seen-more ms m id x
      ] here

  -- a snapshot is seen as before where it alone, or another, gets a name
  seen-map : (ms : List (Member B)) (other : SnapId) (name : List ℕ) (id : SnapId) → ((m : Member B) → f (rename_member other name m) ≡ f m) → seen f (map (rename_member other name) ms) id ≡ seen f ms id
  seen-map [] other name id same = refl
  seen-map (m ∷ ms) other name id same =
      ap (λ (t : Option X). cond ((rename_member other name m).snapshot.0 == id.0) (Some (f (rename_member other name m))) t) (seen-map ms other name id same)
      ∙ ap (λ (x : X). cond ((rename_member other name m).snapshot.0 == id.0) (Some x) (seen f ms id)) (same m)
      ∙ ap (λ k. cond (k == id.0) (Some (f m)) (seen f ms id)) (same_id (m.snapshot.0 == other.0))
    where
      same_id : (b : Bool) → (cond b (record m { name = name }) m).snapshot.0 ≡ m.snapshot.0
      same_id true = refl
      same_id false = refl

  abbrev without_it : SnapId → List (Member B) → List (Member B)
  without_it gone ms = filter (λ m. not (is_snapshot gone m)) ms

  -- the snapshot that is taken away isn't there any more
  seen-gone : (ms : List (Member B)) (gone : SnapId) → seen f (without_it gone ms) gone ≡ None
  seen-gone [] gone = refl
  seen-gone (m ∷ ms) gone =
      elim (m.snapshot.0 == gone.0) as (λ b. b ≡ (m.snapshot.0 == gone.0) → seen f (cond (not b) (m ∷ without_it gone ms) (without_it gone ms)) gone ≡ None) [
        | true ↦ λ e. seen-gone ms gone
        | false ↦ λ e. ap (λ b. cond b (Some (f m)) (seen f (without_it gone ms) gone)) (sym e) ∙ seen-gone ms gone
      ] refl

  -- and each other one is
  seen-other : (ms : List (Member B)) (gone id : SnapId) → (gone.0 == id.0) ≡ false → seen f (without_it gone ms) id ≡ seen f ms id
  seen-other [] gone id other = refl
  seen-other (m ∷ ms) gone id other =
      elim (m.snapshot.0 == gone.0) as (λ b. b ≡ (m.snapshot.0 == gone.0) → seen f (cond (not b) (m ∷ without_it gone ms) (without_it gone ms)) id ≡ cond (m.snapshot.0 == id.0) (Some (f m)) (seen f ms id)) [
        | true ↦ λ e. seen-other ms gone id other ∙ ap (λ b. cond b (Some (f m)) (seen f ms id)) {x = false} {y = m.snapshot.0 == id.0} (grind (arith, nat_tests))
        | false ↦ λ e. ap (λ (t : Option X). cond (m.snapshot.0 == id.0) (Some (f m)) t) (seen-other ms gone id other)
      ] refl

  seen-filter : (ms : List (Member B)) (gone id : SnapId) (x : X) → seen f (without_it gone ms) id ≡ Some x → seen f ms id ≡ Some x
  seen-filter ms gone id x here = by (gone.0 == id.0) refl
    where
      same_number : (a b : ℕ) → (a == b) ≡ true → a ≡ b
      same_number a b e = grind (arith, nat_tests)

      by : (b : Bool) → (gone.0 == id.0) ≡ b → seen f ms id ≡ Some x
      by true e = absurd (none_some x (sym (seen-gone ms gone) ∙ ap (λ k. seen f (without_it gone ms) (record { 0 = k })) (same_number gone.0 id.0 e) ∙ here))
      by false e = sym (seen-other ms gone id e) ∙ here

-- ---- calls that leave the snapshots alone

pub record SameSnapshots {B : Type 0} (state next : State B) : Type 0 where
  pub members : next.members ≡ state.members
  pub issued : next.next_snapshot ≡ state.next_snapshot

abbrev changes_snapshots : Call → Bool
changes_snapshots (calls.Snap path name) = true
changes_snapshots (calls.SnapDel path name) = true
changes_snapshots (calls.SnapRen path old new) = true
changes_snapshots call = false

module _ {B : Type 0} (files : Files B) where
  allowed-same : (state : State B) (id : InodeId) → SameSnapshots state (allowed state id)
  allowed-same state id =
      elim (is_snapshottable state id) as (λ b. SameSnapshots state (cond b state (record state { snapshottable = state.snapshottable ++ id ∷ [] }))) [
        | true ↦ record { members = refl; issued = refl }
        | false ↦ record { members = refl; issued = refl }
      ]

  pub same_snapshots : (state : State B) (call : Call) → changes_snapshots call ≡ false → SameSnapshots state (change files state call)
  same_snapshots state (calls.Mkdir path) is = if_asked-keeps (SameSnapshots state) (made_dir state) state (mkdir_at state path) (record { members = refl; issued = refl }) (λ x is. record { members = refl; issued = refl })
  same_snapshots state (calls.Create path over) is = if_asked-keeps (SameSnapshots state) (made_file files state) state (create_at state path over) (record { members = refl; issued = refl }) (λ x is. record { members = refl; issued = refl })
  same_snapshots state (calls.Append path bytes) is = if_asked-keeps (SameSnapshots state) (appended files state bytes) state (append_at state path) (record { members = refl; issued = refl }) (λ x is. record { members = refl; issued = refl })
  same_snapshots state (calls.Delete path recursive) is = if_asked-keeps (SameSnapshots state) (removed state) state (delete_at state path recursive) (record { members = refl; issued = refl }) (λ x is. record { members = refl; issued = refl })
  same_snapshots state (calls.Rename old new) is = if_asked-keeps (SameSnapshots state) (renamed state) state (rename_at state old new) (record { members = refl; issued = refl }) (λ x is. record { members = refl; issued = refl })
  same_snapshots state (calls.SetMode path mode) is = if_asked-keeps (SameSnapshots state) (with_mode state mode) state (set_mode_at state path) (record { members = refl; issued = refl }) (λ x is. record { members = refl; issued = refl })
  same_snapshots state (calls.Allow path) is = if_asked-keeps (SameSnapshots state) (allowed state) state (allow_at state path) (record { members = refl; issued = refl }) (λ id is. allowed-same state id)
  same_snapshots state (calls.Disallow path) is = if_asked-keeps (SameSnapshots state) (disallowed state) state (disallow_at state path) (record { members = refl; issued = refl }) (λ x is. record { members = refl; issued = refl })
  same_snapshots state (calls.Snap path name) is = absurd (cc)
  same_snapshots state (calls.SnapDel path name) is = absurd (cc)
  same_snapshots state (calls.SnapRen path old new) is = absurd (cc)
  same_snapshots state call is = record { members = refl; issued = refl }

  -- ---- one entry

  -- what was issued stays issued
  next-change : (state : State B) (call : Call) → state.next_snapshot ≤ (change files state call).next_snapshot
  next-change state (calls.Snap path name) = if_asked-keeps (λ s. state.next_snapshot ≤ s.next_snapshot) (snapped state name) state (snap_at state path name) (omega arith) (λ x is. omega arith)
  next-change state (calls.SnapDel path name) = if_asked-keeps (λ s. state.next_snapshot ≤ s.next_snapshot) (unsnapped state) state (snap_del_at state path name) (omega arith) (λ x is. omega arith)
  next-change state (calls.SnapRen path old new) = if_asked-keeps (λ s. state.next_snapshot ≤ s.next_snapshot) (resnapped state new) state (snap_ren_at state path old new) (omega arith) (λ x is. omega arith)
  next-change state call = let same : SameSnapshots state (change files state call) = same_snapshots state call refl in omega (arith, same.issued)

  pub next-after : (state : State B) (entry : Entry) → state.next_snapshot ≤ (after files state entry).next_snapshot
  next-after state entry =
      elim (takes_effect entry) as (λ b. state.next_snapshot ≤ (changed_if b files state entry.call).next_snapshot) [
        | true ↦ next-change state entry.call
        | false ↦ omega arith
      ]

  pub next-replay : (state : State B) (entries : List Entry) → state.next_snapshot ≤ (replay_from files state entries).next_snapshot
  next-replay state [] = omega arith
  next-replay state (entry ∷ entries) = omega (arith, next-after state entry, next-replay (after files state entry) entries)

  not_next : (id next : ℕ) → nat_lt id next ≡ true → (next == id) ≡ false
  not_next id next below = grind (arith, nat_tests)

  -- a snapshot that is there after a call was there before it, if its id was issued
  module _ {X : Type 0} (f : Member B → X) where
    stays-change : (state : State B) (call : Call) (id : SnapId) (x : X) → (is_snap_ren call ≡ true → (other : SnapId) (name : List ℕ) (m : Member B) → f (rename_member other name m) ≡ f m) → nat_lt id.0 state.next_snapshot ≡ true → seen f (change files state call).members id ≡ Some x → seen f state.members id ≡ Some x
    stays-change state (calls.Snap path name) id x same issued = if_asked-keeps (λ s. seen f s.members id ≡ Some x → seen f state.members id ≡ Some x) (snapped state name) state (snap_at state path name) (λ there. there) (λ at is there. sym (seen-append f state.members (new_member state name at) id (not_next id.0 state.next_snapshot issued)) ∙ there)
    stays-change state (calls.SnapDel path name) id x same issued = if_asked-keeps (λ s. seen f s.members id ≡ Some x → seen f state.members id ≡ Some x) (unsnapped state) state (snap_del_at state path name) (λ there. there) (λ gone is there. seen-filter f state.members gone id x there)
    stays-change state (calls.SnapRen path old new) id x same issued = if_asked-keeps (λ s. seen f s.members id ≡ Some x → seen f state.members id ≡ Some x) (resnapped state new) state (snap_ren_at state path old new) (λ there. there) (λ other is there. sym (seen-map f state.members other new id (same refl other new)) ∙ there)
    stays-change state call id x same issued = λ there. let kept : SameSnapshots state (change files state call) = same_snapshots state call refl in ap (λ (ms : List (Member B)). seen f ms id) (sym kept.members) ∙ there

    pub stays-after : (state : State B) (entry : Entry) (id : SnapId) (x : X) → (is_snap_ren entry.call ≡ true → (other : SnapId) (name : List ℕ) (m : Member B) → f (rename_member other name m) ≡ f m) → nat_lt id.0 state.next_snapshot ≡ true → seen f (after files state entry).members id ≡ Some x → seen f state.members id ≡ Some x
    stays-after state entry id x same issued =
        elim (takes_effect entry) as (λ b. seen f (changed_if b files state entry.call).members id ≡ Some x → seen f state.members id ≡ Some x) [
          | true ↦ stays-change state entry.call id x same issued
          | false ↦ λ there. there
        ]

    -- a snapshot that was there is there after a call that deletes none
    more-change : (state : State B) (call : Call) (id : SnapId) (x : X) → (is_snap_ren call ≡ true → (other : SnapId) (name : List ℕ) (m : Member B) → f (rename_member other name m) ≡ f m) → is_snap_del call ≡ false → seen f state.members id ≡ Some x → seen f (change files state call).members id ≡ Some x
    more-change state (calls.Snap path name) id x same not_del here = if_asked-keeps (λ s. seen f s.members id ≡ Some x) (snapped state name) state (snap_at state path name) here (λ at is. seen-more f state.members (new_member state name at) id x here)
    more-change state (calls.SnapDel path name) id x same not_del here = absurd (cc)
    more-change state (calls.SnapRen path old new) id x same not_del here = if_asked-keeps (λ s. seen f s.members id ≡ Some x) (resnapped state new) state (snap_ren_at state path old new) here (λ other is. seen-map f state.members other new id (same refl other new) ∙ here)
    more-change state call id x same not_del here = let kept : SameSnapshots state (change files state call) = same_snapshots state call refl in ap (λ (ms : List (Member B)). seen f ms id) kept.members ∙ here

    pub more-after : (state : State B) (entry : Entry) (id : SnapId) (x : X) → (is_snap_ren entry.call ≡ true → (other : SnapId) (name : List ℕ) (m : Member B) → f (rename_member other name m) ≡ f m) → is_snap_del entry.call ≡ false → seen f state.members id ≡ Some x → seen f (after files state entry).members id ≡ Some x
    more-after state entry id x same not_del here =
        elim (takes_effect entry) as (λ b. seen f (changed_if b files state entry.call).members id ≡ Some x) [
          | true ↦ more-change state entry.call id x same not_del here
          | false ↦ here
        ]

  later : (id a b : ℕ) → nat_lt id a ≡ true → a ≤ b → nat_lt id b ≡ true
  later id a b lt le = grind (arith, nat_tests)

  -- ---- all entries

  unnamed-same : (other : SnapId) (name : List ℕ) (m : Member B) → unnamed (rename_member other name m) ≡ unnamed m
  unnamed-same other name m =
      elim (is_snapshot other m) as (λ b. unnamed (cond b (record m { name = name }) m) ≡ unnamed m) [
        | true ↦ refl
        | false ↦ refl
      ]

  stays-replay : (state : State B) (entries : List Entry) (id : SnapId) (x : Member B) → nat_lt id.0 state.next_snapshot ≡ true → seen unnamed (replay_from files state entries).members id ≡ Some x → seen unnamed state.members id ≡ Some x
  stays-replay state [] id x issued there = there
  stays-replay state (entry ∷ entries) id x issued there =
      stays-after unnamed state entry id x (λ ren. unnamed-same) issued
      (stays-replay (after files state entry) entries id x (later id.0 state.next_snapshot (after files state entry).next_snapshot issued (next-after state entry)) there)

  pub issued-later : (state next : State B) (id : SnapId) → state.next_snapshot ≤ next.next_snapshot → was_issued state id ≡ true → was_issued next id ≡ true
  issued-later state next id le issued = above id.0 state.next_snapshot next.next_snapshot issued le
    where
      above : (id a b : ℕ) → (nat_lt 0 id && nat_lt id a) ≡ true → a ≤ b → (nat_lt 0 id && nat_lt id b) ≡ true
      above id a b lt le = grind (arith, nat_tests)

  pub frozen-stays : (state : State B) (entries : List Entry) (id : SnapId) (m : Member B) → was_issued state id ≡ true → member_with (replay_from files state entries).members id ≡ Ok m → IsAmong state.members id m
  frozen-stays state entries id m issued there =
      let before : IsSeen unnamed state.members id (unnamed m) = with-seen unnamed state.members id (unnamed m) (stays-replay state entries id (unnamed m) (second (nat_lt 0 id.0) (nat_lt id.0 state.next_snapshot) issued) (seen-with unnamed (replay_from files state entries).members id m there)) in
      record { there = before.member; found = before.found; same = before.so }

  no_ren : {X : Type 0} (entry : Entry) (f : Member B → X) → is_snap_ren entry.call ≡ false → is_snap_ren entry.call ≡ true → (other : SnapId) (name : List ℕ) (m : Member B) → f (rename_member other name m) ≡ f m
  no_ren entry f isnt is = absurd (cc)

  pub only-snap_ren : (state : State B) (entry : Entry) (id : SnapId) (m : Member B) → is_snap_ren entry.call ≡ false → was_issued state id ≡ true → member_with (after files state entry).members id ≡ Ok m → member_with state.members id ≡ Ok m
  only-snap_ren state entry id m not_ren issued there =
      let before : IsSeen (λ (m : Member B). m) state.members id m = with-seen (λ m. m) state.members id m (stays-after (λ m. m) state entry id m (no_ren entry (λ m. m) not_ren) (second (nat_lt 0 id.0) (nat_lt id.0 state.next_snapshot) issued) (seen-with (λ m. m) (after files state entry).members id m there)) in
      before.found ∙ ap okay before.so

  pub only-snap_del : (state : State B) (entry : Entry) (id : SnapId) (m : Member B) → is_snap_del entry.call ≡ false → member_with state.members id ≡ Ok m → IsAmong (after files state entry).members id m
  only-snap_del state entry id m not_del here =
      let later : IsSeen unnamed (after files state entry).members id (unnamed m) = with-seen unnamed (after files state entry).members id (unnamed m) (more-after unnamed state entry id (unnamed m) (λ ren. unnamed-same) not_del (seen-with unnamed state.members id m here)) in
      record { there = later.member; found = later.found; same = later.so }

  -- ---- ids are issued from 1 on

  -- the ids of snapshots that are there were issued, and the next one is above 0
  pub record Issued (state : State B) : Type 0 where
    pub next : 1 ≤ state.next_snapshot
    pub each : (id : SnapId) (m : Member B) → seen unnamed state.members id ≡ Some m → was_issued state id ≡ true

  new_or_old : (ms : List (Member B)) (m n : Member B) (id : SnapId) → seen unnamed (ms ++ m ∷ []) id ≡ Some n → (m.snapshot.0 == id.0) ≡ true ⊎ seen unnamed ms id ≡ Some n
  new_or_old ms m n id there = by (m.snapshot.0 == id.0) refl
    where
      by : (b : Bool) → (m.snapshot.0 == id.0) ≡ b → (m.snapshot.0 == id.0) ≡ true ⊎ seen unnamed ms id ≡ Some n
      by true e = inl e
      by false e = inr (sym (seen-append unnamed ms m id e) ∙ there)

  new_issued : (next id : ℕ) → 1 ≤ next → (next == id) ≡ true → (nat_lt 0 id && nat_lt id (next + 1)) ≡ true
  new_issued next id one same = grind (arith, nat_tests)

  issued-snapped : (state : State B) (name : List ℕ) (at : Names × Node B) → Issued state → Issued (snapped state name at)
  issued-snapped state name at all = record {
    next = omega (arith, all.next);
    each = λ id m there. elim (new_or_old state.members (new_member state name at) m id there) as (λ _. was_issued (snapped state name at) id ≡ true) [
      | inl same ↦ new_issued state.next_snapshot id.0 all.next same
      | inr old ↦ issued-later state (snapped state name at) id (omega arith) (all.each id m old)
    ];
  }

  issued-change : (state : State B) (call : Call) → Issued state → Issued (change files state call)
  issued-change state (calls.Snap path name) all = if_asked-keeps Issued (snapped state name) state (snap_at state path name) all (λ at is. issued-snapped state name at all)
  issued-change state (calls.SnapDel path name) all = if_asked-keeps Issued (unsnapped state) state (snap_del_at state path name) all (λ gone is. record { next = all.next; each = λ id m there. all.each id m (seen-filter unnamed state.members gone id m there) })
  issued-change state (calls.SnapRen path old new) all = if_asked-keeps Issued (resnapped state new) state (snap_ren_at state path old new) all (λ other is. record { next = all.next; each = λ id m there. all.each id m (sym (seen-map unnamed state.members other new id (unnamed-same other new)) ∙ there) })
  issued-change state call all =
      let kept : SameSnapshots state (change files state call) = same_snapshots state call refl in
      record {
        next = omega (arith, all.next, kept.issued);
        each = λ id m there. issued-later state (change files state call) id (omega (arith, kept.issued)) (all.each id m (ap (λ (ms : List (Member B)). seen unnamed ms id) (sym kept.members) ∙ there));
      }

  pub issued-after : (state : State B) (entry : Entry) → Issued state → Issued (after files state entry)
  issued-after state entry all = retold (effect (takes_effect entry))
    where
      effect : (b : Bool) → Issued (changed_if b files state entry.call)
      effect true = issued-change state entry.call all
      effect false = all

      retold : Issued (changed_if (takes_effect entry) files state entry.call) → Issued (after files state entry)
      retold done = record { next = done.next; each = done.each }

  issued-replay : (state : State B) (entries : List Entry) → Issued state → Issued (replay_from files state entries)
  issued-replay state [] all = all
  issued-replay state (entry ∷ entries) all = issued-replay (after files state entry) entries (issued-after state entry all)

  issued-start : Issued start
  issued-start = record { next = omega arith; each = λ id m there. absurd (none_some m there) }

  pub ids-issued : (journal : List Entry) (id : SnapId) (m : Member B) → member_with (replay_from files start journal).members id ≡ Ok m → was_issued (replay_from files start journal) id ≡ true
  ids-issued journal id m there = (issued-replay start journal issued-start).each id (unnamed m) (seen-with unnamed (replay_from files start journal).members id m there)

pub frozen_stays : FrozenStays
frozen_stays = frozen-stays plain_files

pub only_snap_ren : OnlySnapRen
only_snap_ren = only-snap_ren plain_files

pub only_snap_del : OnlySnapDel
only_snap_del = only-snap_del plain_files

pub ids_issued : IdsIssued
ids_issued = ids-issued plain_files

pub issued_stays : IssuedStays
issued_stays state entries id issued = issued-later plain_files state (replay_from plain_files state entries) id (next-replay plain_files state entries) issued
