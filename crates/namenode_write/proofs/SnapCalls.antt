-- Calls on snapshots, over the rows of a table.
use Rattle.std.proofs.Common.{◌≡◌, ℕ, ◌+◌, ◌≤◌, Bool, true, false, cond, List, [], ◌∷◌, ◌++◌, length, Option, Ok, Err, refl, sym, ap, subst, ◌∙◌, length-append, arith}
use Rattle.std.specs.Prelude.{not}
use Rattle.std.proofs.lemmas.List.{length-map}
use Rattle.std.proofs.lemmas.List.Sums.{length-filter, count_by-le-length}
use Rattle.hs_types.specs.Names.{Names}
use Rattle.hs_types.specs.Blocks.{BlockMap}
use Rattle.hs_types.specs.declared.ids.InodeId.{InodeId}
use Rattle.hs_types.specs.declared.ids.SnapId.{SnapId}
use Rattle.hs_types.specs.declared.call.Call.{Call}
use Rattle.hs_types.specs.declared.call.Call.TheVariants as calls
use Rattle.hs_types.specs.declared.reply.Reply.{Reply}
use Rattle.hs_types.specs.declared.reply.Reply.TheVariants as replies
use Rattle.hs_plain.specs.declared.state.Node.{Node}
use Rattle.hs_plain.specs.declared.state.Member.{Member}
use Rattle.hs_plain.specs.declared.state.State.{State}
use Rattle.hs_plain.specs.declared.state.FileBlocks.{FileBlocks}
use Rattle.hs_plain.specs.Asked.{Asked}
use Rattle.hs_plain.specs.Files.{plain_files, block_files}
use Rattle.hs_plain.specs.State.{is_snapshottable}
use Rattle.hs_plain.specs.Snapshotting.{directory_at, allow_at, disallow_at, snap_at, snap_ren_at}
use Rattle.hs_plain.specs.Answer.{asked, replied, is_modifying, uses_store, snap_made_reply}
use Rattle.hs_plain.specs.Change.{change, ticked, if_asked, allowed as plain_allowed, disallowed as plain_disallowed, new_member, snapped, is_snapshot, unsnapped, rename_member, resnapped}
use Rattle.snapshot_manager.specs.Snapshots.{Snapshots, IsProper, allowed, disallowed, added, changed, renamed}
use Rattle.inode_table.specs.Kept.{told}
use Rattle.inode_table.specs.Totals as totals
use Rattle.inode_table.specs.Whole.{StandsFor}
use Rattle.table_laws.specs.WholeCalls.{with_snapshot}
use Rattle.table_laws.proofs.WholeDirs.{whole-snap, whole-allow, whole-disallow}
use Rattle.table_laws.proofs.WholeNaming.{whole-snap_ren}
use Rattle.namenode_write.specs.declared.rows.space.RowSpace.{RowSpace}
use Rattle.namenode_write.specs.Outcome.{tick_of, HasPlace, is_freeing, most_added, IsOutcome}
use Rattle.namenode_write.specs.Rows.{Held, held, all_of, weight, done, IsAt, IsStanding, IsDone}
use Rattle.namenode_write.specs.SnapTests.{dir_of}
use Rattle.namenode_write.proofs.Outcomes.{IsAlike, done-outcome}
use Rattle.namenode_write.proofs.RowDone.{call-done}
use Rattle.namenode_write.proofs.SnapTests.{TakesOne, TakesOther, dir-so}

-- ---- how many snapshots there are then

module _ {B : Type 0} (state : State B) where
  allow_members : (a : Asked InodeId) → length (if_asked (plain_allowed state) state a).members ≤ length state.members
  allow_members (Err why) = omega arith
  allow_members (Ok id) = by (is_snapshottable state id)
    where
      by : (b : Bool) → length (cond b state (record state { snapshottable = state.snapshottable ++ id ∷ [] })).members ≤ length state.members
      by true = omega arith
      by false = omega arith

  disallow_members : (a : Asked InodeId) → length (if_asked (plain_disallowed state) state a).members ≤ length state.members
  disallow_members (Err why) = omega arith
  disallow_members (Ok id) = omega arith

  snap_members : (name : List ℕ) (a : Asked (Names × Node B)) → length (if_asked (snapped state name) state a).members ≤ length state.members + 1
  snap_members name (Err why) = omega arith
  snap_members name (Ok at) = let more = length-append state.members (new_member state name at ∷ []) in omega (arith, more)

  snap_ren_members : (name : List ℕ) (a : Asked SnapId) → length (if_asked (resnapped state name) state a).members ≤ length state.members
  snap_ren_members name (Err why) = omega arith
  snap_ren_members name (Ok id) = let same = length-map state.members (rename_member id name) in omega (arith, same)

  pub snap_del-members : (a : Asked SnapId) → length (if_asked (unsnapped state) state a).members ≤ length state.members
  snap_del-members (Err why) = omega arith
  snap_del-members (Ok id) =
      let few = count_by-le-length (λ (m : Member B). not (is_snapshot id m)) state.members in
      let same = length-filter (λ (m : Member B). not (is_snapshot id m)) state.members in
      omega (arith, few, same)

-- ---- calls that change no row

-- other snapshots over the same rows
abbrev pub with_snaps : Held → Snapshots → Held
with_snaps before later = record before { snaps = later }

module _ (before : Held) (tick : ℕ) (plain : State (List ℕ)) (at : IsAt before tick plain) where
  abbrev whole : State FileBlocks
  whole = at.stands.state

  pub same-tick : whole.tick ≡ tick
  same-tick = ap (λ (s : State ℕ). s.tick) at.stands.sized ∙ at.tick

  quiet-done : (later : Snapshots) (call : Call) (reply : Reply) → is_modifying call ≡ true → uses_store call ≡ false → asked block_files whole call ≡ Ok reply → StandsFor before.table later (ticked (change block_files whole call))
      → length (change plain_files plain call).members ≤ length plain.members + 1 → IsDone before (with_snaps before later) tick call reply plain
  quiet-done later call reply modifies storeless answered stands few =
      call-done before (with_snaps before later) tick call reply plain at modifies storeless answered stands refl refl at.stands.blocks (omega (arith, few))

  pub allow-done : (text : List ℕ) (dir : InodeId) → IsProper before.snaps → allow_at whole text ≡ Ok dir → IsDone before (with_snaps before (allowed dir before.snaps)) tick (calls.Allow text) replies.Done plain
  allow-done text dir proper is = quiet-done (allowed dir before.snaps) (calls.Allow text) replies.Done refl refl (ap (λ (a : Asked InodeId). replied replies.Done a) is)
      (whole-allow block_files before.table before.snaps whole text dir proper at.stands.stands is) (let few = allow_members plain (allow_at plain text) in omega (arith, few))

  pub disallow-done : (text : List ℕ) (dir : InodeId) → disallow_at whole text ≡ Ok dir → IsDone before (with_snaps before (disallowed dir before.snaps)) tick (calls.Disallow text) replies.Done plain
  disallow-done text dir is = quiet-done (disallowed dir before.snaps) (calls.Disallow text) replies.Done refl refl (ap (λ (a : Asked InodeId). replied replies.Done a) is)
      (whole-disallow block_files before.table before.snaps whole text dir at.stands.stands is) (let few = disallow_members plain (disallow_at plain text) in omega (arith, few))

  pub snap-done : (text name : List ℕ) (dir : InodeId) (id : SnapId) (now : ℕ) → dir_of (snap_at whole text name) ≡ Ok dir → id.0 ≡ before.snaps.issued.0 + 1 → now ≡ tick + 1
      → IsDone before (with_snaps before (added dir (record { id = id; tick = now; name = name }) before.snaps)) tick (calls.Snap text name) (replies.SnapMade id) plain
  snap-done text name dir id now found next later =
      let d = dir-so (snap_at whole text name) dir found in
      let number : id ≡ record { 0 = whole.next_snapshot } = ap (λ (n : ℕ). record { 0 = n }) (next ∙ at.stands.stands.next_snapshot) in
      let moment : now ≡ whole.tick + 1 = later ∙ ap (λ n. n + 1) (sym same-tick) in
      let same : with_snapshot whole d.0.1.id name before.snaps ≡ added dir (record { id = id; tick = now; name = name }) before.snaps =
      λ i. added (d.2 i) (record { id = sym number i; tick = sym moment i; name = name }) before.snaps in
      quiet-done (added dir (record { id = id; tick = now; name = name }) before.snaps) (calls.Snap text name) (replies.SnapMade id) refl refl
      (ap (λ (a : Asked (Names × Node FileBlocks)). replied (snap_made_reply whole) a) d.1 ∙ ap (λ (i : SnapId). Ok (replies.SnapMade i)) (sym number))
      (subst (λ (s : Snapshots). StandsFor before.table s (ticked (change block_files whole (calls.Snap text name)))) same (whole-snap block_files before.table before.snaps whole text name d.0.0 d.0.1 at.stands.stands d.1))
      (snap_members plain name (snap_at plain text name))

  pub snap_ren-done : (text old new : List ℕ) (dir : InodeId) (id : SnapId) → dir_of (directory_at whole text) ≡ Ok dir → snap_ren_at whole text old new ≡ Ok id
      → IsDone before (with_snaps before (changed dir (renamed old new) before.snaps)) tick (calls.SnapRen text old new) replies.Done plain
  snap_ren-done text old new dir id found is =
      let d = dir-so (directory_at whole text) dir found in
      quiet-done (changed dir (renamed old new) before.snaps) (calls.SnapRen text old new) replies.Done refl refl (ap (λ (a : Asked SnapId). replied replies.Done a) is)
      (subst (λ (i : InodeId). StandsFor before.table (changed i (renamed old new) before.snaps) (ticked (change block_files whole (calls.SnapRen text old new)))) d.2
      (whole-snap_ren block_files before.table before.snaps whole text old new d.0.0 d.0.1 id at.stands.stands d.1 is))
      (let few = snap_ren_members plain new (snap_ren_at plain text old new) in omega (arith, few))

-- ---- their outcomes

-- a place for an entry changes no snapshot
pub own-snaps : {S : Type 0} (before place : RowSpace S) → place ≡ record before { journal = place.journal } → place.snaps ≡ before.snaps
own-snaps {S} before place kept = ap (λ (r : RowSpace S). r.snaps) kept

pub placed-one : {S : Type 0} (before place : RowSpace S) → place ≡ record before { journal = place.journal } → (dir : InodeId) (name : List ℕ) → TakesOne before.snaps dir name → TakesOne place.snaps dir name
placed-one before place kept dir name takes = subst (λ (s : Snapshots). TakesOne s dir name) (sym (own-snaps before place kept)) takes

pub placed-other : {S : Type 0} (before place : RowSpace S) → place ≡ record before { journal = place.journal } → (dir : InodeId) (old new : List ℕ) → TakesOther before.snaps dir old new → TakesOther place.snaps dir old new
placed-other before place kept dir old new takes = subst (λ (s : Snapshots). TakesOther s dir old new) (sym (own-snaps before place kept)) takes

-- an id is left for a snapshot
pub id-left : (before : Held) (tick : ℕ) → IsStanding before tick → before.snaps.issued.0 ≤ tick
id-left before tick standing =
    let next = standing.1.stands.stands.next_snapshot in
    let same = ap (λ (s : State ℕ). s.next_snapshot) standing.1.stands.sized in
    let most = standing.1.snapshots in
    omega (arith, next, same, most)

module _ {S : Type 0} (blocks : S → Option BlockMap) (greatest faults : S → ℕ) (before place : RowSpace S) (kept : place ≡ record before { journal = place.journal }) (items : place.journal.items ≡ before.journal.items) where
  -- other snapshots, once the entry has its place
  later-held : (later : Snapshots) → held blocks greatest (record place { snaps = later }) ≡ with_snaps (held blocks greatest before) later
  later-held later = ap (λ (r : RowSpace S). with_snaps (held blocks greatest r) later) kept

  pub snaps-alike : (later : Snapshots) → later ≡ place.snaps → IsAlike blocks greatest before (record place { snaps = later })
  snaps-alike later same = record {
    held = later-held later ∙ ap (with_snaps (held blocks greatest before)) (same ∙ ap (λ (r : RowSpace S). r.snaps) kept);
    store = ap (λ (r : RowSpace S). r.store) kept;
    journal = items;
    limit = ap (λ (r : RowSpace S). r.limit) kept;
  }

  pub snaps-outcome : (later : Snapshots) (call : Call) (reply : Reply) (n : ℕ) → HasPlace place → is_modifying call ≡ true → is_freeing call ≡ false
      → ((plain : State (List ℕ)) → IsAt (held blocks greatest before) (tick_of before) plain → IsDone (held blocks greatest before) (with_snaps (held blocks greatest before) later) (tick_of before) call reply plain)
      → ((plain : State (List ℕ)) → length (change plain_files plain call).members ≤ length plain.members + n) → n ≤ most_added call
      → IsOutcome blocks greatest faults before (record place { snaps = later }) call (Ok reply)
  snaps-outcome later call reply n has modifies frees is few most = done-outcome blocks greatest faults before (record place { snaps = later }) call reply
      (λ plain at. subst (λ (h : Held). IsDone (held blocks greatest before) h (tick_of before) call reply plain) (sym (later-held later)) (is plain at))
      (λ plain at. subst (λ (p : State (List ℕ)). weight (held blocks greatest (record place { snaps = later })) p ≤ weight (held blocks greatest before) plain + most_added call) (stepped plain)
      (let same = ap (λ (h : Held). totals.weight h.table.rows) (later-held later) in let more = few plain in omega (arith, same, more, most)))
      (ap (λ (r : RowSpace S). r.store) kept) items (ap (λ (r : RowSpace S). r.limit) kept)
      (record { below = has.below; most = has.most; room = has.room }) modifies frees (ap (λ (r : RowSpace S). all_of r.waiting.items) kept)
    where
      stepped : (plain : State (List ℕ)) → ticked (change plain_files plain call) ≡ done plain call
      stepped plain = ap (λ b. cond b (ticked (change plain_files plain call)) plain) (sym modifies)

  module _ (has : HasPlace place) (text : List ℕ) where
    pub allow-outcome : (dir : InodeId) (later : Snapshots) → IsProper place.snaps → ((state : State FileBlocks) → StandsFor (told before.table) before.snaps state → allow_at state text ≡ Ok dir) → later ≡ allowed dir place.snaps
        → IsOutcome blocks greatest faults before (record place { snaps = later }) (calls.Allow text) (Ok replies.Done)
    allow-outcome dir later proper asks is = snaps-outcome later (calls.Allow text) replies.Done 0 has refl refl
        (λ plain at. subst (λ (s : Snapshots). IsDone (held blocks greatest before) (with_snaps (held blocks greatest before) s) (tick_of before) (calls.Allow text) replies.Done plain) (sym (is ∙ ap (allowed dir) (own-snaps before place kept)))
        (allow-done (held blocks greatest before) (tick_of before) plain at text dir (subst IsProper (own-snaps before place kept) proper) (asks at.stands.state at.stands.stands)))
        (λ plain. let few = allow_members plain (allow_at plain text) in omega (arith, few)) (omega arith)

    pub disallow-outcome : (dir : InodeId) (later : Snapshots) → ((state : State FileBlocks) → StandsFor (told before.table) before.snaps state → disallow_at state text ≡ Ok dir) → later ≡ disallowed dir place.snaps
        → IsOutcome blocks greatest faults before (record place { snaps = later }) (calls.Disallow text) (Ok replies.Done)
    disallow-outcome dir later asks is = snaps-outcome later (calls.Disallow text) replies.Done 0 has refl refl
        (λ plain at. subst (λ (s : Snapshots). IsDone (held blocks greatest before) (with_snaps (held blocks greatest before) s) (tick_of before) (calls.Disallow text) replies.Done plain) (sym (is ∙ ap (disallowed dir) (own-snaps before place kept)))
        (disallow-done (held blocks greatest before) (tick_of before) plain at text dir (asks at.stands.state at.stands.stands)))
        (λ plain. let few = disallow_members plain (disallow_at plain text) in omega (arith, few)) (omega arith)

    pub snap-outcome : (name : List ℕ) (dir : InodeId) (id : SnapId) (now : ℕ) (later : Snapshots) → ((state : State FileBlocks) → StandsFor (told before.table) before.snaps state → dir_of (snap_at state text name) ≡ Ok dir)
        → id.0 ≡ place.snaps.issued.0 + 1 → now ≡ tick_of before + 1 → later ≡ added dir (record { id = id; tick = now; name = name }) place.snaps
        → IsOutcome blocks greatest faults before (record place { snaps = later }) (calls.Snap text name) (Ok (replies.SnapMade id))
    snap-outcome name dir id now later asks next moment is = snaps-outcome later (calls.Snap text name) (replies.SnapMade id) 1 has refl refl
        (λ plain at. subst (λ (s : Snapshots). IsDone (held blocks greatest before) (with_snaps (held blocks greatest before) s) (tick_of before) (calls.Snap text name) (replies.SnapMade id) plain)
        (sym (is ∙ ap (added dir (record { id = id; tick = now; name = name })) (own-snaps before place kept)))
        (snap-done (held blocks greatest before) (tick_of before) plain at text name dir id now (asks at.stands.state at.stands.stands)
        (next ∙ ap (λ (s : Snapshots). s.issued.0 + 1) (own-snaps before place kept)) moment))
        (λ plain. snap_members plain name (snap_at plain text name)) (omega arith)

    pub snap_ren-outcome : (old new : List ℕ) (dir : InodeId) (id : SnapId) (later : Snapshots) → ((state : State FileBlocks) → StandsFor (told before.table) before.snaps state → dir_of (directory_at state text) ≡ Ok dir)
        → ((state : State FileBlocks) → StandsFor (told before.table) before.snaps state → snap_ren_at state text old new ≡ Ok id) → later ≡ changed dir (renamed old new) place.snaps
        → IsOutcome blocks greatest faults before (record place { snaps = later }) (calls.SnapRen text old new) (Ok replies.Done)
    snap_ren-outcome old new dir id later found asks is = snaps-outcome later (calls.SnapRen text old new) replies.Done 0 has refl refl
        (λ plain at. subst (λ (s : Snapshots). IsDone (held blocks greatest before) (with_snaps (held blocks greatest before) s) (tick_of before) (calls.SnapRen text old new) replies.Done plain)
        (sym (is ∙ ap (changed dir (renamed old new)) (own-snaps before place kept)))
        (snap_ren-done (held blocks greatest before) (tick_of before) plain at text old new dir id (found at.stands.state at.stands.stands) (asks at.stands.state at.stands.stands)))
        (λ plain. let few = snap_ren_members plain new (snap_ren_at plain text old new) in omega (arith, few)) (omega arith)
