-- Whole calls on snapshots: a snapshot, and what may have them.
use Rattle.std.proofs.Common.{◌≡◌, ℕ, ◌+◌, Bool, true, false, cond, ◌⊎◌, inl, inr, List, [], ◌∷◌, ◌++◌, map, filter, Ok, refl, sym, ap, subst, ◌∙◌, arith}
use Rattle.std.specs.Prelude.{not, ◌&&◌, ◌||◌, is_some, IsTrue, nat_lt}
use Rattle.std.specs.List.{list_any}
use Rattle.std.proofs.lemmas.Bool.{cases_Bool}
use Rattle.std.proofs.lemmas.List.{map-append}
use Rattle.hs_types.specs.Names.{Names}
use Rattle.hs_types.specs.declared.ids.InodeId.{InodeId}
use Rattle.hs_types.specs.declared.ids.SnapId.{SnapId}
use Rattle.hs_types.specs.declared.name.SnapItem.{SnapItem}
use Rattle.hs_types.specs.declared.call.Call.TheVariants as calls
use Rattle.hs_plain.specs.declared.state.Node.{Node}
use Rattle.hs_plain.specs.declared.state.State.{State}
use Rattle.hs_plain.specs.declared.state.Member.{Member}
use Rattle.hs_plain.specs.declared.state.FileBlocks.{FileBlocks}
use Rattle.hs_plain.specs.Files.{Files}
use Rattle.hs_plain.specs.Tree.{same_inode}
use Rattle.hs_plain.specs.State.{is_snapshottable}
use Rattle.hs_plain.specs.Snapshotting.{allow_at, disallow_at, snap_at}
use Rattle.hs_plain.specs.Change as plain
use Rattle.hs_plain.specs.Change.{change, ticked, if_asked, snapped, new_member}
use Rattle.hs_plain.specs.Valid.{IsValid}
use Rattle.hs_plain.proofs.ValidAsked.{MaySnap, snap_allowed}
use Rattle.hs_plain.proofs.ValidLists.{In}
use Rattle.hs_plain.proofs.ValidMembers.{inode_test}
use Rattle.hs_plain.proofs.Validity.{valid-change}
use Rattle.snapshot_manager.specs.Snapshots.{Snapshots, IsProper, snaps_of, allowed, disallowed}
use Rattle.snapshot_manager.specs.Members.{AreMembers}
use Rattle.snapshot_manager.proofs.MemberLemmas.{added_last, allowed_kept}
use Rattle.file_changes.specs.History as files
use Rattle.file_changes.specs.declared.state.FileRecord.{FileRecord}
use Rattle.file_changes.proofs.Reading.{both, is_less}
use Rattle.dir_changes.specs.History as dirs
use Rattle.inode_table.specs.Joined.{told, AreTold}
use Rattle.inode_table.specs.Records.{Recorded}
use Rattle.inode_table.specs.RowHistory.{RowHistory, File, Dir, Table}
use Rattle.inode_table.specs.Snaps.{Rising, NumbersWithin}
use Rattle.inode_table.specs.Stands.{Stands}
use Rattle.inode_table.specs.Tabled.{Tabled}
use Rattle.inode_table.specs.Whole.{AreRecords, StandsFor, numbers_in}
use Rattle.table_laws.specs.WholeCalls as tables
use Rattle.table_laws.proofs.Recording.{records-plain}
use Rattle.table_laws.proofs.WholeMoves.{snapped-stands}
use Rattle.table_laws.proofs.WholeNodes.{whole-ticked}
use Rattle.table_laws.proofs.WholeMidway.{Midway, begun, ended}
use Rattle.table_laws.proofs.WholeParts.{within-of, before-of}
use Rattle.table_laws.proofs.WholeSnaps.{some-disallowed, told-disallowed, none-of, allowed-there, some-allowed, some-changed, any-filter, any-push}

-- ---- a snapshot

file_rising : (members : List (Member FileBlocks)) (n : ℕ) (rs : List FileRecord) → Recorded members n (map (λ r. r.number.0) rs) → IsTrue (files.rising n rs)
file_rising members n [] h = refl
file_rising members n (r ∷ rs) h = both (nat_lt n r.number.0) _ (is_less n r.number.0 h.0) (file_rising members r.number.0 rs h.2)

dir_rising : (members : List (Member FileBlocks)) (n : ℕ) (rs : List dirs.Past) → Recorded members n (map (λ r. r.number.0) rs) → IsTrue (dirs.rising n rs)
dir_rising members n [] h = refl
dir_rising members n (r ∷ rs) h = both (nat_lt n r.number.0) _ (is_less n r.number.0 h.0) (dir_rising members r.number.0 rs h.2)

numbers-within : (t : Tabled) (members : List (Member FileBlocks)) (issued : ℕ) → AreRecords t.rows t.index members issued → NumbersWithin t.rows issued
numbers-within t members issued are id rows is = (rise rows (are.numbers id rows is), are.within id rows is)
  where
    rise : (rows : RowHistory) → Recorded members 0 (numbers_in rows) → Rising rows
    rise (File file) h = file_rising members 0 file.records h
    rise (Dir dir) h = dir_rising members 0 dir.records h

module _ (t : Tabled) (snaps : Snapshots) (state : State FileBlocks) (path : Names) (node : Node FileBlocks) (name : List ℕ) (before : StandsFor t snaps state) (may : MaySnap state name path node) where
  abbrev next : State FileBlocks
  next = snapped state name (path, node)

  abbrev item : SnapItem
  item = record { id = record { 0 = state.next_snapshot }; tick = state.tick + 1; name = name }

  abbrev later : Snapshots
  later = tables.with_snapshot state node.id name snaps

  is_issued : snaps.issued.0 + 1 ≡ later.issued.0
  is_issued = before.next_snapshot

  there : is_some (snaps_of snaps node.id) ≡ true
  there = sym (before.snapshottable node.id) ∙ may.allowed

  midway : Midway next.members (snaps.issued.0 + 1) (state.tick + 1) 0 [] t
  midway = record {
    records = records-plain t state snaps.issued.0 3 name (path, node) (sym before.next_snapshot) before.filled before.records;
    some = (begun t snaps state before).some;
    filled = (begun t snaps state before).filled;
    named = before.naming;
    but = (begun t snaps state before).but;
    within = let within = within-of t snaps state before in record { each = λ id mark h. let was = within.each id mark h in (let le = was.0 in omega (arith, le), let le = was.1 in omega (arith, le), was.2); root = within.root };
    waiting = before.handed_out;
  }

  told_after : AreTold next.members later
  told_after = subst (λ ms. AreMembers ms later) (sym (map-append told state.members (new_member state name (path, node) ∷ [])))
      (added_last (map told state.members) snaps node.id item there (let is = is_issued in omega (arith, is)) before.told)

  whole-snapped : IsValid (ticked next) → StandsFor t later (ticked next)
  whole-snapped valid = ended t later next 0 valid
      (subst (Stands t.rows next) is_issued (snapped-stands t state snaps.issued.0 path node name (before-of t snaps state before) (numbers-within t state.members snaps.issued.0 before.records) may.is_there.there (sym before.next_snapshot)))
      (subst (λ n. Midway next.members n (state.tick + 1) 0 [] t) is_issued midway) (omega arith) told_after
      (λ id. before.snapshottable id ∙ sym (some-changed node.id id (λ items. items ++ item ∷ []) snaps)) before.next_inode refl

pub whole-snap : (files : Files FileBlocks) (t : Tabled) (snaps : Snapshots) (state : State FileBlocks) (text name : List ℕ) (path : Names) (node : Node FileBlocks)
    → StandsFor t snaps state → snap_at state text name ≡ Ok (path, node) → StandsFor t (tables.with_snapshot state node.id name snaps) (ticked (change files state (calls.Snap text name)))
whole-snap files t snaps state text name path node before asked = subst (λ (s : State FileBlocks). StandsFor t (tables.with_snapshot state node.id name snaps) (ticked s)) (sym is)
    (whole-snapped t snaps state path node name before (snap_allowed state text name (path, node) asked) (subst (λ (s : State FileBlocks). IsValid (ticked s)) is (valid-change state before.valid files (calls.Snap text name))))
  where
    is : change files state (calls.Snap text name) ≡ snapped state name (path, node)
    is = ap (if_asked (snapped state name) state) asked

-- ---- other snapshottable directories, and the same snapshots

other_ids : (table : Table) (state : State FileBlocks) (issued : ℕ) (ids : List InodeId) → Stands table state issued → Stands table (record state { snapshottable = ids }) issued
other_ids table state issued ids stands = record { live = stands.live; frozen = stands.frozen; marks = stands.marks; top = stands.top; ids_issued = stands.ids_issued }

whole-ids : (t : Tabled) (snaps later : Snapshots) (state : State FileBlocks) (ids : List InodeId) → StandsFor t snaps state → IsValid (ticked (record state { snapshottable = ids })) → later.issued ≡ snaps.issued → AreTold state.members later
    → ((id : InodeId) → list_any (same_inode id) ids ≡ is_some (snaps_of later id)) → StandsFor t later (ticked (record state { snapshottable = ids }))
whole-ids t snaps later state ids before valid issued are same = ended t later (record state { snapshottable = ids }) 0 valid
    (subst (λ (i : SnapId). Stands t.rows (record state { snapshottable = ids }) i.0) (sym issued) (other_ids t.rows state snaps.issued.0 ids before.stands))
    (subst (λ (i : SnapId). Midway state.members i.0 (state.tick + 1) 0 [] t) (sym issued) (begun t snaps state before)) (omega arith) are same before.next_inode
    (ap (λ (i : SnapId). i.0 + 1) issued ∙ before.next_snapshot)

pub whole-disallow : (files : Files FileBlocks) (t : Tabled) (snaps : Snapshots) (state : State FileBlocks) (text : List ℕ) (id : InodeId)
    → StandsFor t snaps state → disallow_at state text ≡ Ok id → StandsFor t (disallowed id snaps) (ticked (change files state (calls.Disallow text)))
whole-disallow files t snaps state text id before asked = subst (λ (s : State FileBlocks). StandsFor t (disallowed id snaps) (ticked s)) (sym is)
    (whole-ids t snaps (disallowed id snaps) state (plain.disallowed state id).snapshottable before valid refl
    (told-disallowed (id ∷ []) (map told state.members) snaps (λ dir at. none-of (is_snapshottable (plain.disallowed state id)) dir state.members (no_more dir at) valid.member_dirs) before.told)
    (λ q. any-filter id q state.snapshottable ∙ ap (λ b. b && not (same_inode q id)) (before.snapshottable q) ∙ ap (λ b. is_some (snaps_of snaps q) && not b) (sym (or_false (same_inode q id))) ∙ sym (some-disallowed (id ∷ []) q snaps)))
  where
    is : change files state (calls.Disallow text) ≡ plain.disallowed state id
    is = ap (if_asked (plain.disallowed state) state) asked

    valid : IsValid (ticked (plain.disallowed state id))
    valid = subst (λ (s : State FileBlocks). IsValid (ticked s)) is (valid-change state before.valid files (calls.Disallow text))

    or_false : (b : Bool) → (b || false) ≡ b
    or_false true = refl
    or_false false = refl

    and_not : (b : Bool) → (b && not true) ≡ false
    and_not true = refl
    and_not false = refl

    no_more : (dir : InodeId) → In (id ∷ []) dir → is_snapshottable (plain.disallowed state id) dir ≡ false
    no_more dir (inl e) = any-filter id dir state.snapshottable ∙ ap (λ b. is_snapshottable state dir && not b) (inode_test dir id (ap (λ (i : InodeId). i.0) (sym e))) ∙ and_not (is_snapshottable state dir)
    no_more dir (inr at) = absurd at

pub whole-allow : (files : Files FileBlocks) (t : Tabled) (snaps : Snapshots) (state : State FileBlocks) (text : List ℕ) (id : InodeId)
    → IsProper snaps → StandsFor t snaps state → allow_at state text ≡ Ok id → StandsFor t (allowed id snaps) (ticked (change files state (calls.Allow text)))
whole-allow files t snaps state text id proper before asked = by (cases_Bool (is_snapshottable state id))
  where
    is : change files state (calls.Allow text) ≡ plain.allowed state id
    is = ap (if_asked (plain.allowed state) state) asked

    by : (is_snapshottable state id ≡ true) ⊎ (is_snapshottable state id ≡ false) → StandsFor t (allowed id snaps) (ticked (change files state (calls.Allow text)))
    by (inl there) =
        let same : change files state (calls.Allow text) ≡ state = is ∙ ap (λ b. cond b state (record state { snapshottable = state.snapshottable ++ id ∷ [] })) there in
        subst (λ (s : State FileBlocks). StandsFor t (allowed id snaps) (ticked s)) (sym same)
        (subst (λ (s : Snapshots). StandsFor t s (ticked state)) (sym (allowed-there id snaps (sym (before.snapshottable id) ∙ there))) (whole-ticked t snaps state before))
    by (inr absent) =
        let more : change files state (calls.Allow text) ≡ record state { snapshottable = state.snapshottable ++ id ∷ [] } = is ∙ ap (λ b. cond b state (record state { snapshottable = state.snapshottable ++ id ∷ [] })) absent in
        let none : is_some (snaps_of snaps id) ≡ false = sym (before.snapshottable id) ∙ absent in
        subst (λ (s : State FileBlocks). StandsFor t (allowed id snaps) (ticked s)) (sym more)
        (whole-ids t snaps (allowed id snaps) state (state.snapshottable ++ id ∷ []) before (subst (λ (s : State FileBlocks). IsValid (ticked s)) more (valid-change state before.valid files (calls.Allow text)))
        (issued_same none) (allowed_kept (map told state.members) snaps id proper before.told)
        (λ q. any-push id q state.snapshottable ∙ ap (λ b. b || same_inode q id) (before.snapshottable q) ∙ sym (some-allowed id q snaps proper none)))
      where
        issued_same : is_some (snaps_of snaps id) ≡ false → (allowed id snaps).issued ≡ snaps.issued
        issued_same none = ap (λ b. (cond b snaps (record snaps { dirs = filter (λ d. nat_lt d.0.0 id.0) snaps.dirs ++ (id, []) ∷ filter (λ d. nat_lt id.0 d.0.0) snaps.dirs })).issued) none
