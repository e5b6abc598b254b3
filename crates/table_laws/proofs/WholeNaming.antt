-- A snapshot with another name.
use Rattle.std.proofs.Common.{◌≡◌, ℕ, ◌+◌, ◌<◌, ◌≤◌, Bool, true, false, cond, nat_eq, inl, inr, List, [], ◌∷◌, map, Ok, Err, refl, sym, ap, subst, ◌∙◌, arith}
use Rattle.std.specs.Prelude.{◌≢◌, not}
use Rattle.std.specs.List.{Contains}
use Rattle.std.proofs.lemmas.Bool.Decides.{Decides-eqb}
use Rattle.std.proofs.lemmas.Slice.Eq.{bytes_eq-Decides}
use Rattle.hs_types.specs.Names.{Names, is_name}
use Rattle.hs_types.specs.declared.ids.InodeId.{InodeId}
use Rattle.hs_types.specs.declared.ids.SnapId.{SnapId}
use Rattle.hs_types.specs.declared.call.Call.TheVariants as calls
use Rattle.hs_plain.specs.declared.state.Node.{Node}
use Rattle.hs_plain.specs.declared.state.State.{State}
use Rattle.hs_plain.specs.declared.state.Member.{Member}
use Rattle.hs_plain.specs.declared.state.FileBlocks.{FileBlocks}
use Rattle.hs_plain.specs.Asked.{Asked, refuse_if}
use Rattle.hs_plain.specs.Files.{Files}
use Rattle.hs_plain.specs.Tree.{node_at, same_inode}
use Rattle.hs_plain.specs.State.{is_snapshottable, is_named, snapshot_named, has_snapshot_named}
use Rattle.hs_plain.specs.Snapshotting.{directory_at, snap_ren_at}
use Rattle.hs_plain.specs.Change.{change, ticked, if_asked, is_snapshot, rename_member, resnapped}
use Rattle.hs_plain.specs.Valid.{IsValid}
use Rattle.hs_plain.proofs.ValidTrees.{first, second, both}
use Rattle.hs_plain.proofs.ValidAsked.{ok_then, same_ok}
use Rattle.hs_plain.proofs.ValidLists.{In, by_test}
use Rattle.hs_plain.proofs.ValidMembers.{inode_so, inode_test, one_by, names_so, snapshot_of}
use Rattle.hs_plain.proofs.ValidShapes.{true_false}
use Rattle.hs_plain.proofs.Validity.{valid-change}
use Rattle.snapshot_manager.specs.Snapshots as snapshots
use Rattle.snapshot_manager.specs.Snapshots.{Snapshots}
use Rattle.snapshot_manager.specs.Members as members
use Rattle.snapshot_manager.specs.Members.{AreMembers}
use Rattle.snapshot_manager.proofs.MemberLemmas.{renamed_there}
use Rattle.inode_table.specs.Joined.{told, AreTold}
use Rattle.inode_table.specs.Marks.{InCopy}
use Rattle.inode_table.specs.Reads.{ReadsAs, Child}
use Rattle.inode_table.specs.RowHistory.{Table, marks_of, shown}
use Rattle.inode_table.specs.Stands.{Stands, root_id}
use Rattle.inode_table.specs.Tabled.{Tabled}
use Rattle.inode_table.specs.Whole.{StandsFor}
use Rattle.table_laws.proofs.RecordElements.{from_map}
use Rattle.table_laws.proofs.Recording.{resnapped-among, records-renamed}
use Rattle.table_laws.proofs.WholeMidway.{Midway, begun, ended}
use Rattle.table_laws.proofs.WholeSnaps.{some-changed}

-- ---- what doesn't see names

-- what holds of each snapshot, under its name or the other one
by_source : (P : Member FileBlocks → Type 0) (id : SnapId) (name : List ℕ) (ms : List (Member FileBlocks)) → ((m : Member FileBlocks) → Contains ms m → P m × P (record m { name = name })) → (m : Member FileBlocks) → Contains (map (rename_member id name) ms) m → P m
by_source P id name ms each m within = let o = from_map (rename_member id name) ms m within in subst P o.2
    (elim (is_snapshot id o.0) as (λ b. P (cond b (record o.0 { name = name }) o.0)) [ true ↦ (each o.0 o.1).1 | false ↦ (each o.0 o.1).0 ])

stands-resnapped : (table : Table) (state : State FileBlocks) (issued : ℕ) (name : List ℕ) (id : SnapId) → Stands table state issued → Stands table (resnapped state name id) issued
stands-resnapped table state issued name id stands = record {
  live = stands.live;
  frozen = by_source (λ m. ReadsAs (shown table m.snapshot.0) m.directory (node_at m.tree)) id name state.members (λ m c. (stands.frozen m c, stands.frozen m c));
  marks = record {
    down = λ p x m kid c. by_source (λ m. (marks_of table x).since < m.snapshot.0 → InCopy m x → (m.directory ≢ x) → InCopy m p) id name state.members (λ m c. (stands.marks.down p x m kid c, stands.marks.down p x m kid c)) m c;
    up = λ p x m kid c. by_source (λ m. (marks_of table x).since < m.snapshot.0 → InCopy m p → InCopy m x × Child (node_at m.tree) p x) id name state.members (λ m c. (stands.marks.up p x m kid c, stands.marks.up p x m kid c)) m c;
    carried = λ x m has c. by_source (λ m. m.snapshot.0 ≤ (marks_of table x).since → InCopy m x → m.snapshot.0 ≤ (marks_of table x).carry) id name state.members (λ m c. (stands.marks.carried x m has c, stands.marks.carried x m has c)) m c;
    since_issued = stands.marks.since_issued;
    carry_issued = stands.marks.carry_issued;
  };
  top = record {
    own = by_source (λ m. InCopy m root_id → m.directory ≡ root_id) id name state.members (λ m c. (stands.top.own m c, stands.top.own m c));
    above = by_source (λ m. 0 < m.snapshot.0) id name state.members (λ m c. (stands.top.above m c, stands.top.above m c));
    since = stands.top.since;
  };
  ids_issued = by_source (λ m. m.snapshot.0 ≤ issued) id name state.members (λ m c. (stands.ids_issued m c, stands.ids_issued m c));
}

-- ---- the snapshot of a name is the one of its id

err_ok : {X Y : Type 0} {y : Y} {x : X} → Err y ≡ Ok x → ⊥
err_ok h = cc

found_named : (ms : List (Member FileBlocks)) (dir : InodeId) (name : List ℕ) (id : SnapId) → snapshot_named ms dir name ≡ Ok id → (m : Member FileBlocks) × (In ms m) × (is_named dir name m ≡ true) × (m.snapshot ≡ id)
found_named [] dir name id h = absurd (err_ok h)
found_named (m ∷ ms) dir name id h = by (found_named ms dir name id) h
  where
    by : (snapshot_named ms dir name ≡ Ok id → (x : Member FileBlocks) × (In ms x) × (is_named dir name x ≡ true) × (x.snapshot ≡ id)) → snapshot_named (m ∷ ms) dir name ≡ Ok id
        → (x : Member FileBlocks) × (In (m ∷ ms) x) × (is_named dir name x ≡ true) × (x.snapshot ≡ id)
    by rest = (elim (is_named dir name m) as (λ b. is_named dir name m ≡ b → cond {A = Asked SnapId} b (Ok m.snapshot) (snapshot_named ms dir name) ≡ Ok id → (x : Member FileBlocks) × (In (m ∷ ms) x) × (is_named dir name x ≡ true) × (x.snapshot ≡ id)) [
      | true ↦ λ t h. (m, inl refl, t, same_ok h)
      | false ↦ λ f h. let w = rest h in (w.0, inr w.1, w.2, w.3)
    ]) refl

map_told : (r : Member FileBlocks → Member FileBlocks) (s : members.Member → members.Member) (ms : List (Member FileBlocks)) → ((m : Member FileBlocks) → In ms m → told (r m) ≡ s (told m)) → map told (map r ms) ≡ map s (map told ms)
map_told r s [] same = refl
map_told r s (m ∷ ms) same = λ i. same m (inl refl) i ∷ map_told r s ms (λ o at. same o (inr at)) i

module _ (state : State FileBlocks) (valid : IsValid state) (dir : InodeId) (old : List ℕ) (id : SnapId) (found : snapshot_named state.members dir old ≡ Ok id) where
  one : (m : Member FileBlocks) × (In state.members m) × (is_named dir old m ≡ true) × (m.snapshot ≡ id)
  one = found_named state.members dir old id found

  one_dir : one.0.directory ≡ dir
  one_dir = inode_so one.0.directory dir (first (same_inode one.0.directory dir) _ one.2)

  one_name : one.0.name ≡ old
  one_name = (bytes_eq-Decides one.0.name old).0 (second (same_inode one.0.directory dir) _ one.2)

  this : (m : Member FileBlocks) → In state.members m → m.snapshot.0 ≡ id.0 → members.is_member dir old (told m) ≡ true
  this m at same = let e : m ≡ one.0 = one_by snapshot_of state.members 0 valid.snapshots_rise m one.0 at one.1 (same ∙ ap (λ (i : SnapId). i.0) (sym one.3)) in
      both (inode_test dir m.directory (ap (λ (i : InodeId). i.0) (sym (ap (λ (k : Member FileBlocks). k.directory) e ∙ one_dir)))) ((bytes_eq-Decides old m.name).1 (sym (ap (λ (k : Member FileBlocks). k.name) e ∙ one_name)))

  that : (m : Member FileBlocks) → In state.members m → members.is_member dir old (told m) ≡ true → m.snapshot.0 ≡ id.0
  that m at h = names_so state.members valid.different_names m one.0 at one.1 (sym (inode_so dir m.directory (first (nat_eq dir.0 m.directory.0) _ h)) ∙ sym one_dir)
      (sym ((bytes_eq-Decides old m.name).0 (second (nat_eq dir.0 m.directory.0) _ h)) ∙ sym one_name) ∙ ap (λ (i : SnapId). i.0) one.3

  pub same-test : (m : Member FileBlocks) → In state.members m → is_snapshot id m ≡ members.is_member dir old (told m)
  same-test m at = by_test (is_snapshot id m)
      (λ t. t ∙ sym (this m at ((Decides-eqb m.snapshot.0 id.0).0 t)))
      (λ f. f ∙ sym (by_test (members.is_member dir old (told m)) (λ t. absurd (true_false ((Decides-eqb m.snapshot.0 id.0).1 (that m at t)) f)) (λ g. g)))

  told_one : (new : List ℕ) (m : Member FileBlocks) → In state.members m → told (rename_member id new m) ≡ members.rename_member dir old new (told m)
  told_one new m at = ap (λ b. told (cond b (record m { name = new }) m)) (same-test m at) ∙ by (members.is_member dir old (told m))
    where
      by : (b : Bool) → told (cond b (record m { name = new }) m) ≡ cond b (m.directory, record { id = m.snapshot; tick = m.tick; name = new }) (told m)
      by true = refl
      by false = refl

  told_renamed : (new : List ℕ) (snaps : Snapshots) → AreTold state.members snaps → AreTold (resnapped state new id).members (snapshots.changed dir (snapshots.renamed old new) snaps)
  told_renamed new snaps are = subst (λ ms. AreMembers ms (snapshots.changed dir (snapshots.renamed old new) snaps)) (sym (map_told (rename_member id new) (members.rename_member dir old new) state.members (told_one new)))
      (renamed_there (map told state.members) snaps dir old new are)

named_there : (state : State FileBlocks) (text old new : List ℕ) (path : Names) (node : Node FileBlocks) (id : SnapId) → directory_at state text ≡ Ok (path, node) → snap_ren_at state text old new ≡ Ok id → snapshot_named state.members node.id old ≡ Ok id
named_there state text old new path node id at h =
    let a = ok_then (directory_at state text) _ id h in
    let b = ok_then (refuse_if (not (is_name new)) _) _ id a.2 in
    let c = ok_then (refuse_if (not (is_snapshottable state a.0.1.id)) _) _ id b.2 in
    let d = ok_then (refuse_if (has_snapshot_named state a.0.1.id new) _) _ id c.2 in
    let same : a.0 ≡ (path, node) = same_ok (sym a.1 ∙ at) in
    ap (λ (x : Names × Node FileBlocks). snapshot_named state.members x.1.id old) (sym same) ∙ d.2

pub whole-snap_ren : (files : Files FileBlocks) (t : Tabled) (snaps : Snapshots) (state : State FileBlocks) (text old new : List ℕ) (path : Names) (node : Node FileBlocks) (id : SnapId)
    → StandsFor t snaps state → directory_at state text ≡ Ok (path, node) → snap_ren_at state text old new ≡ Ok id
    → StandsFor t (snapshots.changed node.id (snapshots.renamed old new) snaps) (ticked (change files state (calls.SnapRen text old new)))
whole-snap_ren files t snaps state text old new path node id before at asked = subst (λ (s : State FileBlocks). StandsFor t later (ticked s)) (sym is)
    (ended t later next 0 (subst (λ (s : State FileBlocks). IsValid (ticked s)) is (valid-change state before.valid files (calls.SnapRen text old new)))
    (stands-resnapped t.rows state snaps.issued.0 new id before.stands) midway (omega arith)
    (told_renamed state before.valid node.id old id (named_there state text old new path node id at asked) new snaps before.told)
    (λ q. before.snapshottable q ∙ sym (some-changed node.id q (snapshots.renamed old new) snaps)) before.next_inode before.next_snapshot)
  where
    later : Snapshots
    later = snapshots.changed node.id (snapshots.renamed old new) snaps

    next : State FileBlocks
    next = resnapped state new id

    is : change files state (calls.SnapRen text old new) ≡ resnapped state new id
    is = ap (if_asked (resnapped state new) state) asked

    start : Midway state.members snaps.issued.0 (state.tick + 1) 0 [] t
    start = begun t snaps state before

    midway : Midway (resnapped state new id).members snaps.issued.0 (state.tick + 1) 0 [] t
    midway = let among = resnapped-among state new id in record {
      records = records-renamed t state.members (resnapped state new id).members snaps.issued.0 among.0 among.1 before.records;
      some = start.some;
      filled = start.filled;
      named = start.named;
      but = start.but;
      within = start.within;
      waiting = start.waiting;
    }
