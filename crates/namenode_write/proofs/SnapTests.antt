-- Tests of snapshots in memory are the plain machine's tests.
use Rattle.std.proofs.Common.{Bor, ◌≡◌, ℕ, ◌+◌, ◌<◌, Bool, true, false, cond, nat_eq, ◌⊎◌, inl, inr, List, [], ◌∷◌, map, length, Option, Some, None, Ok, Err, refl, sym, ap, subst, ◌∙◌, arith, leb-false}
use Rattle.std.specs.Prelude.{not, ◌||◌, nat_le, is_some, unwrap_or, IsSome}
use Rattle.std.specs.List.{find, list_any, list_all}
use Rattle.std.specs.Option.{option_map, option_copied}
use Rattle.std.specs.Cmp.{nat_eq_equiv}
use Rattle.std.proofs.lemmas.Bool.{cases_Bool}
use Rattle.std.proofs.lemmas.List.Sums.{sum_by-cons}
use Rattle.std.proofs.lemmas.Slice.Eq.{bytes_eq-Decides}
use Rattle.hs_types.specs.Limits.{snapshot_limit}
use Rattle.hs_types.specs.Names.{Names, is_name}
use Rattle.hs_types.specs.declared.ids.InodeId.{InodeId}
use Rattle.hs_types.specs.declared.ids.SnapId.{SnapId}
use Rattle.hs_types.specs.declared.name.SnapItem.{SnapItem}
use Rattle.hs_types.specs.declared.refusal.Refusal.{Refusal}
use Rattle.hs_types.specs.declared.refusal.Refusal.TheVariants.{HasSnapshots, Nested, NotSnapshotName, NotSnapshottable, NoSnapshot, SnapshotExists, SnapshotLimit}
use Rattle.hs_plain.specs.declared.state.Node.{Node}
use Rattle.hs_plain.specs.declared.state.Member.{Member}
use Rattle.hs_plain.specs.declared.state.State.{State}
use Rattle.hs_plain.specs.declared.state.FileBlocks.{FileBlocks}
use Rattle.hs_plain.specs.declared.resolve.AskFault.{AskFault}
use Rattle.hs_plain.specs.declared.resolve.AskFault.TheVariants.{Refused, NoMemory}
use Rattle.hs_plain.specs.inside.Faults.{IsFaultOf}
use Rattle.hs_plain.specs.Asked.{Asked, ◌>>=◌, refuse_if}
use Rattle.hs_plain.specs.Tree.{node_at, same_inode}
use Rattle.hs_plain.specs.State.{is_snapshottable, is_named, member_named, has_snapshot_named, snapshot_named, has_snapshots, snapshots_of, meets_snapshottable}
use Rattle.hs_plain.specs.Snapshotting.{directory_at, allow_at, disallow_at, snap_at, snap_del_at, snap_ren_at}
use Rattle.hs_plain.proofs.ValidAsked.{ok_then, same_ok, dir_there, disallow_allowed, snap_allowed}
use Rattle.hs_plain.proofs.ValidShapes.{none_some, same_some, true_false}
use Rattle.hs_plain.proofs.ValidTrees.{first, second}
use Rattle.snapshot_manager.specs.Snapshots as snapshots
use Rattle.snapshot_manager.specs.Snapshots.{Snapshots, IsProper, has_id, has_name, last_id, live_at, snaps_in, snaps_of}
use Rattle.snapshot_manager.specs.Members as members
use Rattle.snapshot_manager.specs.Members.{of_dir}
use Rattle.snapshot_manager.proofs.Lists.{some_find}
use Rattle.snapshot_manager.proofs.MemberLemmas.{found_by_id}
use Rattle.inode_table.specs.Joined.{told}
use Rattle.inode_table.specs.Reads.{id_of}
use Rattle.inode_table.specs.Tabled.{Tabled}
use Rattle.inode_table.specs.Whole.{StandsFor}
use Rattle.path_resolver.specs.Live.{id_asked}
use Rattle.path_resolver.proofs.ByRows.{err_ok}
use Rattle.path_resolver.proofs.Holds.{has-told}
use Rattle.path_resolver.proofs.Named.{at-name, named-none}
use Rattle.namenode_write.specs.SnapTests.{dir_of, takes_name, takes_snapshot}

-- what is lent is there where the thing is
pub some-copied : {X : Type 0} (o : Option (Bor X)) → is_some (option_copied o) ≡ is_some o
some-copied None = refl
some-copied (Some x) = refl

-- ---- snapshots by name

abbrev is_found : Asked (Member FileBlocks) → Bool
is_found (Ok m) = true
is_found (Err why) = false

any-member : (ms : List (Member FileBlocks)) (dir : InodeId) (name : List ℕ) → list_any (is_named dir name) ms ≡ is_found (member_named ms dir name)
any-member [] dir name = refl
any-member (m ∷ ms) dir name = by (is_named dir name m) (any-member ms dir name)
  where
    by : (b : Bool) → list_any (is_named dir name) ms ≡ is_found (member_named ms dir name) → (b || list_any (is_named dir name) ms) ≡ is_found (cond b (Ok m) (member_named ms dir name))
    by true rest = refl
    by false rest = rest

-- how many a directory has
count-told : (ms : List (Member FileBlocks)) (dir : InodeId) → snapshots_of ms dir ≡ length (of_dir dir (map told ms))
count-told [] dir = refl
count-told (m ∷ ms) dir = by (count-told ms dir) (sum_by-cons (λ (x : Member FileBlocks). cond (same_inode x.directory dir) 1 0) m ms) (cases_Bool (nat_eq dir.0 m.directory.0))
  where
    by : snapshots_of ms dir ≡ length (of_dir dir (map told ms)) → snapshots_of (m ∷ ms) dir ≡ cond (same_inode m.directory dir) 1 0 + snapshots_of ms dir
        → (nat_eq dir.0 m.directory.0 ≡ true) ⊎ (nat_eq dir.0 m.directory.0 ≡ false) → snapshots_of (m ∷ ms) dir ≡ length (of_dir dir (map told (m ∷ ms)))
    by rest more (inl own) =
        let same : nat_eq m.directory.0 dir.0 ≡ true = nat_eq_equiv.symm m.directory.0 dir.0 ∙ own in
        let one = ap (λ b. cond {A = ℕ} b 1 0) same in
        let here : length (of_dir dir (map told (m ∷ ms))) ≡ length (of_dir dir (map told ms)) + 1 = rw own (omega arith) in
        omega (arith, rest, more, one, here)
    by rest more (inr other) =
        let apart : nat_eq m.directory.0 dir.0 ≡ false = nat_eq_equiv.symm m.directory.0 dir.0 ∙ other in
        let none = ap (λ b. cond {A = ℕ} b 1 0) apart in
        let here : length (of_dir dir (map told (m ∷ ms))) ≡ length (of_dir dir (map told ms)) = rw other refl in
        omega (arith, rest, more, none, here)

-- what is found by its name is found by its id
found-id : (ms : List (Member FileBlocks)) (dir : InodeId) (name : List ℕ) (id : SnapId) → snapshot_named ms dir name ≡ Ok id → is_some (find (λ (m : members.Member). has_id id m.1) (map told ms)) ≡ true
found-id [] dir name id h = absurd (err_ok h)
found-id (m ∷ ms) dir name id h = by (cases_Bool (nat_eq id.0 m.snapshot.0)) (is_named dir name m) (found-id ms dir name id) h
  where
    by : (nat_eq id.0 m.snapshot.0 ≡ true) ⊎ (nat_eq id.0 m.snapshot.0 ≡ false) → (b : Bool) → (snapshot_named ms dir name ≡ Ok id → is_some (find (λ (x : members.Member). has_id id x.1) (map told ms)) ≡ true)
        → cond {A = Asked SnapId} b (Ok m.snapshot) (snapshot_named ms dir name) ≡ Ok id → is_some (find (λ (x : members.Member). has_id id x.1) (map told (m ∷ ms))) ≡ true
    by (inl same) b rest g = rw same refl
    by (inr other) true rest g = absurd (true_false (nat_eq_equiv.refl id.0) (ap (λ (i : SnapId). nat_eq id.0 i.0) (sym (same_ok g)) ∙ other))
    by (inr other) false rest g = rw other (rest g)

module _ (table : Tabled) (snaps : Snapshots) (state : State FileBlocks) (all : StandsFor table snaps state) where
  live-told : (dir : InodeId) (name : List ℕ) (id : SnapId) → IsProper snaps → snapshot_named state.members dir name ≡ Ok id → IsSome (live_at snaps id)
  live-told dir name id proper named = ap is_some (found_by_id (map told state.members) snaps all.told id proper) ∙ found-id state.members dir name id named

  pub live-deleted : (text name : List ℕ) (id : SnapId) → IsProper snaps → snap_del_at state text name ≡ Ok id → IsSome (live_at snaps id)
  live-deleted text name id proper is =
      let a = ok_then (directory_at state text) _ id is in
      let b = ok_then (refuse_if (not (is_snapshottable state a.0.1.id)) NotSnapshottable) _ id a.2 in
      live-told a.0.1.id name id proper b.2

  pub snapshottable-told : (dir : InodeId) → is_some (option_map (λ (items : List SnapItem). length items) (snaps_of snaps dir)) ≡ is_snapshottable state dir
  snapshottable-told dir = by (snaps_of snaps dir) ∙ sym (all.snapshottable dir)
    where
      by : (o : Option (List SnapItem)) → is_some (option_map (λ (items : List SnapItem). length items) o) ≡ is_some o
      by None = refl
      by (Some items) = refl

  pub taken-told : (dir : InodeId) (name : List ℕ) → is_some (find (has_name name) (snaps_in snaps dir)) ≡ has_snapshot_named state dir name
  taken-told dir name = by (find (has_name name) (snaps_in snaps dir)) refl
    where
      by : (o : Option SnapItem) → find (has_name name) (snaps_in snaps dir) ≡ o → is_some (find (has_name name) (snaps_in snaps dir)) ≡ has_snapshot_named state dir name
      by None e = ap is_some e ∙ sym (any-member state.members dir name ∙ ap is_found ((at-name table snaps state all dir name).none e))
      by (Some item) e = let m = (at-name table snaps state all dir name).some item e in ap is_some e ∙ sym (any-member state.members dir name ∙ ap is_found m.1)

  pub full-some : (dir : InodeId) (n : ℕ) → option_map (λ (items : List SnapItem). length items) (snaps_of snaps dir) ≡ Some n → snapshots_of state.members dir ≡ n
  full-some dir n e = count-told state.members dir ∙ ap length (sym (all.told.tables dir)) ∙ by (snaps_of snaps dir) e
    where
      by : (o : Option (List SnapItem)) → option_map (λ (items : List SnapItem). length items) o ≡ Some n → length (unwrap_or o []) ≡ n
      by None h = absurd (none_some h)
      by (Some items) h = same_some h

  pub full-none : (dir : InodeId) → option_map (λ (items : List SnapItem). length items) (snaps_of snaps dir) ≡ None → snapshots_of state.members dir ≡ 0
  full-none dir e = count-told state.members dir ∙ ap length (sym (all.told.tables dir)) ∙ by (snaps_of snaps dir) e
    where
      by : (o : Option (List SnapItem)) → option_map (λ (items : List SnapItem). length items) o ≡ None → length (unwrap_or o []) ≡ 0
      by None h = refl
      by (Some items) h = absurd (none_some (sym h))

-- ---- tests behind the directory

-- the first test is passed
pub then-ok : {X Y : Type 0} (a : Asked X) (f : X → Asked Y) (x : X) → a ≡ Ok x → (a >>= f) ≡ f x
then-ok {X = X} a f x is = ap (λ (b : Asked X). b >>= f) is

-- a test in the code is the plain one
pub refuse-told : (b c : Bool) (why : Refusal) (r : Asked (Unit {0})) → r ≡ refuse_if b why → b ≡ c → refuse_if c why ≡ r
refuse-told b c why r is same = ap (λ (x : Bool). refuse_if x why) (sym same) ∙ sym is

-- why there is no directory
pub dir-fault : (asked : Asked (Names × Node FileBlocks)) (fault : AskFault) → IsFaultOf (dir_of asked) fault → IsFaultOf asked fault
dir-fault (Ok at) (Refused why) is = absurd (err_ok (sym is))
dir-fault (Err other) (Refused why) is = cc
dir-fault asked NoMemory is = tt

-- the directory that was found, with its path
pub dir-so : (asked : Asked (Names × Node FileBlocks)) (dir : InodeId) → dir_of asked ≡ Ok dir → (at : Names × Node FileBlocks) × (asked ≡ Ok at) × (at.1.id ≡ dir)
dir-so (Err why) dir h = absurd (err_ok h)
dir-so (Ok at) dir h = (at, refl, same_ok h)

-- and with its node
pub dir-at : (asked : Asked (Names × Node FileBlocks)) (path : Names) (id : InodeId) → id_asked asked ≡ Ok (path, id) → (node : Node FileBlocks) × (asked ≡ Ok (path, node)) × (node.id ≡ id)
dir-at (Err why) path id e = absurd (err_ok e)
dir-at (Ok at) path id e = (at.1, (let same : at.0 ≡ path = ap (λ (x : Names × InodeId). x.0) (same_ok e) in ap (λ (p : Names). Ok (p, at.1)) same), ap (λ (x : Names × InodeId). x.1) (same_ok e))

module _ (state : State FileBlocks) (text : List ℕ) (path : Names) (id : InodeId) (at : id_asked (directory_at state text) ≡ Ok (path, id)) where
  there : (node : Node FileBlocks) × (directory_at state text ≡ Ok (path, node)) × (node.id ≡ id)
  there = dir-at (directory_at state text) path id at

  pub dir-of : dir_of (directory_at state text) ≡ Ok id
  dir-of = ap dir_of there.1 ∙ ap (λ (i : InodeId). Ok i) there.2

  -- it stands at its path
  pub dir-there : id_of (node_at state.tree path) ≡ Some id
  dir-there = ap id_of (dir_there state text (path, there.0) there.1).there ∙ ap (λ (i : InodeId). Some i) there.2

  pub allow-is : allow_at state text ≡ (refuse_if (meets_snapshottable state path) Nested >>= λ apart. Ok id)
  allow-is = ap (λ (a : Asked (Names × Node FileBlocks)). a >>= λ at. refuse_if (meets_snapshottable state at.0) Nested >>= λ apart. Ok at.1.id) there.1
      ∙ ap (λ (i : InodeId). refuse_if (meets_snapshottable state path) Nested >>= λ apart. Ok i) there.2

  pub disallow-is : disallow_at state text ≡ (refuse_if (has_snapshots state id) HasSnapshots >>= λ free. refuse_if (not (is_snapshottable state id)) NotSnapshottable >>= λ there. Ok id)
  disallow-is =
      ap (λ (a : Asked (Names × Node FileBlocks)). a >>= λ at. refuse_if (has_snapshots state at.1.id) HasSnapshots >>= λ free. refuse_if (not (is_snapshottable state at.1.id)) NotSnapshottable >>= λ there. Ok at.1.id) there.1
      ∙ ap (λ (i : InodeId). refuse_if (has_snapshots state i) HasSnapshots >>= λ free. refuse_if (not (is_snapshottable state i)) NotSnapshottable >>= λ there. Ok i) there.2

  pub snap_del-is : (name : List ℕ) → snap_del_at state text name ≡ (refuse_if (not (is_snapshottable state id)) NotSnapshottable >>= λ there. snapshot_named state.members id name)
  snap_del-is name =
      ap (λ (a : Asked (Names × Node FileBlocks)). a >>= λ at. refuse_if (not (is_snapshottable state at.1.id)) NotSnapshottable >>= λ there. snapshot_named state.members at.1.id name) there.1
      ∙ ap (λ (i : InodeId). refuse_if (not (is_snapshottable state i)) NotSnapshottable >>= λ there. snapshot_named state.members i name) there.2

  pub snap_ren-is : (old new : List ℕ) → snap_ren_at state text old new ≡ (refuse_if (not (is_name new)) NotSnapshotName >>= λ named. takes_name state id new >>= λ free. snapshot_named state.members id old)
  snap_ren-is old new =
      ap (λ (a : Asked (Names × Node FileBlocks)). a >>= λ at. refuse_if (not (is_name new)) NotSnapshotName >>= λ named. refuse_if (not (is_snapshottable state at.1.id)) NotSnapshottable
      >>= λ there. refuse_if (has_snapshot_named state at.1.id new) SnapshotExists >>= λ free. snapshot_named state.members at.1.id old) there.1
      ∙ ap (λ (i : InodeId). refuse_if (not (is_name new)) NotSnapshotName >>= λ named. refuse_if (not (is_snapshottable state i)) NotSnapshottable
      >>= λ there. refuse_if (has_snapshot_named state i new) SnapshotExists >>= λ free. snapshot_named state.members i old) there.2
      ∙ ap (λ (f : Unit {0} → Asked SnapId). refuse_if (not (is_name new)) NotSnapshotName >>= f) (λ i u. by (refuse_if (not (is_snapshottable state id)) NotSnapshottable) i)
    where
      by : (a : Asked (Unit {0})) → (a >>= λ there. refuse_if (has_snapshot_named state id new) SnapshotExists >>= λ free. snapshot_named state.members id old)
          ≡ ((a >>= λ there. refuse_if (has_snapshot_named state id new) SnapshotExists) >>= λ free. snapshot_named state.members id old)
      by (Ok u) = refl
      by (Err why) = refl

  pub snap-is : (name : List ℕ) → dir_of (snap_at state text name) ≡ (refuse_if (not (is_name name)) NotSnapshotName >>= λ named. takes_snapshot state id name >>= λ free. Ok id)
  snap-is name =
      ap (λ (a : Asked (Names × Node FileBlocks)). dir_of (a >>= λ at. tests at)) there.1
      ∙ by (refuse_if (not (is_name name)) NotSnapshotName) (refuse_if (not (is_snapshottable state there.0.id)) NotSnapshottable) (refuse_if (has_snapshot_named state there.0.id name) SnapshotExists)
      (refuse_if (nat_le snapshot_limit (snapshots_of state.members there.0.id)) SnapshotLimit)
      ∙ ap (λ (i : InodeId). refuse_if (not (is_name name)) NotSnapshotName >>= λ named. takes_snapshot state i name >>= λ free. Ok i) there.2
    where
      tests : Names × Node FileBlocks → Asked (Names × Node FileBlocks)
      tests at = refuse_if (not (is_name name)) NotSnapshotName >>= λ named. refuse_if (not (is_snapshottable state at.1.id)) NotSnapshottable >>= λ there. refuse_if (has_snapshot_named state at.1.id name) SnapshotExists
          >>= λ free. refuse_if (nat_le snapshot_limit (snapshots_of state.members at.1.id)) SnapshotLimit >>= λ room. Ok at

      by : (a b c d : Asked (Unit {0})) → dir_of (a >>= λ named. b >>= λ known. c >>= λ free. d >>= λ room. Ok (path, there.0))
          ≡ (a >>= λ named. ((b >>= λ known. c) >>= λ free. d) >>= λ room. Ok there.0.id)
      by (Err why) b c d = refl
      by (Ok u) (Err why) c d = refl
      by (Ok u) (Ok v) (Err why) d = refl
      by (Ok u) (Ok v) (Ok w) (Err why) = refl
      by (Ok u) (Ok v) (Ok w) (Ok x) = refl

-- ---- what is known in memory where a test has passed

none_last : (items : List SnapItem) → is_some (last_id items) ≡ false → items ≡ []
none_last [] h = refl
none_last (item ∷ items) h = absurd (true_false refl h)

-- a directory may have a snapshot of this name
pub record TakesOne (snaps : Snapshots) (dir : InodeId) (name : List ℕ) : Type 0 where
  pub snapshottable : IsSome (snaps_of snaps dir)
  pub fresh : snapshots.is_named name (snaps_in snaps dir) ≡ false
  pub below_limit : length (snaps_in snaps dir) < 65536

-- a directory's snapshot may have another name
pub record TakesOther (snaps : Snapshots) (dir : InodeId) (old new : List ℕ) : Type 0 where
  pub fresh : snapshots.is_named new (snaps_in snaps dir) ≡ false
  pub found : snapshots.is_named old (snaps_in snaps dir) ≡ true

module _ (table : Tabled) (snaps : Snapshots) (state : State FileBlocks) (all : StandsFor table snaps state) where
  pub none-there : (text : List ℕ) (dir : InodeId) → disallow_at state text ≡ Ok dir → snaps_in snaps dir ≡ []
  none-there text dir is = none_last (snaps_in snaps dir) (sym (has-told table snaps state all dir) ∙ disallow_allowed state text dir is)

  name_free : (dir : InodeId) (name : List ℕ) → has_snapshot_named state dir name ≡ false → snapshots.is_named name (snaps_in snaps dir) ≡ false
  name_free dir name free = sym (some_find (has_name name) (snaps_in snaps dir)) ∙ taken-told table snaps state all dir name ∙ free

  pub takes-one : (text name : List ℕ) (dir : InodeId) → dir_of (snap_at state text name) ≡ Ok dir → TakesOne snaps dir name
  takes-one text name dir found =
      let d = dir-so (snap_at state text name) dir found in
      let may = snap_allowed state text name d.0 d.1 in
      subst (λ (i : InodeId). TakesOne snaps i name) d.2 (record {
        snapshottable = sym (all.snapshottable d.0.1.id) ∙ may.allowed;
        fresh = name_free d.0.1.id name may.free;
        below_limit = let few = leb-false snapshot_limit (snapshots_of state.members d.0.1.id) may.room in let same = count-told state.members d.0.1.id in let are = ap length (all.told.tables d.0.1.id) in omega (arith, few, same, are);
      })

  pub takes-other : (text old new : List ℕ) (dir : InodeId) (id : SnapId) → dir_of (directory_at state text) ≡ Ok dir → snap_ren_at state text old new ≡ Ok id → TakesOther snaps dir old new
  takes-other text old new dir id found is =
      let d = dir-so (directory_at state text) dir found in
      let at : id_asked (directory_at state text) ≡ Ok (d.0.0, dir) = ap id_asked d.1 ∙ ap (λ (i : InodeId). Ok (d.0.0, i)) d.2 in
      let a = ok_then (refuse_if (not (is_name new)) NotSnapshotName) _ id (sym (snap_ren-is state text d.0.0 dir at old new) ∙ is) in
      let b = ok_then (takes_name state dir new) _ id a.2 in
      let c = ok_then (refuse_if (not (is_snapshottable state dir)) NotSnapshottable) _ b.0 b.1 in
      record {
        fresh = name_free dir new (not_refused (has_snapshot_named state dir new) SnapshotExists b.0 c.2);
        found = sym (some_find (has_name old) (snaps_in snaps dir)) ∙ there (find (has_name old) (snaps_in snaps dir)) refl b.2;
      }
    where
      not_refused : (b : Bool) (why : Refusal) (u : Unit {0}) → refuse_if b why ≡ Ok u → b ≡ false
      not_refused true why u h = absurd (err_ok h)
      not_refused false why u h = refl

      there : (o : Option SnapItem) → find (has_name old) (snaps_in snaps dir) ≡ o → snapshot_named state.members dir old ≡ Ok id → is_some (find (has_name old) (snaps_in snaps dir)) ≡ true
      there None e named = absurd (err_ok (sym (named-none table snaps state all dir old e) ∙ named))
      there (Some item) e named = ap is_some e
