-- Directories cease to be snapshottable as a path goes: those from which going up comes to its inode.
use Rattle.std.proofs.Common.{◌≡◌, ◌⊎◌, ℕ, suc, ◌+◌, ◌<◌, drop, drop-cons, get_or, length, arith, Bool, true, false, cond, not, ◌&&◌, ◌||◌, nat_eq, nat_lt, List, [], ◌∷◌, ◌++◌, map, filter, Option, Some, None, inl, inr, refl, sym, ap, subst, ◌∙◌}
use Rattle.std.specs.Prelude.{bytes_eq, is_some, slice_get}
use Rattle.std.specs.List.{find, list_any, starts_with}
use Rattle.std.specs.Option.{option_map}
use Rattle.std.proofs.lemmas.Bool.{cases_Bool}
use Rattle.hs_types.specs.Names.{Names}
use Rattle.hs_types.specs.declared.ids.InodeId.{InodeId}
use Rattle.hs_plain.specs.declared.state.Node.{Node}
use Rattle.hs_plain.specs.declared.state.State.{State}
use Rattle.hs_plain.specs.declared.state.FileBlocks.{FileBlocks}
use Rattle.hs_plain.specs.Change.{without}
use Rattle.hs_plain.specs.State.{is_snapshottable}
use Rattle.hs_plain.specs.Tree.{node_at, is_under, parent_of, same_inode, place_of}
use Rattle.hs_plain.specs.Valid.{is_dir_place}
use Rattle.hs_plain.specs.inside.Places.{unless_place}
use Rattle.hs_plain.proofs.Trees.{IsOnce, place_so, place_there, place-without}
use Rattle.hs_plain.proofs.ValidDirs.{listed_so}
use Rattle.hs_plain.proofs.ValidHeld.{found_place}
use Rattle.hs_plain.proofs.ValidLists.{In, all_so}
use Rattle.hs_plain.proofs.ValidMembers.{inode_so, inode_test}
use Rattle.hs_plain.proofs.ValidShapes.{none_some, parent_of-last, same_some, true_false}
use Rattle.snapshot_manager.specs.Snapshots.{Directory, Snapshots, IsRising, is_of, snaps_of, snaps_in, disallowed}
use Rattle.snapshot_manager.proofs.Directories.{items_at-filter}
use Rattle.inode_table.specs.Reads.{id_of}
use Rattle.inode_table.specs.RowHistory.{Table, shown}
use Rattle.inode_table.specs.Tabled.{Tabled}
use Rattle.inode_table.specs.Whole.{StandsFor}
use Rattle.inode_table.proofs.Reading.{same_id_so}
use Rattle.path_resolver.specs.Above.{comes_up, any_from}
use Rattle.path_resolver.proofs.ByRows.{nodes}
use Rattle.path_resolver.proofs.Over.{next-after, first-of}
use Rattle.path_resolver.proofs.Under.{under}
use Rattle.table_laws.specs.WholeCalls.{all_disallowed}
use Rattle.table_laws.specs.WholeLaws.{AreGone}
use Rattle.table_laws.proofs.WholeSnaps.{any-push}
use Rattle.namenode_write.specs.declared.rows.seats.Seat.{Seat}
use Rattle.namenode_write.specs.Seats.{IsSeat}
use Rattle.namenode_write.specs.GoneDirs.{push_if, IsGoing}

-- ---- tests

and_false : (a : Bool) → (a && false) ≡ false
and_false true = refl
and_false false = refl

or_false : (a : Bool) → (a || false) ≡ a
or_false true = refl
or_false false = refl

or_or : (a b c : Bool) → ((a || b) || c) ≡ (a || (b || c))
or_or true b c = refl
or_or false b c = refl

-- ---- lists of ids and of directories

-- an id is among those that pass
any_passing : (p : InodeId → Bool) (q : InodeId) (ids : List InodeId) → list_any (same_inode q) (filter p ids) ≡ (list_any (same_inode q) ids && p q)
any_passing p q [] = refl
any_passing p q (i ∷ ids) = by (any_passing p q ids) (cases_Bool (p i)) (cases_Bool (same_inode q i))
  where
    by : list_any (same_inode q) (filter p ids) ≡ (list_any (same_inode q) ids && p q) → (p i ≡ true) ⊎ (p i ≡ false) → (same_inode q i ≡ true) ⊎ (same_inode q i ≡ false)
        → list_any (same_inode q) (filter p (i ∷ ids)) ≡ (list_any (same_inode q) (i ∷ ids) && p q)
    by rest (inl passes) (inl here) = let is : p q ≡ true = ap p (inode_so q i here) ∙ passes in rw (passes, here, is) refl
    by rest (inl passes) (inr other) = rw (passes, other) rest
    by rest (inr fails) (inl here) = let is : p q ≡ false = ap p (inode_so q i here) ∙ fails in rw (fails, here) (rest ∙ ap (λ b. list_any (same_inode q) ids && b) is ∙ and_false (list_any (same_inode q) ids) ∙ sym is)
    by rest (inr fails) (inr other) = rw (fails, other) rest

-- or among the directories that pass
any_dir : (p : InodeId → Bool) (q : InodeId) (ds : List Directory) → list_any (λ d. same_inode q d.0 && p d.0) ds ≡ (is_some (option_map (λ (d : Directory). d.1) (find (is_of q) ds)) && p q)
any_dir p q [] = refl
any_dir p q (d ∷ ds) = by (any_dir p q ds) (cases_Bool (same_inode q d.0))
  where
    late : (r b : Bool) → (r && b) ≡ (r && b) → (b || (r && b)) ≡ b
    late true true e = refl
    late false true e = refl
    late true false e = refl
    late false false e = refl

    by : list_any (λ d. same_inode q d.0 && p d.0) ds ≡ (is_some (option_map (λ (d : Directory). d.1) (find (is_of q) ds)) && p q) → (same_inode q d.0 ≡ true) ⊎ (same_inode q d.0 ≡ false)
        → list_any (λ d. same_inode q d.0 && p d.0) (d ∷ ds) ≡ (is_some (option_map (λ (d : Directory). d.1) (find (is_of q) (d ∷ ds))) && p q)
    by rest (inl here) = rw here (ap (λ (i : InodeId). p i || list_any (λ d. same_inode q d.0 && p d.0) ds) (sym (inode_so q d.0 here)) ∙ ap (λ b. p q || b) rest ∙ late (is_some (option_map (λ (d : Directory). d.1) (find (is_of q) ds))) (p q) refl)
    by rest (inr other) = rw other rest

entry_some : (ds : List Directory) (d : Directory) → In ds d → is_some (option_map (λ (e : Directory). e.1) (find (is_of d.0) ds)) ≡ true
entry_some [] d at = absurd at
entry_some (e ∷ ds) d at = by (entry_some ds d) (cases_Bool (is_of d.0 e)) at
  where
    by : (In ds d → is_some (option_map (λ (e : Directory). e.1) (find (is_of d.0) ds)) ≡ true) → (is_of d.0 e ≡ true) ⊎ (is_of d.0 e ≡ false) → In (e ∷ ds) d → is_some (option_map (λ (e : Directory). e.1) (find (is_of d.0) (e ∷ ds))) ≡ true
    by rest (inl here) at = rw here refl
    by rest (inr other) (inl same) = absurd (true_false (inode_test d.0 e.0 (ap (λ (x : Directory). x.0.0) (sym same))) other)
    by rest (inr other) (inr at) = rw other (rest at)

found_in : (p : Directory → Bool) (ds : List Directory) (d : Directory) → find p ds ≡ Some d → In ds d
found_in p [] d is = absurd (none_some is)
found_in p (e ∷ ds) d is = by (found_in p ds d) (cases_Bool (p e)) is
  where
    by : (find p ds ≡ Some d → In ds d) → (p e ≡ true) ⊎ (p e ≡ false) → find p (e ∷ ds) ≡ Some d → In (e ∷ ds) d
    by rest (inl here) h = inl (same_some (sym (ap (λ b. cond b (Some e) (find p ds)) here) ∙ h))
    by rest (inr other) h = inr (rest (sym (ap (λ b. cond b (Some e) (find p ds)) other) ∙ h))

first_in : (ds : List Directory) (d : Directory) → slice_get ds 0 ≡ Some d → In ds d
first_in [] d is = absurd (none_some is)
first_in (e ∷ ds) d is = inl (same_some is)

-- the id of a directory that was found is snapshottable
id_some : (snaps : Snapshots) (o : Option Directory) → ((d : Directory) → o ≡ Some d → In snaps.dirs d) → (id : InodeId) → option_map (λ d. d.0) o ≡ Some id → is_some (snaps_of snaps id) ≡ true
id_some snaps None within id is = absurd (none_some is)
id_some snaps (Some d) within id is = ap (λ (i : InodeId). is_some (snaps_of snaps i)) (sym (same_some is)) ∙ entry_some snaps.dirs d (within d refl)

pub first-some : (snaps : Snapshots) (next : Option InodeId) → next ≡ option_map (λ d. d.0) (slice_get snaps.dirs 0) → (id : InodeId) → next ≡ Some id → is_some (snaps_of snaps id) ≡ true
first-some snaps next found id is = id_some snaps (slice_get snaps.dirs 0) (first_in snaps.dirs) id (sym found ∙ is)

pub next-some : (snaps : Snapshots) (last : InodeId) (next : Option InodeId) → next ≡ option_map (λ d. d.0) (find (λ d. nat_lt last.0 d.0.0) snaps.dirs) → (id : InodeId) → next ≡ Some id → is_some (snaps_of snaps id) ≡ true
next-some snaps last next found id is = id_some snaps (find (λ d. nat_lt last.0 d.0.0) snaps.dirs) (found_in (λ d. nat_lt last.0 d.0.0) snaps.dirs) id (sym found ∙ is)

-- the next directory, and those behind it
step_any : (test : InodeId → Bool) (ds : List Directory) (next after : Option InodeId) (id : InodeId) → IsRising (map (λ d. d.0.0) ds) → next ≡ Some id → after ≡ option_map (λ d. d.0) (find (λ d. nat_lt id.0 d.0.0) ds)
    → any_from test next ds ≡ (test id || any_from test after ds)
step_any test ds next after id rise is found =
    ap (λ o. any_from test o ds) is ∙ ap (λ b. test id || b) (next-after test id ds rise (find (λ d. nat_lt id.0 d.0.0) ds) refl ∙ ap (λ o. any_from test o ds) (sym found))

any_pushed : (q id : InodeId) (b : Bool) (ids : List InodeId) → list_any (same_inode q) (push_if b id ids) ≡ (list_any (same_inode q) ids || (same_inode q id && b))
any_pushed q id true ids = any-push id q ids ∙ ap (λ b. list_any (same_inode q) ids || b) (by (same_inode q id))
  where
    by : (b : Bool) → b ≡ (b && true)
    by true = refl
    by false = refl
any_pushed q id false ids = sym (ap (λ b. list_any (same_inode q) ids || b) (and_false (same_inode q id)) ∙ or_false (list_any (same_inode q) ids))

-- a directory without snapshots has none as another one goes
pub none-disallowed : (snaps : Snapshots) (dir other : InodeId) → snaps_in snaps other ≡ [] → snaps_in (disallowed dir snaps) other ≡ []
none-disallowed snaps dir other none = items_at-filter dir.0 other.0 snaps.dirs ∙ by (nat_eq dir.0 other.0)
  where
    by : (b : Bool) → cond b [] (snaps_in snaps other) ≡ []
    by true = refl
    by false = none

-- the first of these directories goes, and then the others
pub disallowed-next : (dirs : List InodeId) (i : ℕ) (d : InodeId) (snaps now : Snapshots) → i < length dirs → now ≡ disallowed (get_or dirs i d) snaps → all_disallowed (drop (i + 1) dirs) now ≡ all_disallowed (drop i dirs) snaps
disallowed-next dirs i d snaps now within is =
    ap (all_disallowed (drop (i + 1) dirs)) is
    ∙ sym (ap (λ (l : List InodeId). all_disallowed l snaps) (drop-cons dirs i d within ∙ ap (λ n. get_or dirs i d ∷ drop n dirs) {x = suc i} {y = i + 1} (omega arith)))

-- ---- the plain state

-- an inode from which going up comes to another
abbrev pub comes : Tabled → InodeId → InodeId → Bool
comes t above id = comes_up (shown t.rows 0) above (t.greatest + 1) id

-- the next directory is snapshottable, and those that were found are those that are sought, but for what is left from the next one on
pub record AreFound (t : Tabled) (snaps : Snapshots) (above : InodeId) (next : Option InodeId) (gone : List InodeId) : Type 0 where
  pub next_one : (id : InodeId) → next ≡ Some id → is_some (snaps_of snaps id) ≡ true
  pub so_far : (state : State FileBlocks) → StandsFor t snaps state → (path : Names) → id_of (node_at state.tree path) ≡ Some above
      → (q : InodeId) → (list_any (same_inode q) gone || any_from (λ d. same_inode q d && comes t above d) next snaps.dirs) ≡ list_any (λ d. same_inode q d.0 && comes t above d.0) snaps.dirs

module _ (t : Tabled) (snaps : Snapshots) (above : InodeId) where
  module _ (state : State FileBlocks) (all : StandsFor t snaps state) (path : Names) (there : id_of (node_at state.tree path) ≡ Some above) where
    once : IsOnce state.tree
    once p q a b at bt same = (nodes t snaps state all).once p q a b at bt (same_id_so a.id b.id same)

    place : (id : InodeId) → is_some (snaps_of snaps id) ≡ true → (q : Names) × (y : Node FileBlocks) × (node_at state.tree q ≡ Some y) × (y.id ≡ id)
    place id h = by (place_of state.tree id) refl (all_so (λ id. is_dir_place (place_of state.tree id)) state.snapshottable all.valid.snapshottable_dirs id (listed_so state.snapshottable id (all.snapshottable id ∙ h)))
      where
        by : (o : Option (Names × Node FileBlocks)) → place_of state.tree id ≡ o → is_dir_place o ≡ true → (q : Names) × (y : Node FileBlocks) × (node_at state.tree q ≡ Some y) × (y.id ≡ id)
        by None e t = absurd (true_false t refl)
        by (Some place) e t = let w = place_so state.tree id place e in (place.0, place.1, found_place state.tree all.valid.sorted place w.0, same_id_so place.1.id id w.1)

    comes_so : (q : Names) (y : Node FileBlocks) (id : InodeId) → node_at state.tree q ≡ Some y → y.id ≡ id → starts_with bytes_eq q path ≡ comes t above id
    comes_so q y id at same = sym (under t snaps state all path q above id there (ap id_of at ∙ ap (λ (i : InodeId). Some i) same))

    -- it is still there where going up from it doesn't come to the inode
    stays : (id : InodeId) → is_some (snaps_of snaps id) ≡ true → is_some (place_of (without state.tree path) id) ≡ not (comes t above id)
    stays id h =
        let w = place id h in
        ap is_some (place-without state.tree all.valid.sorted once path id ∙ ap (unless_place (is_under path)) (place_there state.tree all.valid.sorted once id w.0 w.1 w.2 (ap (λ (i : InodeId). i.0) w.3)))
        ∙ by (starts_with bytes_eq w.0 path) (w.0, w.1) ∙ ap not (comes_so w.0 w.1 id w.2 w.3)
      where
        by : (b : Bool) (place : Names × Node FileBlocks) → is_some (cond b None (Some place)) ≡ not b
        by true place = refl
        by false place = refl

    left : (id : InodeId) → (is_snapshottable state id && is_some (place_of (without state.tree path) id)) ≡ (is_snapshottable state id && not (is_snapshottable state id && comes t above id))
    left id = by (cases_Bool (is_snapshottable state id))
      where
        by : (is_snapshottable state id ≡ true) ⊎ (is_snapshottable state id ≡ false) → (is_snapshottable state id && is_some (place_of (without state.tree path) id)) ≡ (is_snapshottable state id && not (is_snapshottable state id && comes t above id))
        by (inl t) = rw t (stays id (sym (all.snapshottable id) ∙ t))
        by (inr f) = rw f refl

    gone_so : (gone : List InodeId) → ((q : InodeId) → list_any (same_inode q) gone ≡ list_any (λ d. same_inode q d.0 && comes t above d.0) snaps.dirs) → AreGone state path gone
    gone_so gone alike id =
        any_passing (λ i. is_some (place_of (without state.tree path) i)) id state.snapshottable
        ∙ left id
        ∙ ap (λ b. is_snapshottable state id && not b) (sym (alike id ∙ any_dir (comes t above) id snaps.dirs ∙ ap (λ b. b && comes t above id) (sym (all.snapshottable id))))

  -- ---- the loop

  pub found-first : (next : Option InodeId) → IsRising (map (λ d. d.0.0) snaps.dirs) → next ≡ option_map (λ d. d.0) (slice_get snaps.dirs 0) → AreFound t snaps above next []
  found-first next rise found = record {
    next_one = first-some snaps next found;
    so_far = λ state all path there q. ap (λ o. any_from (λ d. same_inode q d && comes t above d) o snaps.dirs) found ∙ sym (first-of (λ d. same_inode q d && comes t above d) snaps.dirs rise);
  }

  pub found-next : (next after : Option InodeId) (id : InodeId) (gone more : List InodeId) → AreFound t snaps above next gone → IsRising (map (λ d. d.0.0) snaps.dirs) → next ≡ Some id → after ≡ option_map (λ d. d.0) (find (λ d. nat_lt id.0 d.0.0) snaps.dirs)
      → ((s : Snapshots) (state : State FileBlocks) → StandsFor t s state → (path place : Names) → id_of (node_at state.tree path) ≡ Some above → id_of (node_at state.tree place) ≡ Some id → more ≡ push_if (starts_with bytes_eq place path) id gone)
      → AreFound t snaps above after more
  found-next next after id gone more are rise is found noted = record {
    next_one = next-some snaps id after found;
    so_far = λ state all path there q.
        let w = place state all path there id (are.next_one id is) in
        let now : more ≡ push_if (comes t above id) id gone = noted snaps state all path w.0 there (ap id_of w.2 ∙ ap (λ (i : InodeId). Some i) w.3) ∙ ap (λ b. push_if b id gone) (comes_so state all path there w.0 w.1 id w.2 w.3) in
        let test : InodeId → Bool = λ d. same_inode q d && comes t above d in
        ap (λ (l : List InodeId). list_any (same_inode q) l || any_from test after snaps.dirs) now
        ∙ ap (λ b. b || any_from test after snaps.dirs) (any_pushed q id (comes t above id) gone)
        ∙ or_or (list_any (same_inode q) gone) (test id) (any_from test after snaps.dirs)
        ∙ ap (λ b. list_any (same_inode q) gone || b) (sym (step_any test snaps.dirs next after id rise is found))
        ∙ are.so_far state all path there q;
  }

  pub found-all : (gone : List InodeId) → AreFound t snaps above None gone → (state : State FileBlocks) → StandsFor t snaps state → (path : Names) → id_of (node_at state.tree path) ≡ Some above → AreGone state path gone
  found-all gone are state all path there = gone_so state all path there gone (λ q. sym (or_false (list_any (same_inode q) gone)) ∙ are.so_far state all path there q)

-- ---- what goes

pub going-of : (rows : Table) (state : State FileBlocks) (path : Names) (parent : Seat) (name : List ℕ) (gone : List InodeId) → ((above : Names) × (path ≡ above ++ name ∷ [])) → IsSeat rows state (parent_of path) parent → AreGone state path gone
    → IsGoing rows state path (record { parent = parent; name = name; gone = gone })
going-of rows state path parent name gone split seat are = record {
  above = split.0;
  split = split.1;
  seat = subst (λ (p : Names). IsSeat rows state p parent) (ap parent_of split.1 ∙ parent_of-last split.0 name) seat;
  gone = are;
}
