-- Tests of snapshottable directories by rows are those of the plain state.
use Rattle.std.proofs.Common.{◌≡◌, ℕ, ◌+◌, Bool, true, false, not, ◌&&◌, ◌||◌, List, [], ◌∷◌, ◌++◌, map, Option, Some, None, Ok, Err, ◌⊎◌, inl, inr, refl, sym, ap, ◌∙◌, append_assoc, append-nil, length, nat_eq, nat_lt}
use Rattle.std.specs.Prelude.{bytes_eq, is_some}
use Rattle.std.specs.List.{find, list_any, starts_with}
use Rattle.std.specs.Option.{option_map}
use Rattle.std.specs.Cmp.{nat_eq_equiv}
use Rattle.std.proofs.lemmas.Bool.{cases_Bool}
use Rattle.hs_types.specs.Names.{Names}
use Rattle.hs_types.specs.declared.ids.InodeId.{InodeId}
use Rattle.hs_plain.specs.declared.state.Node.{Node}
use Rattle.hs_plain.specs.declared.state.Member.{Member}
use Rattle.hs_plain.specs.declared.state.State.{State}
use Rattle.hs_plain.specs.declared.state.FileBlocks.{FileBlocks}
use Rattle.hs_plain.specs.Asked.{Asked}
use Rattle.hs_plain.specs.Tree.{node_at, is_above, is_under, same_inode, place_of}
use Rattle.hs_plain.specs.State.{is_snapshottable, has_snapshots, holds_snapshots, holds_snapshottable, is_in_snapshottable, meets_snapshottable}
use Rattle.hs_plain.specs.Valid.{is_dir_place}
use Rattle.hs_plain.proofs.Trees.{place_so}
use Rattle.hs_plain.proofs.ValidChanges.{apart_test}
use Rattle.hs_plain.proofs.ValidDirs.{above_so, above_test, not_above_itself, listed_so}
use Rattle.hs_plain.proofs.ValidHeld.{in-tree, found_place}
use Rattle.hs_plain.proofs.ValidLists.{In, by_test, false_by, all_so, any_so, any_from}
use Rattle.hs_plain.proofs.ValidMembers.{inode_so, inode_test}
use Rattle.hs_plain.proofs.ValidShapes.{by_same, by_under, same_some, true_false, under_test}
use Rattle.hs_plain.proofs.ValidTrees.{both, first, second}
use Rattle.snapshot_manager.specs.Snapshots.{Directory, Snapshots, is_of, last_id, snaps_in, snaps_of}
use Rattle.snapshot_manager.specs.Members.{of_dir}
use Rattle.inode_table.specs.Joined.{told}
use Rattle.inode_table.specs.Reads.{child, id_of}
use Rattle.inode_table.specs.RowHistory.{rows_at, shown}
use Rattle.inode_table.specs.Stands.{root_id}
use Rattle.inode_table.specs.Tabled.{Tabled}
use Rattle.inode_table.specs.Whole.{StandsFor}
use Rattle.inode_table.proofs.Covers.{some_id}
use Rattle.inode_table.proofs.Reading.{same_id_so}
use Rattle.inode_table.proofs.Walking.{up_there}
use Rattle.path_resolver.specs.Above.{comes_up, is_sought}
use Rattle.path_resolver.specs.ByRows.{child_of, goes_in, led_in}
use Rattle.path_resolver.specs.declared.above.Sought.TheVariants as sought
use Rattle.path_resolver.proofs.Live.{child-led, child-there}
use Rattle.path_resolver.proofs.ByRows.{nodes}
use Rattle.path_resolver.proofs.Under.{under}

-- ---- tests

same_truth : (a b : Bool) → (a ≡ true → b ≡ true) → (b ≡ true → a ≡ true) → a ≡ b
same_truth true b to from = sym (to refl)
same_truth false b to from = sym (false_by b (λ t. true_false (from t) refl))

or_true : (a b : Bool) → b ≡ true → (a || b) ≡ true
or_true true b h = refl
or_true false b h = h

-- the answer of two tests, one after the other
pub first-true : {r a : Bool} (b : Bool) → r ≡ true → r ≡ a → r ≡ (a || b)
first-true b t e = t ∙ sym (ap (λ x. x || b) (sym e ∙ t))

pub first-false : {r s a b : Bool} → r ≡ false → r ≡ a → s ≡ b → s ≡ (a || b)
first-false {r} {s} {a} {b} f e g = g ∙ sym (ap (λ x. x || b) (sym e ∙ f))

-- a path other than a second one lies below it where it lies at or below it
above-under : (path q : Names) → (q ≡ path → ⊥) → is_above path q ≡ starts_with bytes_eq q path
above-under path q other = by_under q path
    (λ rest e. below rest e ∙ sym (under_test q path rest e))
    (λ apart. ap (λ b. b && nat_lt (length path) (length q)) (apart_test q path apart) ∙ sym (apart_test q path apart))
  where
    below : (rest : Names) → q ≡ path ++ rest → is_above path q ≡ true
    below [] e = absurd (other (e ∙ append-nil path))
    below (name ∷ rest) e = above_test path q name rest e

-- a test with an alternative holds of an element of a list
module _ {X : Type 0} (s a b : X → Bool) where
  pub any-either : (xs : List X) → list_any (λ x. s x && (a x || b x)) xs ≡ (list_any (λ x. s x && a x) xs || list_any (λ x. s x && b x) xs)
  any-either [] = refl
  any-either (x ∷ xs) = ap (λ t. (s x && (a x || b x)) || t) (any-either xs) ∙ by (s x) (a x) (b x) (list_any (λ x. s x && a x) xs) (list_any (λ x. s x && b x) xs)
    where
      turn : (p q : Bool) → (true || (p || q)) ≡ ((true || p) || q)
      turn p q = refl

      late : (p q : Bool) → (p || (true || q)) ≡ true
      late true q = refl
      late false q = refl

      over : (p q : Bool) → true ≡ (p || (true || q))
      over p q = sym (late p q)

      by : (t u v p q : Bool) → ((t && (u || v)) || (p || q)) ≡ (((t && u) || p) || ((t && v) || q))
      by false u v p q = refl
      by true true v p q = refl
      by true false true p q = over p q
      by true false false p q = refl

-- ---- lists of directories

pub entry-some : (ds : List Directory) (d : Directory) → In ds d → is_some (option_map (λ (e : Directory). e.1) (find (is_of d.0) ds)) ≡ true
entry-some [] d at = absurd at
entry-some (e ∷ ds) d at = by (entry-some ds d) (cases_Bool (is_of d.0 e)) at
  where
    by : (In ds d → is_some (option_map (λ (e : Directory). e.1) (find (is_of d.0) ds)) ≡ true) → (is_of d.0 e ≡ true) ⊎ (is_of d.0 e ≡ false) → In (e ∷ ds) d → is_some (option_map (λ (e : Directory). e.1) (find (is_of d.0) (e ∷ ds))) ≡ true
    by rest (inl here) at = rw here refl
    by rest (inr other) (inl same) = absurd (true_false (inode_test d.0 e.0 (ap (λ (x : Directory). x.0.0) (sym same))) other)
    by rest (inr other) (inr at) = rw other (rest at)

pub some-entry : (ds : List Directory) (id : InodeId) → is_some (option_map (λ (e : Directory). e.1) (find (is_of id) ds)) ≡ true → (d : Directory) × In ds d × (d.0 ≡ id)
some-entry [] id h = absurd (true_false h refl)
some-entry (e ∷ ds) id h = by (some-entry ds id) (cases_Bool (is_of id e)) h
  where
    by : (is_some (option_map (λ (e : Directory). e.1) (find (is_of id) ds)) ≡ true → (d : Directory) × In ds d × (d.0 ≡ id)) → (is_of id e ≡ true) ⊎ (is_of id e ≡ false)
        → is_some (option_map (λ (e : Directory). e.1) (find (is_of id) (e ∷ ds))) ≡ true → (d : Directory) × In (e ∷ ds) d × (d.0 ≡ id)
    by rest (inl here) h = (e, inl refl, sym (inode_so id e.0 here))
    by rest (inr other) h = let r = rest (rw other at h) in (r.0, inr r.1, r.2)

-- a directory's last snapshot is there where a member is its own
has-last : (ms : List (Member FileBlocks)) (id : InodeId) → list_any (λ m. same_inode m.directory id) ms ≡ is_some (last_id (of_dir id (map told ms)))
has-last [] id = refl
has-last (m ∷ ms) id = by (has-last ms id) (cases_Bool (nat_eq id.0 m.directory.0))
  where
    by : list_any (λ m. same_inode m.directory id) ms ≡ is_some (last_id (of_dir id (map told ms))) → (nat_eq id.0 m.directory.0 ≡ true) ⊎ (nat_eq id.0 m.directory.0 ≡ false) → list_any (λ m. same_inode m.directory id) (m ∷ ms) ≡ is_some (last_id (of_dir id (map told (m ∷ ms))))
    by rest (inl own) = let same : nat_eq m.directory.0 id.0 ≡ true = nat_eq_equiv.symm m.directory.0 id.0 ∙ own in rw (own, same) refl
    by rest (inr other) = let apart : nat_eq m.directory.0 id.0 ≡ false = nat_eq_equiv.symm m.directory.0 id.0 ∙ other in rw (other, apart) rest

module _ (table : Tabled) (snaps : Snapshots) (state : State FileBlocks) (all : StandsFor table snaps state) where
  -- ---- snapshottable directories and places

  place-there : (id : InodeId) → is_some (snaps_of snaps id) ≡ true → (q : Names) × (y : Node FileBlocks) × (node_at state.tree q ≡ Some y) × (y.id ≡ id)
  place-there id h = by (place_of state.tree id) refl (all_so (λ id. is_dir_place (place_of state.tree id)) state.snapshottable all.valid.snapshottable_dirs id (listed_so state.snapshottable id (all.snapshottable id ∙ h)))
    where
      by : (o : Option (Names × Node FileBlocks)) → place_of state.tree id ≡ o → is_dir_place o ≡ true → (q : Names) × (y : Node FileBlocks) × (node_at state.tree q ≡ Some y) × (y.id ≡ id)
      by None e t = absurd (true_false t refl)
      by (Some place) e t = let w = place_so state.tree id place e in (place.0, place.1, found_place state.tree all.valid.sorted place w.0, same_id_so place.1.id id w.1)

  -- a test of places is one of directories, where it holds of these alone
  module _ (test : Names × Node FileBlocks → Bool) (own : InodeId → Bool) (only : (q : Names) (y : Node FileBlocks) → test (q, y) ≡ true → is_snapshottable state y.id ≡ true)
      (alike : (q : Names) (y : Node FileBlocks) → node_at state.tree q ≡ Some y → is_snapshottable state y.id ≡ true → test (q, y) ≡ own y.id) where
    by-directories : list_any (λ place. test place) state.tree ≡ list_any (λ d. own d.0) snaps.dirs
    by-directories = same_truth _ _
        (λ h. let w = any_so (λ place. test place) state.tree h in
        let at : node_at state.tree w.0.0 ≡ Some w.0.1 = found_place state.tree all.valid.sorted w.0 w.1 in
        let snap : is_snapshottable state w.0.1.id ≡ true = only w.0.0 w.0.1 w.2 in
        let d = some-entry snaps.dirs w.0.1.id (sym (all.snapshottable w.0.1.id) ∙ snap) in
        any_from (λ (d : Directory). own d.0) snaps.dirs d.0 d.1 (ap own d.2 ∙ sym (alike w.0.0 w.0.1 at snap) ∙ w.2))
        (λ h. let d = any_so (λ (d : Directory). own d.0) snaps.dirs h in
        let y = place-there d.0.0 (entry-some snaps.dirs d.0 d.1) in
        let snap : is_snapshottable state y.1.id ≡ true = all.snapshottable y.1.id ∙ ap (λ (i : InodeId). is_some (snaps_of snaps i)) y.3 ∙ entry-some snaps.dirs d.0 d.1 in
        any_from (λ place. test place) state.tree (y.0, y.1) (in-tree state.tree y.0 y.1 y.2) (alike y.0 y.1 y.2 snap ∙ ap own y.3 ∙ d.2))

  pub has-told : (id : InodeId) → has_snapshots state id ≡ is_some (last_id (snaps_in snaps id))
  has-told id = has-last state.members id ∙ ap (λ items. is_some (last_id items)) (sym (all.told.tables id))

  has-place : (id : InodeId) → has_snapshots state id ≡ true → is_snapshottable state id ≡ true
  has-place id h =
      let m = any_so (λ (m : Member FileBlocks). same_inode m.directory id) state.members h in
      ap (is_snapshottable state) (sym (inode_so m.0.directory id m.2)) ∙ all_so (λ (m : Member FileBlocks). is_snapshottable state m.directory) state.members all.valid.member_dirs m.0 m.1

  module _ (path : Names) (above : InodeId) (there : id_of (node_at state.tree path) ≡ Some above) where
    abbrev comes : InodeId → Bool
    comes id = comes_up (shown table.rows 0) above (table.greatest + 1) id

    comes-under : (q : Names) (y : Node FileBlocks) → node_at state.tree q ≡ Some y → starts_with bytes_eq q path ≡ comes y.id
    comes-under q y at = sym (under table snaps state all path q above y.id there (ap id_of at))

    pub snapshottable-held : holds_snapshottable state path ≡ list_any (λ d. is_sought sought.Snapshottable snaps above d.0 (comes d.0)) snaps.dirs
    snapshottable-held = by-directories (λ place. is_snapshottable state place.1.id && is_under path place) comes
        (λ q y t. first (is_snapshottable state y.id) _ t)
        (λ q y at snap. ap (λ b. b && starts_with bytes_eq q path) snap ∙ comes-under q y at)

    pub snapshots-held : holds_snapshots state path ≡ list_any (λ d. is_sought sought.WithSnapshots snaps above d.0 (comes d.0)) snaps.dirs
    snapshots-held = by-directories (λ place. has_snapshots state place.1.id && is_under path place) (λ id. is_some (last_id (snaps_in snaps id)) && comes id)
        (λ q y t. has-place y.id (first (has_snapshots state y.id) _ t))
        (λ q y at _. (λ i. has-told y.id i && comes-under q y at i))

    above-below : (q : Names) (y : Node FileBlocks) → node_at state.tree q ≡ Some y → is_above path q ≡ (not (same_inode y.id above) && comes y.id)
    above-below q y at =
        let x = some_id (node_at state.tree path) above there in
        by_same q path
        (λ e. ap (λ (p : Names). is_above path p) e ∙ not_above_itself path
        ∙ sym (ap (λ b. not b && comes y.id) (inode_test y.id above (ap (λ (i : InodeId). i.0) (ap (λ (n : Node FileBlocks). n.id) (same_some (sym at ∙ ap (node_at state.tree) e ∙ x.1)) ∙ x.2)))))
        (λ other. above-under path q other ∙ comes-under q y at
        ∙ sym (ap (λ b. not b && comes y.id) (false_by (same_inode y.id above) (λ t. other ((nodes table snaps state all).once q path y x.0 at x.1 (inode_so y.id above t ∙ sym x.2))))))

    pub below-held : list_any (λ place. is_snapshottable state place.1.id && is_above path place.0) state.tree ≡ list_any (λ d. is_sought sought.Below snaps above d.0 (comes d.0)) snaps.dirs
    below-held = by-directories (λ place. is_snapshottable state place.1.id && is_above path place.0) (λ id. not (same_inode id above) && comes id)
        (λ q y t. first (is_snapshottable state y.id) _ t)
        (λ q y at snap. ap (λ b. b && is_above path q) snap ∙ above-below q y at)

  -- ---- the way down

  -- a node that names pass is snapshottable
  record Passes (at names : Names) : Type 0 where
    above : Names
    name : List ℕ
    rest : Names
    node : Node FileBlocks
    split : names ≡ above ++ name ∷ rest
    is : node_at state.tree (at ++ above) ≡ Some node
    snapshottable : is_some (snaps_of snaps node.id) ≡ true

  in-so : (names at : Names) (n : Node FileBlocks) → node_at state.tree at ≡ Some n → led_in table.rows snaps n.id names ≡ true → Passes at names
  in-so [] at n is h = absurd (true_false h refl)
  in-so (name ∷ names) at n is h = by_test (is_some (snaps_of snaps n.id))
      (λ t. record { above = []; name = name; rest = names; node = n; split = refl; is = ap (node_at state.tree) (append-nil at) ∙ is; snapshottable = t })
      (λ f. by (λ m. in-so names (child at name) m) (child_of 0 name (rows_at table.rows n.id)) refl (sym (ap (λ b. b || goes_in (λ next. led_in table.rows snaps next names) (child_of 0 name (rows_at table.rows n.id))) f) ∙ h))
    where
      by : ((m : Node FileBlocks) → node_at state.tree (child at name) ≡ Some m → led_in table.rows snaps m.id names ≡ true → Passes (child at name) names)
          → (asked : Asked InodeId) → child_of 0 name (rows_at table.rows n.id) ≡ asked → goes_in (λ next. led_in table.rows snaps next names) asked ≡ true → Passes at (name ∷ names)
      by more (Err why) e g = absurd (true_false g refl)
      by more (Ok next) e g =
          let m = some_id (node_at state.tree (child at name)) next (child-led table snaps state all at n name next is e) in
          let p = more m.0 m.1 (ap (λ (i : InodeId). led_in table.rows snaps i names) m.2 ∙ g) in
          record { above = name ∷ p.above; name = p.name; rest = p.rest; node = p.node; split = ap (λ (q : Names). name ∷ q) p.split; is = ap (node_at state.tree) (sym (append_assoc at (name ∷ []) p.above)) ∙ p.is; snapshottable = p.snapshottable }

  in-from : (q at : Names) (n y : Node FileBlocks) (name : List ℕ) (rest : Names) → node_at state.tree at ≡ Some n → node_at state.tree (at ++ q) ≡ Some y → is_some (snaps_of snaps y.id) ≡ true
      → led_in table.rows snaps n.id (q ++ name ∷ rest) ≡ true
  in-from [] at n y name rest is there snap =
      let same : y ≡ n = same_some (sym there ∙ ap (node_at state.tree) (append-nil at) ∙ is) in
      ap (λ b. b || goes_in (λ next. led_in table.rows snaps next rest) (child_of 0 name (rows_at table.rows n.id))) (sym (ap (λ (m : Node FileBlocks). is_some (snaps_of snaps m.id)) same) ∙ snap)
  in-from (a ∷ q) at n y name rest is there snap =
      let down : node_at state.tree (child at a ++ q) ≡ Some y = ap (node_at state.tree) (append_assoc at (a ∷ []) q) ∙ there in
      let m = up_there (node_at state.tree) (nodes table snaps state all) (child at a) q y down in
      or_true (is_some (snaps_of snaps n.id)) _ (ap (goes_in (λ next. led_in table.rows snaps next (q ++ name ∷ rest))) (child-there table snaps state all at n m.0 a is m.1) ∙ in-from q (child at a) m.0 y name rest m.1 down snap)

  pub in-held : (path : Names) → is_in_snapshottable state path ≡ led_in table.rows snaps root_id path
  in-held path =
      let root = some_id (node_at state.tree []) root_id all.stands.live.root in
      same_truth _ _
      (λ h. let w = any_so (λ (place : Names × Node FileBlocks). is_snapshottable state place.1.id && is_above place.0 path) state.tree h in
      let at : node_at state.tree w.0.0 ≡ Some w.0.1 = found_place state.tree all.valid.sorted w.0 w.1 in
      let split = above_so w.0.0 path (second (is_snapshottable state w.0.1.id) _ w.2) in
      ap (λ (i : InodeId). led_in table.rows snaps i path) (sym root.2) ∙ ap (led_in table.rows snaps root.0.id) split.2
      ∙ in-from w.0.0 [] root.0 w.0.1 split.0 split.1 root.1 at (sym (all.snapshottable w.0.1.id) ∙ first (is_snapshottable state w.0.1.id) _ w.2))
      (λ h. let p = in-so path [] root.0 root.1 (ap (λ (i : InodeId). led_in table.rows snaps i path) root.2 ∙ h) in
      any_from (λ (place : Names × Node FileBlocks). is_snapshottable state place.1.id && is_above place.0 path) state.tree (p.above, p.node) (in-tree state.tree p.above p.node p.is)
      (both (all.snapshottable p.node.id ∙ p.snapshottable) (above_test p.above path p.name p.rest p.split)))

  pub meets-held : (path : Names) (above : InodeId) → id_of (node_at state.tree path) ≡ Some above
      → meets_snapshottable state path ≡ (led_in table.rows snaps root_id path || list_any (λ d. is_sought sought.Below snaps above d.0 (comes_up (shown table.rows 0) above (table.greatest + 1) d.0)) snaps.dirs)
  meets-held path above there =
      any-either (λ (place : Names × Node FileBlocks). is_snapshottable state place.1.id) (λ place. is_above place.0 path) (λ place. is_above path place.0) state.tree
      ∙ (λ i. in-held path i || below-held path above there i)
