-- What each call on snapshots makes of a valid state.
use Rattle.std.proofs.Common.{◌≡◌, inl, inr, ℕ, ◌+◌, ◌<◌, ◌≤◌, Bool, true, false, cond, List, [], ◌∷◌, ◌++◌, map, refl, sym, ap, subst, ◌∙◌, append_assoc, append-nil, arith, leb-true, leb-false, le-leb}
use Rattle.std.specs.Prelude.{not, ◌||◌, ◌==◌, nat_lt, nat_le}
use Rattle.std.specs.List.{list_all, filter}
use Rattle.std.specs.Option.{option_map}
use Rattle.std.specs.FinMap.Entries.{is_sorted}
use Rattle.std.proofs.lemmas.Bool.Decides.{Decides-eqb, Decides-ltb}
use Rattle.std.proofs.lemmas.List.{append_cancel_left}
use Rattle.std.proofs.lemmas.Slice.Eq.{bytes_eq-Decides}
use Rattle.hs_types.specs.Limits.{snapshot_limit}
use Rattle.hs_types.specs.Names.{Names, is_name}
use Rattle.hs_types.specs.declared.ids.InodeId.{InodeId}
use Rattle.hs_types.specs.declared.ids.SnapId.{SnapId}
use Rattle.hs_plain.specs.declared.state.Node.{Node}
use Rattle.hs_plain.specs.declared.state.Member.{Member}
use Rattle.hs_plain.specs.declared.state.State.{State}
use Rattle.hs_plain.specs.Tree.{Tree, path_cmp, node_at, is_root_path, same_inode, subtree}
use Rattle.hs_plain.specs.State.{is_snapshottable, snapshots_of, is_named}
use Rattle.hs_plain.specs.Change.{new_member, snapped, is_snapshot, unsnapped, rename_member, resnapped, ticked}
use Rattle.hs_plain.specs.Valid.{is_dir_with, has_parents, has_names, has_each_once, has_root_on_top, all_nodes, has_clash, rises_above, rises, IsValid}
use Rattle.hs_plain.proofs.ValidTrees.{both}
use Rattle.hs_plain.proofs.ValidShapes.{IsTree, is_dir_shape, not_more, true_false}
use Rattle.hs_plain.proofs.ValidNodes.{shape, shapes, parents-from, named-from, once-from}
use Rattle.hs_plain.proofs.ValidNames.{names-rest}
use Rattle.hs_plain.proofs.ValidPlaces.{all_places}
use Rattle.hs_plain.proofs.ValidSubtrees.{node_at-subtree, sorted-subtree}
use Rattle.hs_plain.proofs.ValidAsked.{IsDirAt, MaySnap, MayRename}
use Rattle.hs_plain.proofs.ValidLists.{In, by_test, by_push, map_so, all_so, all_from, none_so, filter_so}
use Rattle.hs_plain.proofs.ValidMembers.{inode_so, inode_test, all-push, all-filter, above-filter, rises-filter, above-push, rises-push, snapshot_of, AreNamed, names_so, names-from, count-push, count-filter, same-but_name, renamed-keeps, map-renamed, all-renamed, count-renamed, one_by}
use Rattle.hs_plain.proofs.ValidHeld.{Held, held-in, kinds_so, kinds-from, below_so, below-from}
use Rattle.hs_plain.proofs.ValidFollows.{live_tree}

module _ {B : Type 0} where
  -- ---- a copied tree

  -- a directory of a tree, with all below it, is a tree whose root is the directory
  module _ (tree : Tree B) (next : ℕ) (sorted : is_sorted path_cmp tree ≡ true) (is : IsTree (shapes tree) next) (path : Names) (node : Node B) (there : IsDirAt tree path node) where
    shapes-copy : (q : Names) → shapes (subtree tree path) q ≡ shapes tree (path ++ q)
    shapes-copy q = ap (option_map shape) (node_at-subtree tree path q)

    root-copy : is_dir_with node.id (node_at (subtree tree path) []) ≡ true
    root-copy = ap (is_dir_with node.id) (node_at-subtree tree path [] ∙ ap (node_at tree) (append-nil path) ∙ there.there) ∙ both (inode_test node.id node.id refl) there.dir

    parents-copy : has_parents (subtree tree path) ≡ true
    parents-copy = parents-from (subtree tree path) (sorted-subtree tree path sorted)
        (λ q name s h. ap is_dir_shape (shapes-copy q) ∙ is.above (path ++ q) name s (ap (shapes tree) (append_assoc path q (name ∷ [])) ∙ sym (shapes-copy (q ++ name ∷ [])) ∙ h))

    names-copy : has_names (subtree tree path) ≡ true
    names-copy = named-from (subtree tree path) (sorted-subtree tree path sorted) (λ q s h. names-rest path q (is.named (path ++ q) s (sym (shapes-copy q) ∙ h)))

    once-copy : has_each_once (subtree tree path) ≡ true
    once-copy = once-from (subtree tree path) (sorted-subtree tree path sorted)
        (λ p q a b h k same. append_cancel_left path p q (is.once (path ++ p) (path ++ q) a b (sym (shapes-copy p) ∙ h) (sym (shapes-copy q) ∙ k) same))

    top-copy : has_root_on_top (subtree tree path) ≡ true
    top-copy = all_places (λ place. is_root_path place.0 || not (place.1.id.0 == 1)) (subtree tree path) (sorted-subtree tree path sorted) (λ q n at.
        by_test (n.id.0 == 1)
        (λ one. ap (λ (p : Names). is_root_path p || not (n.id.0 == 1)) (no_more q (is.once [] (path ++ q) (1, true) (shape n) is.root (sym (shapes-copy q) ∙ ap (option_map shape) at) (sym ((Decides-eqb n.id.0 1).0 one)))))
        (λ other. ap (λ b. is_root_path q || not b) other ∙ or_true (is_root_path q)))
      where
        or_true : (b : Bool) → (b || true) ≡ true
        or_true true = refl
        or_true false = refl

        no_more : (q : Names) → [] ≡ path ++ q → q ≡ []
        no_more q e = append_cancel_left path q [] (sym e ∙ sym (append-nil path ∙ not_more path q e))

  -- ---- other snapshots, with fewer nodes or as many

  module _ (state : State B) (valid : IsValid state) (after : State B) (same_next : after.next_inode ≡ state.next_inode) (sorted : is_sorted path_cmp after.tree ≡ true) (copies : list_all (λ member. is_sorted path_cmp member.tree) after.members ≡ true)
      (fewer : (n : Node B) → Held after n → Held state n) where
    was : (n : Node B) → In (all_nodes after) n → Held state n
    was n at = fewer n (held-in after sorted copies n at)

    clash-fewer : has_clash (all_nodes after) ≡ false
    clash-fewer = kinds-from (all_nodes after) (λ a b ina inb. kinds_so state valid a b (was a ina) (was b inb))

    ids-fewer : list_all (λ node. nat_lt node.id.0 after.next_inode) (all_nodes after) ≡ true
    ids-fewer = below-from after.next_inode (all_nodes after) (λ a at. subst (λ n. a.id.0 < n) (sym same_next) (below_so state valid a (was a at)))

  module _ (state : State B) (valid : IsValid state) where
    is : IsTree (shapes state.tree) state.next_inode
    is = live_tree state valid

    snapshot_below : (m : Member B) → In state.members m → snapshot_of m < state.next_snapshot
    snapshot_below m at = (Decides-ltb (snapshot_of m) state.next_snapshot).0 (all_so (λ member. nat_lt member.snapshot.0 state.next_snapshot) state.members valid.snapshots_below m at)

    tick_within : (m : Member B) → In state.members m → m.tick ≤ state.tick
    tick_within m at = leb-true m.tick state.tick (all_so (λ member. nat_le member.tick state.tick) state.members valid.ticks_within m at)

    few : (m : Member B) → In state.members m → snapshots_of state.members m.directory ≤ snapshot_limit
    few m at = leb-true (snapshots_of state.members m.directory) snapshot_limit (all_so (λ member. nat_le (snapshots_of state.members member.directory) snapshot_limit) state.members valid.at_most m at)

    -- ---- one more

    module _ (name : List ℕ) (path : Names) (node : Node B) (may : MaySnap state name path node) where
      abbrev new : Member B
      new = new_member state name (path, node)

      abbrev members : List (Member B)
      members = state.members ++ new ∷ []

      copies-snapped : list_all (λ member. is_sorted path_cmp member.tree) members ≡ true
      copies-snapped = all-push (λ member. is_sorted path_cmp member.tree) state.members new valid.copies_sorted (sorted-subtree state.tree path valid.sorted)

      pub fewer-snapped : (n : Node B) → Held (ticked (snapped state name (path, node))) n → Held state n
      fewer-snapped n (inl at) = inl at
      fewer-snapped n (inr at) = by_push state.members new at.0 at.1 (λ old. inr (at.0, old, at.2))
          (λ e. inl (path ++ at.2.0, sym (node_at-subtree state.tree path at.2.0) ∙ ap (λ (m : Member B). node_at m.tree at.2.0) e ∙ at.2.1))

      named-snapped : AreNamed members
      named-snapped a b ina inb d n = by_push state.members new a ina
          (λ oa. by_push state.members new b inb
          (λ ob. names_so state.members valid.different_names a b oa ob d n)
          (λ nb. absurd (taken a oa (d ∙ ap (λ (m : Member B). m.directory) (sym nb)) (n ∙ ap (λ (m : Member B). m.name) (sym nb)))))
          (λ na. by_push state.members new b inb
          (λ ob. absurd (taken b ob (sym (ap (λ (m : Member B). m.directory) na ∙ d)) (sym (ap (λ (m : Member B). m.name) na ∙ n))))
          (λ nb. ap snapshot_of (sym na ∙ nb)))
        where
          taken : (m : Member B) → In state.members m → m.directory ≡ node.id → m.name ≡ name → ⊥
          taken m at d n = true_false (both (inode_test m.directory node.id (ap (λ (id : InodeId). id.0) d)) ((bytes_eq-Decides m.name name).1 n)) (none_so (is_named node.id name) state.members may.free m at)

      few-snapped : (m : Member B) → In members m → snapshots_of members m.directory ≤ snapshot_limit
      few-snapped m at =
          let sum : snapshots_of members m.directory ≡ snapshots_of state.members m.directory + cond (same_inode node.id m.directory) 1 0 = count-push state.members new m.directory in
          let room : snapshots_of state.members node.id < snapshot_limit = leb-false snapshot_limit (snapshots_of state.members node.id) may.room in
          by_test (same_inode node.id m.directory)
          (λ t. let one : snapshots_of members m.directory ≡ snapshots_of state.members m.directory + 1 = sum ∙ ap (λ b. snapshots_of state.members m.directory + cond b 1 0) t in
          let here : snapshots_of state.members m.directory ≡ snapshots_of state.members node.id = ap (snapshots_of state.members) (sym (inode_so node.id m.directory t)) in
          omega arith)
          (λ f. let none : snapshots_of members m.directory ≡ snapshots_of state.members m.directory + 0 = sum ∙ ap (λ b. snapshots_of state.members m.directory + cond b 1 0) f in
          by_push state.members new m at
          (λ old. let le = few m old in omega arith)
          (λ e. absurd (true_false (inode_test node.id m.directory (ap (λ (x : Member B). x.directory.0) e)) f)))

      rise-snapped : rises_above 0 (map snapshot_of members) ≡ true
      rise-snapped = above-push snapshot_of state.members new 0 valid.snapshots_rise valid.next_snapshot_above snapshot_below

      pub valid-snapped : IsValid (ticked (snapped state name (path, node)))
      valid-snapped = record {
        sorted = valid.sorted;
        root = valid.root;
        parents = valid.parents;
        names = valid.names;
        each_once = valid.each_once;
        one_kind = clash-fewer state valid (ticked (snapped state name (path, node))) refl valid.sorted copies-snapped fewer-snapped;
        ids_below = ids-fewer state valid (ticked (snapped state name (path, node))) refl valid.sorted copies-snapped fewer-snapped;
        snapshottable_dirs = valid.snapshottable_dirs;
        snapshottable_once = valid.snapshottable_once;
        not_nested = valid.not_nested;
        member_dirs = all-push (λ member. is_snapshottable state member.directory) state.members new valid.member_dirs may.allowed;
        member_roots = all-push (λ member. is_dir_with member.directory (node_at member.tree [])) state.members new valid.member_roots (root-copy state.tree state.next_inode valid.sorted is path node may.is_there);
        copies_sorted = copies-snapped;
        copies_parents = all-push (λ member. has_parents member.tree) state.members new valid.copies_parents (parents-copy state.tree state.next_inode valid.sorted is path node may.is_there);
        copies_names = all-push (λ member. has_names member.tree) state.members new valid.copies_names (names-copy state.tree state.next_inode valid.sorted is path node may.is_there);
        copies_each_once = all-push (λ member. has_each_once member.tree) state.members new valid.copies_each_once (once-copy state.tree state.next_inode valid.sorted is path node may.is_there);
        copies_root_on_top = all-push (λ member. has_root_on_top member.tree) state.members new valid.copies_root_on_top (top-copy state.tree state.next_inode valid.sorted is path node may.is_there);
        snapshots_rise = rise-snapped;
        snapshots_below = all_from (λ member. nat_lt member.snapshot.0 (state.next_snapshot + 1)) members (λ m at. (Decides-ltb (snapshot_of m) (state.next_snapshot + 1)).1 (by_push state.members new m at
            (λ old. let lt = snapshot_below m old in omega arith)
            (λ e. let same : state.next_snapshot ≡ snapshot_of m = ap snapshot_of e in omega arith)));
        next_snapshot_above = omega arith;
        ticks_rise = rises-push (λ (m : Member B). m.tick) state.members new valid.ticks_rise (λ m at. let le = tick_within m at in omega arith);
        ticks_within = all_from (λ member. nat_le member.tick (state.tick + 1)) members (λ m at. le-leb m.tick (state.tick + 1) (by_push state.members new m at
            (λ old. let le = tick_within m old in omega arith)
            (λ e. let same : state.tick + 1 ≡ m.tick = ap (λ (x : Member B). x.tick) e in omega arith)));
        member_names = all-push (λ member. is_name member.name) state.members new valid.member_names may.named;
        different_names = names-from members 0 rise-snapped named-snapped;
        at_most = all_from (λ member. nat_le (snapshots_of members member.directory) snapshot_limit) members (λ m at. le-leb (snapshots_of members m.directory) snapshot_limit (few-snapped m at));
      }

    ticks-later : (ms : List (Member B)) → list_all (λ member. nat_le member.tick state.tick) ms ≡ true → list_all (λ member. nat_le member.tick (state.tick + 1)) ms ≡ true
    ticks-later ms all = all_from (λ member. nat_le member.tick (state.tick + 1)) ms (λ m at.
        let le : m.tick ≤ state.tick = leb-true m.tick state.tick (all_so (λ member. nat_le member.tick state.tick) ms all m at) in le-leb m.tick (state.tick + 1) (omega arith))

    -- ---- one less

    module _ (id : SnapId) where
      abbrev keeps : Member B → Bool
      keeps member = not (is_snapshot id member)

      abbrev left : List (Member B)
      left = filter keeps state.members

      pub fewer-unsnapped : (n : Node B) → Held (ticked (unsnapped state id)) n → Held state n
      fewer-unsnapped n (inl at) = inl at
      fewer-unsnapped n (inr at) = inr (at.0, (filter_so keeps state.members at.0 at.1).0, at.2)

      copies-unsnapped : list_all (λ member. is_sorted path_cmp member.tree) left ≡ true
      copies-unsnapped = all-filter (λ member. is_sorted path_cmp member.tree) keeps state.members valid.copies_sorted

      rise-unsnapped : rises_above 0 (map snapshot_of left) ≡ true
      rise-unsnapped = above-filter snapshot_of keeps state.members 0 valid.snapshots_rise

      pub valid-unsnapped : IsValid (ticked (unsnapped state id))
      valid-unsnapped = record {
        sorted = valid.sorted;
        root = valid.root;
        parents = valid.parents;
        names = valid.names;
        each_once = valid.each_once;
        one_kind = clash-fewer state valid (ticked (unsnapped state id)) refl valid.sorted copies-unsnapped fewer-unsnapped;
        ids_below = ids-fewer state valid (ticked (unsnapped state id)) refl valid.sorted copies-unsnapped fewer-unsnapped;
        snapshottable_dirs = valid.snapshottable_dirs;
        snapshottable_once = valid.snapshottable_once;
        not_nested = valid.not_nested;
        member_dirs = all-filter (λ member. is_snapshottable state member.directory) keeps state.members valid.member_dirs;
        member_roots = all-filter (λ member. is_dir_with member.directory (node_at member.tree [])) keeps state.members valid.member_roots;
        copies_sorted = copies-unsnapped;
        copies_parents = all-filter (λ member. has_parents member.tree) keeps state.members valid.copies_parents;
        copies_names = all-filter (λ member. has_names member.tree) keeps state.members valid.copies_names;
        copies_each_once = all-filter (λ member. has_each_once member.tree) keeps state.members valid.copies_each_once;
        copies_root_on_top = all-filter (λ member. has_root_on_top member.tree) keeps state.members valid.copies_root_on_top;
        snapshots_rise = rise-unsnapped;
        snapshots_below = all-filter (λ member. nat_lt member.snapshot.0 state.next_snapshot) keeps state.members valid.snapshots_below;
        next_snapshot_above = valid.next_snapshot_above;
        ticks_rise = rises-filter (λ (m : Member B). m.tick) keeps state.members valid.ticks_rise;
        ticks_within = ticks-later left (all-filter (λ member. nat_le member.tick state.tick) keeps state.members valid.ticks_within);
        member_names = all-filter (λ member. is_name member.name) keeps state.members valid.member_names;
        different_names = names-from left 0 rise-unsnapped (λ a b ina inb. names_so state.members valid.different_names a b (filter_so keeps state.members a ina).0 (filter_so keeps state.members b inb).0);
        at_most = all_from (λ member. nat_le (snapshots_of left member.directory) snapshot_limit) left (λ m at. le-leb (snapshots_of left m.directory) snapshot_limit
            (let le = count-filter keeps state.members m.directory in let most = few m (filter_so keeps state.members m at).0 in omega arith));
      }

    -- ---- one under another name

    module _ (name : List ℕ) (id : SnapId) (may : MayRename state name id) where
      abbrev under : List (Member B)
      under = map (rename_member id name) state.members

      pub fewer-resnapped : (n : Node B) → Held (ticked (resnapped state name id)) n → Held state n
      fewer-resnapped n (inl at) = inl at
      fewer-resnapped n (inr at) = let w = map_so (rename_member id name) state.members at.0 at.1 in
          inr (w.0, w.1, (at.2.0, ap (λ (t : Tree B). node_at t at.2.0) (sym (renamed-keeps (λ m. m.tree) (λ _ _. refl) id name w.0) ∙ ap (λ (m : Member B). m.tree) w.2) ∙ at.2.1))

      copies-resnapped : list_all (λ member. is_sorted path_cmp member.tree) under ≡ true
      copies-resnapped = all-renamed (λ member. is_sorted path_cmp member.tree) (λ _ _. refl) id name state.members valid.copies_sorted

      rise-resnapped : rises_above 0 (map snapshot_of under) ≡ true
      rise-resnapped = ap (rises_above 0) (map-renamed snapshot_of (λ _ _. refl) id name state.members) ∙ valid.snapshots_rise

      -- no other snapshot of the directory has the new name
      alone : (a b : Member B) → In state.members a → In state.members b → a.directory ≡ b.directory → is_snapshot id a ≡ true → b.name ≡ name → ⊥
      alone a b ina inb d t n =
          let here : a ≡ may.member = one_by snapshot_of state.members 0 valid.snapshots_rise a may.member ina may.is_there ((Decides-eqb a.snapshot.0 id.0).0 t ∙ ap (λ (s : SnapId). s.0) (sym may.same)) in
          let dir : b.directory ≡ may.member.directory = sym d ∙ ap (λ (m : Member B). m.directory) here in
          true_false (both (inode_test b.directory may.member.directory (ap (λ (x : InodeId). x.0) dir)) ((bytes_eq-Decides b.name name).1 n)) (none_so (is_named may.member.directory name) state.members may.free b inb)

      named-old : (a b : Member B) → In state.members a → In state.members b → a.directory ≡ b.directory → (rename_member id name a).name ≡ (rename_member id name b).name → snapshot_of a ≡ snapshot_of b
      named-old a b ina inb d n = same-but_name id name a
          (λ ta ea. same-but_name id name b
          (λ tb eb. (Decides-eqb a.snapshot.0 id.0).0 ta ∙ sym ((Decides-eqb b.snapshot.0 id.0).0 tb))
          (λ fb eb. absurd (alone a b ina inb d ta (ap (λ (m : Member B). m.name) (sym eb) ∙ sym n ∙ ap (λ (m : Member B). m.name) ea))))
          (λ fa ea. same-but_name id name b
          (λ tb eb. absurd (alone b a inb ina (sym d) tb (ap (λ (m : Member B). m.name) (sym ea) ∙ n ∙ ap (λ (m : Member B). m.name) eb)))
          (λ fb eb. names_so state.members valid.different_names a b ina inb d (ap (λ (m : Member B). m.name) (sym ea) ∙ n ∙ ap (λ (m : Member B). m.name) eb)))

      named-resnapped : AreNamed under
      named-resnapped x y inx iny d n =
          let a = map_so (rename_member id name) state.members x inx in
          let b = map_so (rename_member id name) state.members y iny in
          let same_dir : a.0.directory ≡ b.0.directory = sym (renamed-keeps (λ m. m.directory) (λ _ _. refl) id name a.0) ∙ ap (λ (m : Member B). m.directory) a.2 ∙ d ∙ ap (λ (m : Member B). m.directory) (sym b.2) ∙ renamed-keeps (λ m. m.directory) (λ _ _. refl) id name b.0 in
          let same_name : (rename_member id name a.0).name ≡ (rename_member id name b.0).name = ap (λ (m : Member B). m.name) a.2 ∙ n ∙ ap (λ (m : Member B). m.name) (sym b.2) in
          ap snapshot_of (sym a.2) ∙ renamed-keeps snapshot_of (λ _ _. refl) id name a.0 ∙ named-old a.0 b.0 a.1 b.1 same_dir same_name ∙ sym (renamed-keeps snapshot_of (λ _ _. refl) id name b.0) ∙ ap snapshot_of b.2

      is_named-under : (m : Member B) → In under m → is_name m.name ≡ true
      is_named-under m at = let w = map_so (rename_member id name) state.members m at in
          ap (λ (x : Member B). is_name x.name) (sym w.2) ∙ same-but_name id name w.0
          (λ t e. ap (λ (x : Member B). is_name x.name) e ∙ may.named)
          (λ f e. ap (λ (x : Member B). is_name x.name) e ∙ all_so (λ member. is_name member.name) state.members valid.member_names w.0 w.1)

      pub valid-resnapped : IsValid (ticked (resnapped state name id))
      valid-resnapped = record {
        sorted = valid.sorted;
        root = valid.root;
        parents = valid.parents;
        names = valid.names;
        each_once = valid.each_once;
        one_kind = clash-fewer state valid (ticked (resnapped state name id)) refl valid.sorted copies-resnapped fewer-resnapped;
        ids_below = ids-fewer state valid (ticked (resnapped state name id)) refl valid.sorted copies-resnapped fewer-resnapped;
        snapshottable_dirs = valid.snapshottable_dirs;
        snapshottable_once = valid.snapshottable_once;
        not_nested = valid.not_nested;
        member_dirs = all-renamed (λ member. is_snapshottable state member.directory) (λ _ _. refl) id name state.members valid.member_dirs;
        member_roots = all-renamed (λ member. is_dir_with member.directory (node_at member.tree [])) (λ _ _. refl) id name state.members valid.member_roots;
        copies_sorted = copies-resnapped;
        copies_parents = all-renamed (λ member. has_parents member.tree) (λ _ _. refl) id name state.members valid.copies_parents;
        copies_names = all-renamed (λ member. has_names member.tree) (λ _ _. refl) id name state.members valid.copies_names;
        copies_each_once = all-renamed (λ member. has_each_once member.tree) (λ _ _. refl) id name state.members valid.copies_each_once;
        copies_root_on_top = all-renamed (λ member. has_root_on_top member.tree) (λ _ _. refl) id name state.members valid.copies_root_on_top;
        snapshots_rise = rise-resnapped;
        snapshots_below = all-renamed (λ member. nat_lt member.snapshot.0 state.next_snapshot) (λ _ _. refl) id name state.members valid.snapshots_below;
        next_snapshot_above = valid.next_snapshot_above;
        ticks_rise = ap rises (map-renamed (λ m. m.tick) (λ _ _. refl) id name state.members) ∙ valid.ticks_rise;
        ticks_within = ticks-later under (all-renamed (λ member. nat_le member.tick state.tick) (λ _ _. refl) id name state.members valid.ticks_within);
        member_names = all_from (λ member. is_name member.name) under is_named-under;
        different_names = names-from under 0 rise-resnapped named-resnapped;
        at_most = all_from (λ member. nat_le (snapshots_of under member.directory) snapshot_limit) under (λ m at.
            let w = map_so (rename_member id name) state.members m at in
            let dir : m.directory ≡ w.0.directory = ap (λ (x : Member B). x.directory) (sym w.2) ∙ renamed-keeps (λ x. x.directory) (λ _ _. refl) id name w.0 in
            ap (λ n. nat_le n snapshot_limit) (count-renamed id name state.members m.directory ∙ ap (snapshots_of state.members) dir) ∙ le-leb (snapshots_of state.members w.0.directory) snapshot_limit (few w.0 w.1));
      }
