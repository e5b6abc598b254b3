-- What each call makes of the live tree of a valid state.
use Rattle.std.proofs.Common.{◌≡◌, inl, inr, ℕ, ◌+◌, ◌<◌, true, false, List, [], ◌∷◌, ◌++◌, map, Some, None, Ok, refl, sym, ap, subst, ◌∙◌, append_assoc, arith}
use Rattle.std.specs.Prelude.{◌≢◌, not, ◌&&◌, ◌||◌, is_some, Option}
use Rattle.std.specs.List.{list_all, list_any, filter}
use Rattle.std.specs.Option.{option_map}
use Rattle.std.specs.FinMap.Entries.{is_sorted}
use Rattle.std.proofs.lemmas.List.{append_cancel_left}
use Rattle.hs_types.specs.Names.{Names}
use Rattle.hs_types.specs.declared.ids.InodeId.{InodeId}
use Rattle.hs_plain.specs.declared.state.Node.{Node}
use Rattle.hs_plain.specs.declared.state.Member.{Member}
use Rattle.hs_plain.specs.declared.state.State.{State}
use Rattle.hs_plain.specs.Tree.{Tree, path_cmp, node_at, parent_of, is_dir, is_above, is_under, same_inode, place_of, walks_above}
use Rattle.hs_plain.specs.State.{is_snapshottable, has_snapshots, holds_snapshottable, is_in_snapshottable}
use Rattle.hs_plain.specs.Change.{stamped, without, moved, still_in, with_node, removed, renamed}
use Rattle.hs_plain.specs.inside.Places.{IsFree}
use Rattle.hs_plain.specs.Valid.{all_differ, IsValid}
use Rattle.hs_plain.proofs.ValidTrees.{both, sorted-with_node, sorted-without, sorted-removed, sorted-renamed}
use Rattle.hs_plain.proofs.ValidShapes.{Shape, IsTree, is_dir_shape, true_false, none_some, same_some, by_same, by_under, by_last, there_above, under_test, tree-made, tree-removed}
use Rattle.hs_plain.proofs.ValidMoves.{tree-moved}
use Rattle.hs_plain.proofs.ValidNodes.{shape, shapes, shape_some, dir_shape}
use Rattle.hs_plain.proofs.ValidChanges.{shapes-stamped, put_here, put_there, without_gone, without_there, moved_path, moved_under, moved_other}
use Rattle.hs_plain.proofs.ValidAsked.{walked, HasRoom, MayGo, MayMove, MayMoveIn, lands_outside, MayAllow}
use Rattle.hs_plain.proofs.ValidLists.{In, false_by, in-left, neither_first, neither_second, all_so, all_from, none_so, any_from, in-filter, filter_so, differ-filter, differ-push}
use Rattle.hs_plain.proofs.ValidMembers.{inode_so, inode_test}
use Rattle.hs_plain.proofs.ValidHeld.{in-tree, found_place}
use Rattle.hs_plain.proofs.ValidDirs.{above_so, above_test, fork, AreDirs, dirs-fewer, dirs-moved, dirs-stay, dirs-push, listed_so, listed_test}
use Rattle.hs_plain.proofs.Trees.{moved-comes, moved-came, place_so, no_place}
use Rattle.hs_plain.proofs.ValidFollows.{live_tree, live_dirs, Follows}

module _ {B : Type 0} where
  -- ---- trees

  -- a tree with a node put in below a directory
  with_node-here : (state : State B) (path : Names) (node : Node B) → shapes (with_node state path node).tree path ≡ Some (shape node)
  with_node-here state path node = ap (option_map shape) (put_here path node (stamped state.tree (parent_of path) (state.tick + 1)))

  with_node-there : (state : State B) (path : Names) (node : Node B) (q : Names) → q ≢ path → shapes (with_node state path node).tree q ≡ shapes state.tree q
  with_node-there state path node q ne = ap (option_map shape) (put_there path node (stamped state.tree (parent_of path) (state.tick + 1)) q ne) ∙ (λ i. shapes-stamped state.tree (parent_of path) (state.tick + 1) i q)

  pub tree-with_node : (state : State B) (path : Names) (node : Node B) → IsTree (shapes state.tree) state.next_inode → HasRoom state.tree path → node.id.0 ≡ state.next_inode → IsTree (shapes (with_node state path node).tree) (state.next_inode + 1)
  tree-with_node state path node is room id = by_last (λ path. HasRoom state.tree path → IsTree (shapes (with_node state path node).tree) (state.next_inode + 1)) path
      (λ room. absurd (true_false (sym (dir_shape (node_at state.tree [])) ∙ ap is_dir_shape is.root) room.free))
      (λ above name room.
      let p : Names = above ++ name ∷ [] in
      tree-made (shapes state.tree) state.next_inode is (shapes (with_node state p node).tree) above name (is_dir node)
      (dir_shape (node_at state.tree above) ∙ walked state.tree [] above name room.reached.0 room.reached.1)
      (dir_shape (node_at state.tree p) ∙ room.free)
      room.named
      (with_node-here state p node ∙ ap (λ n. Some (n, is_dir node)) id)
      (with_node-there state p node))
      room

  pub tree-without : (tree : Tree B) (next : ℕ) (path : Names) → IsTree (shapes tree) next → path ≢ [] → IsTree (shapes (without tree path)) next
  tree-without tree next path is below_root = tree-removed (shapes tree) next is (shapes (without tree path)) path below_root (without_gone tree path) (without_there tree path)

  -- a place that is free has nothing below it
  pub free_below : (tree : Tree B) (next : ℕ) (path : Names) → IsTree (shapes tree) next → node_at tree path ≡ None → IsFree tree path
  free_below tree next path is free rest = by_node (node_at tree (path ++ rest)) refl
    where
      by_node : (o : Option (Node B)) → node_at tree (path ++ rest) ≡ o → node_at tree (path ++ rest) ≡ None
      by_node None e = e
      by_node (Some n) e = let t = there_above (shapes tree) next is path rest (shape n) (ap (option_map shape) e) in absurd (none_some (sym (ap (option_map shape) free) ∙ t.1))

  module _ (tree : Tree B) (next : ℕ) (old new : Names) (sorted : is_sorted path_cmp tree ≡ true) (is : IsTree (shapes tree) next) (may : MayMove tree old new) where
    free_new : IsFree tree new
    free_new = free_below tree next new is may.free

    pub moved_from : (q : Names) (s : Shape) → shapes (moved tree old new) q ≡ Some s → (p : Names) × (shapes tree p ≡ Some s) × (moved_path old new p ≡ q)
    moved_from q s h = let n = shape_some (node_at (moved tree old new) q) s h in
        moved-came tree old new sorted free_new q n.0 n.1 (λ p at d. (p, ap (option_map shape) at ∙ ap (λ (x : Shape). Some x) n.2, d))

    pub moved_onto : (p : Names) (s : Shape) → shapes tree p ≡ Some s → shapes (moved tree old new) (moved_path old new p) ≡ Some s
    moved_onto p s h = let n = shape_some (node_at tree p) s h in ap (option_map shape) (moved-comes tree old new sorted free_new p n.0 n.1) ∙ ap (λ (x : Shape). Some x) n.2

    pub tree-moved_to : IsTree (shapes (moved tree old new)) next
    tree-moved_to = by_last (λ to. new ≡ to → IsTree (shapes (moved tree old new)) next) new
        (λ e. absurd (none_some (ap (option_map shape) (sym may.free ∙ ap (node_at tree) e) ∙ is.root)))
        (λ above name e. let reached = subst (λ to. (u : Unit {0}) × (walks_above tree to ≡ Ok u)) e may.reached in
        tree-moved (shapes tree) next is old new above name e (dir_shape (node_at tree above) ∙ walked tree [] above name reached.0 reached.1) may.below_root (lands_outside tree old new may) may.named
        (moved_path old new) (moved_under old new) (moved_other old new) (shapes (moved tree old new)) moved_from moved_onto)
        refl

  module _ (state : State B) (valid : IsValid state) where
    is : IsTree (shapes state.tree) state.next_inode
    is = live_tree state valid

    dirs : AreDirs (shapes state.tree) state.snapshottable
    dirs = live_dirs state valid

    id_below : (p : Names) (id : InodeId) → shapes state.tree p ≡ Some (id.0, true) → id.0 < state.next_inode
    id_below p id h = is.below p (id.0, true) h

    -- a snapshottable directory as a place of the tree
    place_in : (p : Names) (id : InodeId) → shapes state.tree p ≡ Some (id.0, true) → (n : Node B) × (In state.tree (p, n)) × (n.id ≡ id)
    place_in p id h = let n = shape_some (node_at state.tree p) (id.0, true) h in (n.0, in-tree state.tree p n.0 n.1, λ i. record { 0 = (n.2 i).0 })

    -- ---- a new node

    pub follows-with_node : (path : Names) (node : Node B) → HasRoom state.tree path → node.id.0 ≡ state.next_inode → Follows state (with_node state path node).tree (state.next_inode + 1) state.snapshottable
    follows-with_node path node room id = record {
      sorted = sorted-with_node state path node valid.sorted;
      is_tree = made;
      more = omega arith;
      new_or_old = λ q s h. by_same q path
          (λ e. let same : shape node ≡ s = same_some (sym (with_node-here state path node) ∙ ap (shapes (with_node state path node).tree) (sym e) ∙ h) in
          let ids : node.id.0 ≡ s.0 = ap (λ (x : Shape). x.0) same in inl (omega arith))
          (λ ne. inr (q, sym (with_node-there state path node q ne) ∙ h));
      dirs = dirs-stay (shapes state.tree) (shapes (with_node state path node).tree) (state.next_inode + 1) made state.snapshottable dirs
          (λ p id at h. with_node-there state path node p (λ e. true_false (ap (λ (x : Names). is_dir_shape (shapes state.tree x)) (sym e) ∙ ap is_dir_shape h) (dir_shape (node_at state.tree path) ∙ room.free)) ∙ h);
      once = valid.snapshottable_once;
      member_dirs = valid.member_dirs;
    }
      where
        made : IsTree (shapes (with_node state path node).tree) (state.next_inode + 1)
        made = tree-with_node state path node is room id

    -- ---- a tree with the same ids and kinds

    pub follows-alike : (tree : Tree B) → is_sorted path_cmp tree ≡ true → shapes tree ≡ shapes state.tree → Follows state tree state.next_inode state.snapshottable
    follows-alike tree sorted alike = record {
      sorted = sorted;
      is_tree = subst (λ f. IsTree f state.next_inode) (sym alike) is;
      more = omega arith;
      new_or_old = λ q s h. inr (q, (λ i. sym alike i q) ∙ h);
      dirs = subst (λ f. AreDirs f state.snapshottable) (sym alike) dirs;
      once = valid.snapshottable_once;
      member_dirs = valid.member_dirs;
    }

    -- ---- other snapshottable directories

    -- a directory with a snapshot is snapshottable
    member_listed : (m : Member B) → In state.members m → In state.snapshottable m.directory
    member_listed m at = listed_so state.snapshottable m.directory (all_so (λ member. is_snapshottable state member.directory) state.members valid.member_dirs m at)

    all_listed : (ids : List InodeId) → ((m : Member B) → In state.members m → In ids m.directory) → list_all (λ member. list_any (same_inode member.directory) ids) state.members ≡ true
    all_listed ids listed = all_from (λ member. list_any (same_inode member.directory) ids) state.members (λ m at. listed_test ids m.directory (listed m at))

    follows-dirs : (ids : List InodeId) → AreDirs (shapes state.tree) ids → all_differ (map (λ id. id.0) ids) ≡ true → ((m : Member B) → In state.members m → In ids m.directory) → Follows state state.tree state.next_inode ids
    follows-dirs ids are once listed = record { sorted = valid.sorted; is_tree = is; more = omega arith; new_or_old = λ q s h. inr (q, h); dirs = are; once = once; member_dirs = all_listed ids listed }

    pub follows-allowed : (id : InodeId) → MayAllow state id → is_snapshottable state id ≡ false → Follows state state.tree state.next_inode (state.snapshottable ++ id ∷ [])
    follows-allowed id may fresh = follows-dirs (state.snapshottable ++ id ∷ [])
        (dirs-push (shapes state.tree) state.next_inode is state.snapshottable id may.path
        (ap (option_map shape) may.is_there.there ∙ (λ i. Some ((may.same i).0, may.is_there.dir i)))
        (λ p other at h.
        let n = place_in p other h in
        let both_ways : (is_above p may.path || is_above may.path p) ≡ false =
        ap (λ b. b && (is_above p may.path || is_above may.path p)) (sym (ap (is_snapshottable state) n.2 ∙ listed_test state.snapshottable other at))
        ∙ none_so (λ place. is_snapshottable state place.1.id && (is_above place.0 may.path || is_above may.path place.0)) state.tree may.unnested (p, n.0) n.1 in
        (neither_first (is_above p may.path) _ both_ways, neither_second (is_above p may.path) _ both_ways))
        dirs)
        (differ-push (λ (x : InodeId). x.0) state.snapshottable id valid.snapshottable_once
        (λ x at. false_by _ (λ t. true_false (inode_test id x (ap (λ (y : InodeId). y.0) (sym (inode_so x id t)))) (none_so (same_inode id) state.snapshottable fresh x at))))
        (λ m at. in-left state.snapshottable (id ∷ []) m.directory (member_listed m at))

    pub follows-disallowed : (id : InodeId) → has_snapshots state id ≡ false → Follows state state.tree state.next_inode (filter (λ other. not (same_inode other id)) state.snapshottable)
    follows-disallowed id free = follows-dirs (filter (λ other. not (same_inode other id)) state.snapshottable)
        (dirs-fewer (shapes state.tree) state.snapshottable _ (λ x at. (filter_so (λ other. not (same_inode other id)) state.snapshottable x at).0) dirs)
        (differ-filter (λ (x : InodeId). x.0) (λ other. not (same_inode other id)) state.snapshottable valid.snapshottable_once)
        (λ m at. in-filter (λ other. not (same_inode other id)) state.snapshottable m.directory (member_listed m at) (ap not (none_so (λ member. same_inode member.directory id) state.members free m at)))

    -- ---- a subtree out

    left : (path q : Names) (s : Shape) → shapes (without state.tree path) q ≡ Some s → shapes state.tree q ≡ Some s
    left path q s h = by_under q path
        (λ rest e. absurd (none_some (sym (without_gone state.tree path rest) ∙ ap (shapes (without state.tree path)) (sym e) ∙ h)))
        (λ apart. sym (without_there state.tree path q apart) ∙ h)

    pub follows-removed : (path : Names) → MayGo state path → Follows state (removed state path).tree state.next_inode (removed state path).snapshottable
    follows-removed path may = record {
      sorted = sorted-removed state path valid.sorted;
      is_tree = subst (λ f. IsTree f state.next_inode) (sym alike) less;
      more = omega arith;
      new_or_old = λ q s h. inr (q, left path q s ((λ i. sym alike i q) ∙ h));
      dirs = subst (λ f. AreDirs f fewer) (sym alike) (dirs-stay (shapes state.tree) (shapes rest) state.next_inode less fewer
          (dirs-fewer (shapes state.tree) state.snapshottable fewer (λ id at. (filter_so (λ id. is_some (place_of rest id)) state.snapshottable id at).0) dirs) stays);
      once = differ-filter (λ (id : InodeId). id.0) (λ id. is_some (place_of rest id)) state.snapshottable valid.snapshottable_once;
      member_dirs = all_listed fewer (λ m at. in-filter (λ id. is_some (place_of rest id)) state.snapshottable m.directory (member_listed m at) (spared m at));
    }
      where
        rest : Tree B
        rest = without state.tree path

        fewer : List InodeId
        fewer = still_in (without state.tree path) state.snapshottable

        alike : shapes (removed state path).tree ≡ shapes (without state.tree path)
        alike = shapes-stamped (without state.tree path) (parent_of path) (state.tick + 1)

        less : IsTree (shapes (without state.tree path)) state.next_inode
        less = tree-without state.tree state.next_inode path is may.below_root

        -- a directory that stays, stays where it was
        stays : (p : Names) (id : InodeId) → In (still_in (without state.tree path) state.snapshottable) id → shapes state.tree p ≡ Some (id.0, true) → shapes (without state.tree path) p ≡ Some (id.0, true)
        stays p id at h = by_found (place_of (without state.tree path) id) refl (filter_so (λ id. is_some (place_of (without state.tree path) id)) state.snapshottable id at).1
          where
            by_found : (o : Option (Names × Node B)) → place_of (without state.tree path) id ≡ o → is_some o ≡ true → shapes (without state.tree path) p ≡ Some (id.0, true)
            by_found None e t = absurd (true_false t refl)
            by_found (Some place) e t =
                let w = place_so (without state.tree path) id place e in
                let there : shapes (without state.tree path) place.0 ≡ Some (shape place.1) = ap (option_map shape) (found_place (without state.tree path) (sorted-without state.tree path valid.sorted) place w.0) in
                let was : shapes state.tree place.0 ≡ Some (shape place.1) = left path place.0 (shape place.1) there in
                let same : place.0 ≡ p = is.once place.0 p (shape place.1) (id.0, true) was h w.1 in
                ap (shapes (without state.tree path)) (sym same) ∙ there ∙ sym was ∙ ap (shapes state.tree) same ∙ h

        -- a directory with a snapshot doesn't go
        spared : (m : Member B) → In state.members m → is_some (place_of (without state.tree path) m.directory) ≡ true
        spared m at =
            let d = dirs.there m.directory (member_listed m at) in
            let n = place_in d.0 m.directory d.1 in
            let outside : is_under path (d.0, n.0) ≡ false =
            ap (λ b. b && is_under path (d.0, n.0)) (sym (any_from (λ member. same_inode member.directory n.0.id) state.members m at (inode_test m.directory n.0.id (λ i. (sym n.2 i).0))))
            ∙ none_so (λ place. has_snapshots state place.1.id && is_under path place) state.tree may.free (d.0, n.0) n.1 in
            let there : shapes (without state.tree path) d.0 ≡ Some (m.directory.0, true) = without_there state.tree path d.0 (λ rest e. true_false (under_test d.0 path rest e) outside) ∙ d.1 in
            let k = shape_some (node_at (without state.tree path) d.0) (m.directory.0, true) there in
            by_found (place_of (without state.tree path) m.directory) refl (d.0, k.0) (in-tree (without state.tree path) d.0 k.0 k.1) (ap (λ (s : Shape). s.0) k.2)
          where
            by_found : (o : Option (Names × Node B)) → place_of (without state.tree path) m.directory ≡ o → (e : Names × Node B) → In (without state.tree path) e → e.1.id.0 ≡ m.directory.0 → is_some o ≡ true
            by_found None none e ine same = absurd (no_place (without state.tree path) m.directory none e ine same)
            by_found (Some place) some e ine same = refl

    -- ---- a subtree at a new path

    module _ (old new : Names) (may : MayMoveIn state old new) where
      alike : shapes (renamed state (old, new)).tree ≡ shapes (moved state.tree old new)
      alike = shapes-stamped (stamped (moved state.tree old new) (parent_of old) (state.tick + 1)) (parent_of new) (state.tick + 1) ∙ shapes-stamped (moved state.tree old new) (parent_of old) (state.tick + 1)

      is_moved : IsTree (shapes (moved state.tree old new)) state.next_inode
      is_moved = tree-moved_to state.tree state.next_inode old new valid.sorted is may.moves

      abbrev to : Names → Names
      to = moved_path old new

      none_below : (rest : Names) (s : Shape) → shapes state.tree (new ++ rest) ≡ Some s → ⊥
      none_below rest s h = let t = there_above (shapes state.tree) state.next_inode is new rest s h in none_some (sym (ap (option_map shape) may.moves.free) ∙ t.1)

      module _ (p q : Names) (a b : InodeId) (ina : In state.snapshottable a) (inb : In state.snapshottable b) (fp : shapes state.tree p ≡ Some (a.0, true)) (fq : shapes state.tree q ≡ Some (b.0, true)) where
        not_below : (name : List ℕ) (rest : Names) → q ≡ p ++ name ∷ rest → ⊥
        not_below name rest e = true_false (above_test p q name rest e) (dirs.apart p q a b ina inb fp fq)

        nests : (s : Names) (name : List ℕ) (rest : Names) → q ≡ old ++ s → new ≡ p ++ name ∷ rest → ⊥
        nests s name rest qe ne =
            let m = place_in p a fp in
            let n = place_in q b fq in
            let held : holds_snapshottable state old ≡ true = any_from (λ place. is_snapshottable state place.1.id && is_under old place) state.tree (q, n.0) n.1 (both (ap (is_snapshottable state) n.2 ∙ listed_test state.snapshottable b inb) (under_test q old s qe)) in
            let inside : is_in_snapshottable state new ≡ true = any_from (λ place. is_snapshottable state place.1.id && is_above place.0 new) state.tree (p, m.0) m.1 (both (ap (is_snapshottable state) m.2 ∙ listed_test state.snapshottable a ina) (above_test p new name rest ne)) in
            true_false (both held inside) may.unnested

        parted_at : (name : List ℕ) (rest : Names) → to q ≡ to p ++ name ∷ rest → ⊥
        parted_at name rest e = by_under p old
            (λ r pe. by_under q old
            (λ s qe. not_below name rest (qe ∙ ap (λ x. old ++ x) (append_cancel_left new s (r ++ name ∷ rest) (sym (moved_under old new s) ∙ ap to (sym qe) ∙ e ∙ ap (λ x. x ++ name ∷ rest) (ap to pe ∙ moved_under old new r) ∙ append_assoc new r (name ∷ rest))) ∙ sym (append_assoc old r (name ∷ rest)) ∙ ap (λ x. x ++ name ∷ rest) (sym pe)))
            (λ qo. none_below (r ++ name ∷ rest) (b.0, true) (ap (shapes state.tree) (sym (append_assoc new r (name ∷ rest)) ∙ ap (λ x. x ++ name ∷ rest) (sym (moved_under old new r) ∙ ap to (sym pe)) ∙ sym e ∙ moved_other old new q qo) ∙ fq)))
            (λ po. by_under q old
            (λ s qe. fork new p s (name ∷ rest) (sym (moved_under old new s) ∙ ap to (sym qe) ∙ e ∙ ap (λ x. x ++ name ∷ rest) (moved_other old new p po))
            (λ t d. none_below t (a.0, true) (ap (shapes state.tree) (sym d) ∙ fp))
            (λ x t d. nests s x t qe d))
            (λ qo. not_below name rest (sym (moved_other old new q qo) ∙ e ∙ ap (λ x. x ++ name ∷ rest) (moved_other old new p po))))

      parted : (p q : Names) (a b : InodeId) → In state.snapshottable a → In state.snapshottable b → shapes state.tree p ≡ Some (a.0, true) → shapes state.tree q ≡ Some (b.0, true) → is_above (to p) (to q) ≡ false
      parted p q a b ina inb fp fq = false_by _ (λ t. let w = above_so (to p) (to q) t in parted_at p q a b ina inb fp fq w.0 w.1 w.2)

      pub follows-renamed : Follows state (renamed state (old, new)).tree state.next_inode state.snapshottable
      follows-renamed = record {
        sorted = sorted-renamed state (old, new);
        is_tree = subst (λ f. IsTree f state.next_inode) (sym alike) is_moved;
        more = omega arith;
        new_or_old = λ q s h. let w = moved_from state.tree state.next_inode old new valid.sorted is may.moves q s ((λ i. sym alike i q) ∙ h) in inr (w.0, w.1);
        dirs = subst (λ f. AreDirs f state.snapshottable) (sym alike) (dirs-moved (shapes state.tree) (shapes (moved state.tree old new)) state.next_inode is_moved state.snapshottable dirs (moved_path old new)
            (λ p id at h. moved_onto state.tree state.next_inode old new valid.sorted is may.moves p (id.0, true) h) parted);
        once = valid.snapshottable_once;
        member_dirs = valid.member_dirs;
      }
