-- A directory's snapshots and its live subtree, in a valid state with steady stamps, are trees of one root.
use Rattle.std.proofs.Common.{◌≡◌, inl, inr, true, Option, Some, None, [], ◌∷◌, ◌++◌, refl, ap, sym, ◌∙◌, append-nil, append_assoc}
use Rattle.std.specs.List.{Contains}
use Rattle.std.specs.Option.{option_map}
use Rattle.std.specs.FinMap.Entries.{is_sorted}
use Rattle.std.proofs.lemmas.Bool.Decides.{Decides-eqb}
use Rattle.hs_types.specs.Names.{Names}
use Rattle.hs_types.specs.declared.ids.InodeId.{InodeId}
use Rattle.hs_plain.specs.declared.state.Node.{Node}
use Rattle.hs_plain.specs.declared.state.Member.{Member}
use Rattle.hs_plain.specs.declared.state.State.{State}
use Rattle.hs_plain.specs.Tree.{Tree, path_cmp, node_at, is_dir, same_inode, subtree}
use Rattle.hs_plain.specs.State.{is_snapshottable}
use Rattle.hs_plain.specs.Valid.{is_dir_with, has_parents, has_each_once, all_nodes, IsValid, HasSteadyStamps}
use Rattle.hs_plain.proofs.ValidTrees.{first, second}
use Rattle.hs_plain.proofs.ValidShapes.{Shape, is_dir_shape, same_some, true_false}
use Rattle.hs_plain.proofs.ValidLists.{In, in-contains, contains-in, all_so}
use Rattle.hs_plain.proofs.ValidMembers.{inode_so, inode_test}
use Rattle.hs_plain.proofs.ValidNodes.{shape, shapes, parents-from}
use Rattle.hs_plain.proofs.ValidHeld.{Held, in-held, kinds_so}
use Rattle.hs_plain.proofs.ValidDirs.{listed_so}
use Rattle.hs_plain.proofs.ValidFollows.{live_tree, live_dirs}
use Rattle.hs_plain.proofs.ValidSubtrees.{node_at-subtree, sorted-subtree}
use Rattle.hs_plain.proofs.SameTree.{once-subtree}
use Rattle.plan_laws.specs.Pair.{IsTree, IsPair, HasSameBytes}

module _ {B : Type 0} (state : State B) (valid : IsValid state) (steady : HasSteadyStamps state) where
  -- a tree of a directory, all of whose nodes the state has
  pub record IsOf (id : InodeId) (tree : Tree B) : Type 0 where
    pub whole : IsTree tree
    pub root : Node B
    pub at : node_at tree [] ≡ Some root
    pub same : root.id.0 ≡ id.0
    pub dir : is_dir root ≡ true
    pub nodes : (q : Names) (n : Node B) → node_at tree q ≡ Some n → Held state n

  root-of : (o : Option (Node B)) (id : InodeId) → is_dir_with id o ≡ true → (r : Node B) × (o ≡ Some r) × (r.id.0 ≡ id.0) × (is_dir r ≡ true)
  root-of None id h = absurd (true_false h refl)
  root-of (Some r) id h = (r, refl, (Decides-eqb r.id.0 id.0).0 (first (same_inode r.id id) (is_dir r) h), second (same_inode r.id id) (is_dir r) h)

  member-of : (m : Member B) → In state.members m → IsOf m.directory m.tree
  member-of m at =
      let r : (r : Node B) × (node_at m.tree [] ≡ Some r) × (r.id.0 ≡ m.directory.0) × (is_dir r ≡ true) = root-of (node_at m.tree []) m.directory (all_so (λ (member : Member B). is_dir_with member.directory (node_at member.tree [])) state.members valid.member_roots m at) in
      record {
        whole = record {
          sorted = all_so (λ (member : Member B). is_sorted path_cmp member.tree) state.members valid.copies_sorted m at;
          parents = all_so (λ (member : Member B). has_parents member.tree) state.members valid.copies_parents m at;
          each_once = all_so (λ (member : Member B). has_each_once member.tree) state.members valid.copies_each_once m at;
        };
        root = r.0;
        at = r.1;
        same = r.2;
        dir = r.3;
        nodes = λ q n here. inr (m, at, (q, here));
      }

  -- the live subtree of a snapshottable directory
  live-of : (path : Names) (node : Node B) → node_at state.tree path ≡ Some node → is_snapshottable state node.id ≡ true → IsOf node.id (subtree state.tree path)
  live-of path node there listed = record {
    whole = record {
      sorted = sorted;
      parents = parents-from (subtree state.tree path) sorted (λ q name s h.
          ap is_dir_shape (seen q)
          ∙ (live_tree state valid).above (path ++ q) name s (ap (shapes state.tree) (append_assoc path q (name ∷ [])) ∙ sym (seen (q ++ name ∷ [])) ∙ h));
      each_once = once-subtree state.tree path valid.sorted valid.each_once;
    };
    root = node;
    at = node_at-subtree state.tree path [] ∙ ap (node_at state.tree) (append-nil path) ∙ there;
    same = refl;
    dir = ap (λ (s : Shape). s.1) (same_some (sym (ap (option_map shape) there) ∙ here));
    nodes = λ q n at. inl (path ++ q, sym (node_at-subtree state.tree path q) ∙ at);
  }
    where
      sorted : is_sorted path_cmp (subtree state.tree path) ≡ true
      sorted = sorted-subtree state.tree path valid.sorted

      seen : (q : Names) → shapes (subtree state.tree path) q ≡ shapes state.tree (path ++ q)
      seen q = ap (option_map shape) (node_at-subtree state.tree path q)

      here : shapes state.tree path ≡ Some (node.id.0, true)
      here = let d : (p : Names) × (shapes state.tree p ≡ Some (node.id.0, true)) = (live_dirs state valid).there node.id (listed_so state.snapshottable node.id listed) in
          ap (shapes state.tree) ((live_tree state valid).once path d.0 (shape node) (node.id.0, true) (ap (option_map shape) there) d.1 refl) ∙ d.1

  pair-of : (id other : InodeId) (from to : Tree B) → IsOf id from → IsOf other to → id ≡ other → IsPair from to
  pair-of id other from to a b same = record {
    from_tree = a.whole;
    to_tree = b.whole;
    from_root = a.root;
    to_root = b.root;
    from_at = a.at;
    to_at = b.at;
    root_dir = a.dir;
    same_root = a.same ∙ ap (λ (i : InodeId). i.0) same ∙ sym b.same;
    one_kind = λ p q m n at bt ids. kinds_so state valid m n (a.nodes p m at) (b.nodes q n bt) ids;
  }

  bytes-of : (id other : InodeId) (from to : Tree B) → IsOf id from → IsOf other to → HasSameBytes from to
  bytes-of id other from to a b p q m n at bt ids stamps = ap (λ (x : Node B). x.body)
      (steady.same_node m n (contains-in (all_nodes state) m (in-held state m (a.nodes p m at))) (contains-in (all_nodes state) n (in-held state n (b.nodes q n bt))) (inode_so m.id n.id (inode_test m.id n.id ids)) stamps)

  -- two snapshots of one directory
  pub members-pair : (m n : Member B) → Contains state.members m → Contains state.members n → m.directory ≡ n.directory → IsPair m.tree n.tree × HasSameBytes m.tree n.tree
  members-pair m n m_in n_in same =
      let a : IsOf m.directory m.tree = member-of m (in-contains state.members m m_in) in
      let b : IsOf n.directory n.tree = member-of n (in-contains state.members n n_in) in
      (pair-of m.directory n.directory m.tree n.tree a b same, bytes-of m.directory n.directory m.tree n.tree a b)

  -- a snapshot and the current state of its directory
  pub live-pair : (m : Member B) → Contains state.members m → (path : Names) (node : Node B) → node_at state.tree path ≡ Some node → m.directory ≡ node.id → IsPair m.tree (subtree state.tree path) × HasSameBytes m.tree (subtree state.tree path)
  live-pair m m_in path node there same =
      let at : In state.members m = in-contains state.members m m_in in
      let a : IsOf m.directory m.tree = member-of m at in
      let b : IsOf node.id (subtree state.tree path) = live-of path node there (ap (is_snapshottable state) (sym same) ∙ all_so (λ (member : Member B). is_snapshottable state member.directory) state.members valid.member_dirs m at) in
      (pair-of m.directory node.id m.tree (subtree state.tree path) a b same, bytes-of m.directory node.id m.tree (subtree state.tree path) a b)
