-- A directory that no entry touches keeps its tree.
use Rattle.std.proofs.Common.{◌≡◌, ℕ, ◌+◌, true, false, cond, ◌==◌, Some, Ok, Err, List, [], ◌∷◌, ◌++◌, refl, ap, sym, ◌∙◌, append-nil, append_assoc, arith}
use Rattle.std.specs.Prelude.{◌≢◌}
use Rattle.std.specs.List.{list_any}
use Rattle.std.specs.FinMap.Entries.{same_entries}
use Rattle.hs_types.specs.Names.{Names}
use Rattle.hs_types.specs.declared.ids.InodeId.{InodeId}
use Rattle.hs_types.specs.declared.ids.SnapId.{SnapId}
use Rattle.hs_types.specs.declared.call.Call.{Call}
use Rattle.hs_types.specs.declared.call.Call.TheVariants as calls
use Rattle.hs_types.specs.declared.journal.Entry.{Entry}
use Rattle.hs_plain.specs.declared.state.Node.{Node}
use Rattle.hs_plain.specs.declared.state.Member.{Member}
use Rattle.hs_plain.specs.declared.state.State.{State}
use Rattle.hs_plain.specs.Asked.{Asked}
use Rattle.hs_plain.specs.Files.{plain_files}
use Rattle.hs_plain.specs.Tree.{path_cmp, node_at, parent_of, walk, place_of, subtree}
use Rattle.hs_plain.specs.State.{new_dir, is_snapshottable, member_with}
use Rattle.hs_plain.specs.Modifying.{live_path, mkdir_at, create_at, append_at, delete_at, rename_at, set_mode_at}
use Rattle.hs_plain.specs.Snapshotting.{allow_at, disallow_at, snap_at, snap_del_at, snap_ren_at}
use Rattle.hs_plain.specs.Reading.{snapshottable_at, copied_tree, tree_below, lines_between}
use Rattle.hs_plain.specs.Report.{report}
use Rattle.hs_plain.specs.Change.{stamped, without, moved, new_file, with_node, made_dir, made_file, refilled, appended, removed, renamed, with_mode, allowed, disallowed, snapped, unsnapped, resnapped, if_asked, change, changed_if, takes_effect, after, ticked}
use Rattle.hs_plain.specs.Span.{Span, paths_in, is_near, touches, Stays}
use Rattle.hs_plain.specs.Premises.{now}
use Rattle.hs_plain.specs.Valid.{IsValid}
use Rattle.hs_plain.specs.inside.Places.{IsOutside}
use Rattle.hs_plain.proofs.ValidTrees.{paths_total, paths_exact, holds_so}
use Rattle.hs_plain.proofs.ValidShapes.{Shape, by_last, parent_of-last}
use Rattle.hs_plain.proofs.ValidLists.{neither_first}
use Rattle.hs_plain.proofs.ValidMembers.{inode_so, inode_test}
use Rattle.hs_plain.proofs.ValidNodes.{shape, shapes, shape_some}
use Rattle.hs_plain.proofs.ValidDirs.{fork}
use Rattle.hs_plain.proofs.ValidFollows.{live_tree}
use Rattle.hs_plain.proofs.ValidCalls.{free_below}
use Rattle.hs_plain.proofs.ValidAsked.{MayMove, rename_allowed, same_ok, ok_then}
use Rattle.hs_plain.proofs.ValidChanges.{put_there, without-elsewhere}
use Rattle.hs_plain.proofs.ValidSubtrees.{node_at-subtree, sorted-subtree}
use Rattle.hs_plain.proofs.Trees.{moved-elsewhere, stamped-elsewhere, moded-elsewhere}
use Rattle.hs_plain.proofs.ReportEnds.{copied-with}
use Rattle.plan_laws.proofs.Places.{place_of-here}
use Rattle.plan_laws.proofs.Roots.{IsRootAt}
use Rattle.plan_laws.proofs.Near.{IsApart, live-is, near-apart}
use Rattle.plan_laws.proofs.Apart.{CallApart, far-apart}
use Rattle.plan_laws.proofs.Steps.{tree-of}
use Rattle.sync_laws.specs.Lasting.{state_at, IsWithin, front_of, IsUntouched, IsSameBelow}
use Rattle.sync_laws.proofs.Spans.{throughout}
use Rattle.sync_laws.proofs.Snapshots.{valid-at, snapshots-last}
use Rattle.sync_laws.proofs.RootPaths.{LeadsTo, root-so}
use Rattle.sync_laws.proofs.RootsStay.{Keeps, root-keeps}

-- ---- paths apart from a root

apart-below : (path root q : Names) → IsApart path root → IsOutside path (root ++ q)
apart-below path root q apart rest e = fork path root rest q (sym e) apart.not_above (λ name more d. apart.not_below (name ∷ more) d)

apart-other : (path root q : Names) → IsApart path root → root ++ q ≢ path
apart-other path root q apart e = apart-below path root q apart [] (e ∙ sym (append-nil path))

-- the directory above such a path isn't below the root either
apart-parent : (path root q : Names) → IsApart path root → root ++ q ≢ parent_of path
apart-parent path root q = by_last (λ p. IsApart p root → root ++ q ≢ parent_of p) path
    (λ apart e. apart.not_above root refl)
    (λ above name apart e. apart.not_below (q ++ name ∷ []) (ap (λ (p : Names). p ++ name ∷ []) (sym (e ∙ parent_of-last above name)) ∙ append_assoc root q (name ∷ [])))

-- ---- one call

module _ (state : State (List ℕ)) (valid : IsValid state) (root : Names) where
  -- below the root a state has what this one has
  abbrev IsSame : State (List ℕ) → Names → Type 0
  IsSame next q = node_at next.tree (root ++ q) ≡ node_at state.tree (root ++ q)

  same-if : {X : Type 0} (act : X → State (List ℕ)) (asked : Asked X) (q : Names) → ((x : X) → asked ≡ Ok x → IsSame (act x) q) → IsSame (if_asked act state asked) q
  same-if act (Ok x) q all = all x refl
  same-if act (Err why) q all = refl

  abbrev later : ℕ
  later = state.tick + 1

  same-node : (path q : Names) (node : Node (List ℕ)) → IsApart path root → IsSame (with_node state path node) q
  same-node path q node apart =
      put_there path node (stamped state.tree (parent_of path) later) (root ++ q) (apart-other path root q apart)
      ∙ stamped-elsewhere state.tree (parent_of path) later (root ++ q) (apart-parent path root q apart)

  same-removed : (path q : Names) → IsApart path root → IsSame (removed state path) q
  same-removed path q apart =
      stamped-elsewhere (without state.tree path) (parent_of path) later (root ++ q) (apart-parent path root q apart)
      ∙ without-elsewhere state.tree path (root ++ q) (apart-below path root q apart)

  same-renamed : (old new q : Names) → MayMove state.tree old new → IsApart old root → IsApart new root → IsSame (renamed state (old, new)) q
  same-renamed old new q may apart_old apart_new =
      stamped-elsewhere (stamped (moved state.tree old new) (parent_of old) later) (parent_of new) later (root ++ q) (apart-parent new root q apart_new)
      ∙ stamped-elsewhere (moved state.tree old new) (parent_of old) later (root ++ q) (apart-parent old root q apart_old)
      ∙ moved-elsewhere state.tree old new valid.sorted (free_below state.tree state.next_inode new (live_tree state valid) may.free) (root ++ q) (apart-below new root q apart_new)
      ∙ without-elsewhere state.tree old (root ++ q) (apart-below old root q apart_old)

  same-allowed : (other : InodeId) (q : Names) → IsSame (allowed state other) q
  same-allowed other q = elim (is_snapshottable state other) as (λ b. IsSame (cond {A = State (List ℕ)} b state (record state { snapshottable = state.snapshottable ++ other ∷ [] })) q) [ true ↦ refl | false ↦ refl ]

  module _ (id : InodeId) (text : List ℕ) (leads : live_path text ≡ Ok root) where
    far-mode : (other : List ℕ) → is_near text other ≡ false → (path : Names) → set_mode_at state other ≡ Ok path → IsApart path root
    far-mode other far path h =
        let a = ok_then (live_path other) _ path h in
        let b = ok_then (walk state.tree a.0) _ path a.2 in
        near-apart text other root path (live-is text root leads) far (a.1 ∙ ap (λ x. Ok x) (same_ok b.2))

    call-same : (call : Call) → CallApart state root id call → list_any (is_near text) (paths_in call) ≡ false → (q : Names) → IsSame (change plain_files state call) q
    call-same (calls.Mkdir path) apart far q = same-if (made_dir state) (mkdir_at state path) q (λ p h. same-node p q (new_dir state.next_inode later) (apart p h))
    call-same (calls.Create path over) apart far q = same-if (made_file plain_files state) (create_at state path over) q (λ p h. same-node p q (new_file plain_files state.next_inode later) (apart p h))
    call-same (calls.Append path bytes) apart far q = same-if (appended plain_files state bytes) (append_at state path) q (λ at h.
        put_there at.0 (refilled at.1 (at.2 ++ bytes) later) state.tree (root ++ q) (apart-other at.0 root q (apart at h)))
    call-same (calls.Delete path recursive) apart far q = same-if (removed state) (delete_at state path recursive) q (λ p h. same-removed p q (apart p h))
    call-same (calls.Rename old new) apart far q = same-if (renamed state) (rename_at state old new) q (λ p h. same-renamed p.0 p.1 q (rename_allowed state old new p h).moves (apart p h).0 (apart p h).1)
    call-same (calls.SetMode path mode) apart far q = same-if (with_mode state mode) (set_mode_at state path) q (λ p h.
        moded-elsewhere state.tree p mode later (root ++ q) (apart-other p root q (far-mode path (neither_first (is_near text path) false far) p h)))
    call-same (calls.Allow path) apart far q = same-if (allowed state) (allow_at state path) q (λ other _. same-allowed other q)
    call-same (calls.Disallow path) apart far q = same-if (disallowed state) (disallow_at state path) q (λ _ _. refl)
    call-same (calls.Snap path name) apart far q = same-if (snapped state name) (snap_at state path name) q (λ _ _. refl)
    call-same (calls.SnapDel path name) apart far q = same-if (unsnapped state) (snap_del_at state path name) q (λ _ _. refl)
    call-same (calls.SnapRen path old new) apart far q = same-if (resnapped state new) (snap_ren_at state path old new) q (λ _ _. refl)
    call-same (calls.Read path offset len) apart far q = refl
    call-same (calls.ReadNext cursor len) apart far q = refl
    call-same (calls.Stat path) apart far q = refl
    call-same (calls.List path size) apart far q = refl
    call-same (calls.ListNext cursor size) apart far q = refl
    call-same (calls.Snaps path) apart far q = refl
    call-same calls.Dirs apart far q = refl
    call-same (calls.Report path from to size) apart far q = refl
    call-same (calls.ReportNext cursor size) apart far q = refl

    pub entry-same : IsRootAt state root id → (entry : Entry) → touches text entry ≡ false → (q : Names) → IsSame (after plain_files state entry) q
    entry-same at entry far q =
        let n : (n : Node (List ℕ)) × (node_at state.tree root ≡ Some n) × (shape n ≡ (id.0, true)) = shape_some (node_at state.tree root) (id.0, true) at.0 in
        let apart : CallApart state root id entry.call = far-apart state (tree-of state valid) root id text (live-is text root leads) n.0 n.1 (ap (λ (s : Shape). s.0) n.2) entry.call far in
        elim (takes_effect entry) as (λ b. IsSame (ticked (changed_if b plain_files state entry.call)) q) [ true ↦ call-same entry.call apart far q | false ↦ refl ]

-- ---- a span

-- the directory that is there with its id
node-there : (state : State (List ℕ)) (root : Names) (dir : InodeId) → IsRootAt state root dir → (n : Node (List ℕ)) × (node_at state.tree root ≡ Some n) × (n.id ≡ dir)
node-there state root dir at =
    let n : (n : Node (List ℕ)) × (node_at state.tree root ≡ Some n) × (shape n ≡ (dir.0, true)) = shape_some (node_at state.tree root) (dir.0, true) at.0 in
    (n.0, n.1, inode_so n.0.id dir (inode_test n.0.id dir (ap (λ (s : Shape). s.0) n.2)))

same-subtrees : (a b : State (List ℕ)) → IsValid a → IsValid b → (root : Names) → ((q : Names) → node_at a.tree (root ++ q) ≡ node_at b.tree (root ++ q)) → subtree a.tree root ≡ subtree b.tree root
same-subtrees a b a_valid b_valid root same =
    same_entries path_cmp paths_total paths_exact (subtree a.tree root) (subtree b.tree root) (holds_so (sorted-subtree a.tree root a_valid.sorted)) (holds_so (sorted-subtree b.tree root b_valid.sorted))
    (λ q. node_at-subtree a.tree root q ∙ same q ∙ sym (node_at-subtree b.tree root q))

-- the root with its snapshot, and with the tree that it had
abbrev Stands : State (List ℕ) → Names → InodeId → SnapId → Member (List ℕ) → State (List ℕ) → Type 0
Stands low root dir snapshot member state = Keeps root dir snapshot member state × ((q : Names) → node_at state.tree (root ++ q) ≡ node_at low.tree (root ++ q))

module _ (journal : List Entry) (span : Span) (index : ℕ) (text : List ℕ) (dir : InodeId) (snapshot : SnapId) (member : Member (List ℕ)) (within : IsWithin span index) (stays : Stays journal span snapshot) (untouched : IsUntouched journal (front_of span index) text)
    (has : member_with (state_at journal span.low).members snapshot ≡ Ok member) (own : member.directory ≡ dir) (leads : snapshottable_at (state_at journal span.low) text ≡ Ok dir) where
  abbrev low : State (List ℕ)
  low = state_at journal span.low

  abbrev high : State (List ℕ)
  high = state_at journal index

  root : LeadsTo low text dir
  root = root-so low (valid-at journal span.low) text dir leads

  -- the snapshot stays up to the index
  stays-before : Stays journal (front_of span index) snapshot
  stays-before i entry there = stays i entry (record { from = there.from; below = omega (arith, there.below, within.up_to); there = there.there })

  stands : (path : Names) → IsRootAt low path dir → live_path text ≡ Ok path → Stands low path dir snapshot member high
  stands path at is = throughout (Stands low path dir snapshot member) journal (front_of span index)
      (λ i entry there so. (
        root-keeps journal (front_of span index) path dir snapshot member stays-before own i entry there so.0,
        λ q. entry-same (state_at journal i) (valid-at journal i) path dir text is so.0.0 entry (untouched i entry there) q ∙ so.1 q,
      ))
      ((at, has), λ q. refl)
      index (record { from = within.from; up_to = omega arith })

  pub trees-stay : (path : Names) → live_path text ≡ Ok path → IsSameBelow low high path dir
  trees-stay path is =
      let one : root.path ≡ path = same_ok (sym root.leads ∙ is) in
      let at : IsRootAt low path dir = (ap (shapes low.tree) (sym one) ∙ root.at.0, root.at.1) in
      let so : Stands low path dir snapshot member high = stands path at is in
      let n : (n : Node (List ℕ)) × (node_at low.tree path ≡ Some n) × (n.id ≡ dir) = node-there low path dir at in
      record {
        node = n.0;
        was = n.1;
        is = ap (node_at high.tree) (sym (append-nil path)) ∙ so.1 [] ∙ ap (node_at low.tree) (append-nil path) ∙ n.1;
        same_dir = n.2;
        same = same-subtrees high low (valid-at journal index) (valid-at journal span.low) path so.1;
      }

  -- the live tree below a directory is that at its path
  live-tree : (state : State (List ℕ)) → IsValid state → (path : Names) (node : Node (List ℕ)) → node_at state.tree path ≡ Some node → node.id ≡ dir → tree_below state.tree (place_of state.tree dir) ≡ subtree state.tree path
  live-tree state valid path node there same = ap (tree_below state.tree) (place_of-here state.tree (tree-of state valid) path node dir there (ap (λ (id : InodeId). id.0) (sym same)))

  pub reports-stay : lines_between high dir snapshot now ≡ lines_between low dir snapshot now
  reports-stay =
      let kept : IsSameBelow low high root.path dir = trees-stay root.path root.leads in
      let below : tree_below high.tree (place_of high.tree dir) ≡ tree_below low.tree (place_of low.tree dir) =
      live-tree high (valid-at journal index) root.path kept.node kept.is kept.same_dir ∙ kept.same ∙ sym (live-tree low (valid-at journal span.low) root.path kept.node kept.was kept.same_dir) in
      let copied : copied_tree high.members snapshot ≡ copied_tree low.members snapshot =
      copied-with high.members snapshot member (snapshots-last journal span index snapshot member within stays has) ∙ sym (copied-with low.members snapshot member has) in
      λ i. report (cond (snapshot.0 == 0) (below i) (copied i)) (below i)
