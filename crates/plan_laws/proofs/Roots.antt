-- A snapshottable directory: below it nothing is snapshottable, and it stays through calls elsewhere.
use Rattle.std.proofs.Common.{◌≡◌, ◌+◌, Bool, true, false, cond, Some, Ok, is_some, [], ◌∷◌, ◌++◌, length, drop, refl, ap, sym, ◌∙◌, append-nil, append_assoc}
use Rattle.std.specs.Prelude.{◌≢◌, not, ◌&&◌}
use Rattle.std.specs.List.{list_any}
use Rattle.std.specs.Option.{option_map}
use Rattle.hs_types.specs.Names.{Names}
use Rattle.hs_types.specs.declared.ids.InodeId.{InodeId}
use Rattle.hs_types.specs.declared.call.Call.{Call}
use Rattle.hs_types.specs.declared.call.Call.TheVariants as calls
use Rattle.hs_types.specs.declared.journal.Entry.{Entry}
use Rattle.hs_plain.specs.declared.state.Node.{Node}
use Rattle.hs_plain.specs.declared.state.Member.{Member}
use Rattle.hs_plain.specs.declared.state.State.{State}
use Rattle.hs_plain.specs.Files.{Files}
use Rattle.hs_plain.specs.Tree.{node_at, parent_of, is_under, same_inode, place_of}
use Rattle.hs_plain.specs.State.{new_dir, is_snapshottable, has_snapshots}
use Rattle.hs_plain.specs.Valid.{IsValid}
use Rattle.hs_plain.specs.inside.Places.{IsOutside}
use Rattle.hs_plain.specs.Modifying.{mkdir_at, create_at, append_at, delete_at, rename_at, set_mode_at}
use Rattle.hs_plain.specs.Snapshotting.{allow_at, disallow_at, snap_at, snap_del_at, snap_ren_at}
use Rattle.hs_plain.specs.Change.{stamped, without, moved, new_file, with_node, with_file, made_dir, made_file, appended, removed, renamed, with_mode, allowed, disallowed, snapped, unsnapped, resnapped, change, changed_if, takes_effect, after, ticked}
use Rattle.hs_plain.proofs.ValidTrees.{first, second, if_asked-keeps}
use Rattle.hs_plain.proofs.ValidShapes.{Shape, true_false, under_so}
use Rattle.hs_plain.proofs.ValidLists.{In, false_by, none_from, any_so, all_so, in-filter, in-left}
use Rattle.hs_plain.proofs.ValidMembers.{inode_so}
use Rattle.hs_plain.proofs.ValidNodes.{shape, shapes, shape_some}
use Rattle.hs_plain.proofs.ValidHeld.{in-tree, found_place}
use Rattle.hs_plain.proofs.ValidDirs.{above_test, listed_so, AreDirs}
use Rattle.hs_plain.proofs.ValidFollows.{live_tree, live_dirs}
use Rattle.hs_plain.proofs.ValidChanges.{shapes-stamped, shapes-moded, put_there, without_there}
use Rattle.hs_plain.proofs.ValidCalls.{free_below}
use Rattle.hs_plain.proofs.ValidAsked.{MayMove, rename_allowed}
use Rattle.hs_plain.proofs.Trees.{moved-elsewhere, no_place}
use Rattle.plan_laws.proofs.Paths.{by_one}
use Rattle.plan_laws.proofs.Bridge.{IsBare}

module _ {B : Type 0} where
  -- a directory with this id stands at a path, and is snapshottable
  abbrev pub IsRootAt : State B → Names → InodeId → Type 0
  IsRootAt state root id = (shapes state.tree root ≡ Some (id.0, true)) × In state.snapshottable id

  module _ (state : State B) (valid : IsValid state) (root : Names) (id : InodeId) (at : IsRootAt state root id) where
    -- ---- below it

    dirs : AreDirs (shapes state.tree) state.snapshottable
    dirs = live_dirs state valid

    none : (test : InodeId → Bool) → ((other : InodeId) → test other ≡ true → In state.snapshottable other) → (path : Names) → (path ≡ [] → ⊥) →
        list_any (λ place. test place.1.id && is_under (root ++ path) place) state.tree ≡ false
    none test so [] below = absurd (below refl)
    none test so (name ∷ path) below = none_from (λ place. test place.1.id && is_under (root ++ name ∷ path) place) state.tree (λ place there. false_by _ (λ h.
        let other : In state.snapshottable place.1.id = so place.1.id (first (test place.1.id) (is_under (root ++ name ∷ path) place) h) in
        let under : place.0 ≡ (root ++ name ∷ path) ++ drop (length (root ++ name ∷ path)) place.0 = under_so place.0 (root ++ name ∷ path) (second (test place.1.id) (is_under (root ++ name ∷ path) place) h) in
        let deeper : place.0 ≡ root ++ name ∷ (path ++ drop (length (root ++ name ∷ path)) place.0) = under ∙ append_assoc root (name ∷ path) (drop (length (root ++ name ∷ path)) place.0) in
        let d : (p : Names) × (shapes state.tree p ≡ Some (place.1.id.0, true)) = dirs.there place.1.id other in
        let here : shapes state.tree place.0 ≡ Some (shape place.1) = ap (option_map shape) (found_place state.tree valid.sorted place there) in
        let same : place.0 ≡ d.0 = (live_tree state valid).once place.0 d.0 (shape place.1) (place.1.id.0, true) here d.1 refl in
        true_false (above_test root place.0 name (path ++ drop (length (root ++ name ∷ path)) place.0) deeper)
        (dirs.apart root place.0 id place.1.id at.1 other at.0 (ap (shapes state.tree) same ∙ d.1))))

    has-held : (other : InodeId) → has_snapshots state other ≡ true → In state.snapshottable other
    has-held other h =
        let m : (m : Member B) × (In state.members m) × (same_inode m.directory other ≡ true) = any_so (λ (member : Member B). same_inode member.directory other) state.members h in
        listed_so state.snapshottable other (ap (is_snapshottable state) (sym (inode_so m.0.directory other m.2)) ∙ all_so (λ (member : Member B). is_snapshottable state member.directory) state.members valid.member_dirs m.0 m.1)

    pub bare : IsBare state root
    bare = record { no_snapshots = none (has_snapshots state) has-held; none_snapshottable = none (is_snapshottable state) (listed_so state.snapshottable) }

    -- ---- it stays

    not-it : (path : Names) → IsOutside path root → root ≢ path
    not-it path out e = out [] (e ∙ sym (append-nil path))

    kept-node : (path : Names) (node : Node B) → IsOutside path root → IsRootAt (with_node state path node) root id
    kept-node path node out =
        (ap (option_map shape) (put_there path node (stamped state.tree (parent_of path) (state.tick + 1)) root (not-it path out)) ∙ (λ i. shapes-stamped state.tree (parent_of path) (state.tick + 1) i root) ∙ at.0, at.1)

    kept-file : (path : Names) (node : Node B) (file : B) → IsOutside path root → IsRootAt (with_file state path node file) root id
    kept-file path node file out = (ap (option_map shape) (put_there path _ state.tree root (not-it path out)) ∙ at.0, at.1)

    left : (path : Names) → IsOutside path root → shapes (without state.tree path) root ≡ Some (id.0, true)
    left path out = without_there state.tree path root out ∙ at.0

    still : (path : Names) → IsOutside path root → is_some (place_of (without state.tree path) id) ≡ true
    still path out = by_one (place_of (without state.tree path) id)
        (λ place h. ap is_some h)
        (λ gone. let n : (n : Node B) × (node_at (without state.tree path) root ≡ Some n) × (shape n ≡ (id.0, true)) = shape_some (node_at (without state.tree path) root) (id.0, true) (left path out) in
        absurd {A = is_some (place_of (without state.tree path) id) ≡ true} (no_place (without state.tree path) id gone (root, n.0) (in-tree (without state.tree path) root n.0 n.1) (ap (λ (s : Shape). s.0) n.2)))

    kept-removed : (path : Names) → IsOutside path root → IsRootAt (removed state path) root id
    kept-removed path out = (
      (λ i. shapes-stamped (without state.tree path) (parent_of path) (state.tick + 1) i root) ∙ left path out,
      in-filter (λ other. is_some (place_of (without state.tree path) other)) state.snapshottable id at.1 (still path out),
    )

    kept-renamed : (old new : Names) → MayMove state.tree old new → IsOutside old root → IsOutside new root → IsRootAt (renamed state (old, new)) root id
    kept-renamed old new may out_old out_new = (
      (λ i. shapes-stamped (stamped (moved state.tree old new) (parent_of old) (state.tick + 1)) (parent_of new) (state.tick + 1) i root)
          ∙ (λ i. shapes-stamped (moved state.tree old new) (parent_of old) (state.tick + 1) i root)
          ∙ ap (option_map shape) (moved-elsewhere state.tree old new valid.sorted (free_below state.tree state.next_inode new (live_tree state valid) may.free) root out_new)
          ∙ left old out_old,
      at.1,
    )

    kept-allowed : (other : InodeId) → IsRootAt (allowed state other) root id
    kept-allowed other = elim (is_snapshottable state other) as (λ b. IsRootAt (cond {A = State B} b state (record state { snapshottable = state.snapshottable ++ other ∷ [] })) root id) [
      | true ↦ at
      | false ↦ (at.0, in-left state.snapshottable (other ∷ []) id at.1)
    ]

    kept-disallowed : (other : InodeId) → (other.0 ≡ id.0 → ⊥) → IsRootAt (disallowed state other) root id
    kept-disallowed other ne = (at.0, in-filter (λ one. not (same_inode one other)) state.snapshottable id at.1 (ap not (false_by (same_inode id other) (λ t. ne (ap (λ (i : InodeId). i.0) (sym (inode_so id other t)))))))

    -- what a call changes of the tree isn't the directory or above it, and it isn't made to be not snapshottable
    abbrev pub IsElsewhere : Call → Type 0
    IsElsewhere (calls.Mkdir text) = (path : Names) → mkdir_at state text ≡ Ok path → IsOutside path root
    IsElsewhere (calls.Create text over) = (path : Names) → create_at state text over ≡ Ok path → IsOutside path root
    IsElsewhere (calls.Append text bytes) = (file : Names × Node B × B) → append_at state text ≡ Ok file → IsOutside file.0 root
    IsElsewhere (calls.Delete text recursive) = (path : Names) → delete_at state text recursive ≡ Ok path → IsOutside path root
    IsElsewhere (calls.Rename old new) = (paths : Names × Names) → rename_at state old new ≡ Ok paths → IsOutside paths.0 root × IsOutside paths.1 root
    IsElsewhere (calls.Disallow text) = (other : InodeId) → disallow_at state text ≡ Ok other → other.0 ≡ id.0 → ⊥
    IsElsewhere call = Unit {0}

    abbrev Keeps : State B → Type 0
    Keeps next = IsRootAt next root id

    kept : (files : Files B) (call : Call) → IsElsewhere call → IsRootAt (change files state call) root id
    kept files (calls.Mkdir text) apart = if_asked-keeps Keeps (made_dir state) state (mkdir_at state text) at (λ path h. kept-node path (new_dir state.next_inode (state.tick + 1)) (apart path h))
    kept files (calls.Create text over) apart = if_asked-keeps Keeps (made_file files state) state (create_at state text over) at (λ path h. kept-node path (new_file files state.next_inode (state.tick + 1)) (apart path h))
    kept files (calls.Append text bytes) apart = if_asked-keeps Keeps (appended files state bytes) state (append_at state text) at (λ file h. kept-file file.0 file.1 (files.append file.2 bytes) (apart file h))
    kept files (calls.Delete text recursive) apart = if_asked-keeps Keeps (removed state) state (delete_at state text recursive) at (λ path h. kept-removed path (apart path h))
    kept files (calls.Rename old new) apart = if_asked-keeps Keeps (renamed state) state (rename_at state old new) at (λ paths h. kept-renamed paths.0 paths.1 (rename_allowed state old new paths h).moves (apart paths h).0 (apart paths h).1)
    kept files (calls.SetMode text mode) apart = if_asked-keeps Keeps (with_mode state mode) state (set_mode_at state text) at (λ path h. ((λ i. shapes-moded state.tree path mode (state.tick + 1) i root) ∙ at.0, at.1))
    kept files (calls.Allow text) apart = if_asked-keeps Keeps (allowed state) state (allow_at state text) at (λ other h. kept-allowed other)
    kept files (calls.Disallow text) apart = if_asked-keeps Keeps (disallowed state) state (disallow_at state text) at (λ other h. kept-disallowed other (apart other h))
    kept files (calls.Snap text name) apart = if_asked-keeps Keeps (snapped state name) state (snap_at state text name) at (λ _ _. at)
    kept files (calls.SnapDel text name) apart = if_asked-keeps Keeps (unsnapped state) state (snap_del_at state text name) at (λ _ _. at)
    kept files (calls.SnapRen text old new) apart = if_asked-keeps Keeps (resnapped state new) state (snap_ren_at state text old new) at (λ _ _. at)
    kept files (calls.Read text offset len) apart = at
    kept files (calls.ReadNext cursor len) apart = at
    kept files (calls.Stat text) apart = at
    kept files (calls.List text size) apart = at
    kept files (calls.ListNext cursor size) apart = at
    kept files (calls.Snaps text) apart = at
    kept files calls.Dirs apart = at
    kept files (calls.Report text from to size) apart = at
    kept files (calls.ReportNext cursor size) apart = at

    pub root-stays : (files : Files B) (entry : Entry) → IsElsewhere entry.call → IsRootAt (after files state entry) root id
    root-stays files entry apart = elim (takes_effect entry) as (λ b. IsRootAt (ticked (changed_if b files state entry.call)) root id) [ true ↦ kept files entry.call apart | false ↦ at ]
