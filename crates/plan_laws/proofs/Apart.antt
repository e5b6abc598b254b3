-- A call whose paths are neither the root nor above or below it changes nothing there.
use Rattle.std.proofs.Common.{◌≡◌, ℕ, ◌+◌, Bool, true, false, cond, is_some, Some, None, Ok, Err, List, [], ◌∷◌, ◌++◌, refl, ap, sym, ◌∙◌, append-nil}
use Rattle.std.specs.Prelude.{not, ◌≢◌}
use Rattle.std.specs.List.{list_any}
use Rattle.std.specs.Ordering.{eq_by_cmp}
use Rattle.hs_types.specs.Names.{Names}
use Rattle.hs_types.specs.Paths.{components}
use Rattle.hs_types.specs.declared.ids.InodeId.{InodeId}
use Rattle.hs_types.specs.declared.refusal.Refusal.{Refusal}
use Rattle.hs_types.specs.declared.refusal.Refusal.TheVariants.{NotDir, Exists, IsRoot, NotEmpty, HasSnapshots, NotSnapshottable}
use Rattle.hs_types.specs.declared.call.Call.{Call}
use Rattle.hs_types.specs.declared.call.Call.TheVariants as calls
use Rattle.hs_plain.specs.declared.state.Node.{Node}
use Rattle.hs_plain.specs.declared.state.State.{State}
use Rattle.hs_plain.specs.Asked.{Asked, both, refuse_if}
use Rattle.hs_plain.specs.Files.{plain_files}
use Rattle.hs_plain.specs.Tree.{Tree, path_cmp, node_at, parent_of, is_dir, is_root_path, same_path, walk, walks_above}
use Rattle.hs_plain.specs.State.{new_dir, is_snapshottable, has_snapshots, holds_snapshots}
use Rattle.hs_plain.specs.Span.{paths_in, is_near}
use Rattle.hs_plain.specs.Modifying.{live_path, mkdir_at, create_at, takes_place_of, append_at, file_in, delete_at, spares_children, rename_at, set_mode_at, may_move}
use Rattle.hs_plain.specs.Snapshotting.{directory_at, allow_at, disallow_at, snap_at, snap_del_at, snap_ren_at}
use Rattle.hs_plain.specs.Change.{stamped, without, moved, new_file, with_node, made_dir, made_file, refilled, appended, removed, renamed, with_mode, if_asked, change, moded, remode, allowed, disallowed, snapped, unsnapped, resnapped}
use Rattle.hs_plain.specs.Plan.{rest_below}
use Rattle.hs_plain.proofs.ValidShapes.{none_some, other-test}
use Rattle.hs_plain.proofs.ValidChanges.{apart_test, node_at-put, node_at-without}
use Rattle.hs_plain.proofs.ValidAsked.{MayMove, rename_allowed, same_ok, ok_then, dir_there}
use Rattle.hs_plain.proofs.ValidLists.{neither_first, neither_second}
use Rattle.hs_plain.proofs.ValidPlaces.{one_place}
use Rattle.hs_plain.proofs.ValidDirs.{fork}
use Rattle.plan_laws.specs.Sight.{inside_or}
use Rattle.plan_laws.specs.Pair.{IsTree}
use Rattle.plan_laws.specs.Copies.{content_of}
use Rattle.plan_laws.specs.Bridge.{held}
use Rattle.plan_laws.proofs.Paths.{by_one, rest-here, rest-so}
use Rattle.plan_laws.proofs.Bridge.{not-under, node_at-moved, content-stamped}
use Rattle.plan_laws.proofs.Near.{IsApart, near-apart}

apart-none : (path root q : Names) → IsApart path root → rest_below path (root ++ q) ≡ None
apart-none path root q apart = by_one (rest_below path (root ++ q))
    (λ r below. absurd (fork path root r q (sym (rest-so path (root ++ q) r below))
    (λ rest e. apart.not_above rest e)
    (λ name rest e. apart.not_below (name ∷ rest) e)))
    (λ none. none)

apart-other : (path root q : Names) → IsApart path root → root ++ q ≢ path
apart-other path root q apart e = none_some (sym (apart-none path root q apart) ∙ ap (rest_below path) (e ∙ sym (append-nil path)) ∙ rest-here path [])

-- the paths of an accepted call are apart from the root, and no call on snapshots makes it be not snapshottable; a mode is no content
abbrev pub CallApart : State (List ℕ) → Names → InodeId → Call → Type 0
CallApart state root id (calls.Mkdir text) = (path : Names) → mkdir_at state text ≡ Ok path → IsApart path root
CallApart state root id (calls.Create text over) = (path : Names) → create_at state text over ≡ Ok path → IsApart path root
CallApart state root id (calls.Append text bytes) = (at : Names × Node (List ℕ) × List ℕ) → append_at state text ≡ Ok at → IsApart at.0 root
CallApart state root id (calls.Delete text recursive) = (path : Names) → delete_at state text recursive ≡ Ok path → IsApart path root
CallApart state root id (calls.Rename old new) = (paths : Names × Names) → rename_at state old new ≡ Ok paths → IsApart paths.0 root × IsApart paths.1 root
CallApart state root id (calls.Disallow text) = (other : InodeId) → disallow_at state text ≡ Ok other → other.0 ≡ id.0 → ⊥
CallApart state root id call = Unit {0}

module _ (state : State (List ℕ)) (is : IsTree state.tree) (root : Names) (id : InodeId) where
  if-apart : {X : Type 0} (act : X → State (List ℕ)) (a : Asked X) (q : Names) → ((x : X) → a ≡ Ok x → held (act x) root q ≡ held state root q) → held (if_asked act state a) root q ≡ held state root q
  if-apart act (Ok x) q all = all x refl
  if-apart act (Err why) q all = refl

  node-apart : (path q : Names) (node : Node (List ℕ)) → IsApart path root → held (with_node state path node) root q ≡ held state root q
  node-apart path q node apart =
      ap content_of (node_at-put path node (stamped state.tree (parent_of path) (state.tick + 1)) (root ++ q)
      ∙ ap (λ b. cond b (Some node) (node_at (stamped state.tree (parent_of path) (state.tick + 1)) (root ++ q))) (other-test (root ++ q) path (apart-other path root q apart)))
      ∙ content-stamped state.tree (parent_of path) (state.tick + 1) (root ++ q)

  content-moded : (tree : Tree (List ℕ)) (path : Names) (mode tick : ℕ) (q : Names) → content_of (node_at (moded tree path mode tick) q) ≡ content_of (node_at tree q)
  content-moded [] path mode tick q = refl
  content-moded (e ∷ es) path mode tick q =
      ap (λ (p : Names). content_of (cond (eq_by_cmp path_cmp q p) (Some (remode path mode tick e).1) (node_at (moded es path mode tick) q))) kept
      ∙ elim (eq_by_cmp path_cmp q e.0) as (λ b. content_of (cond b (Some (remode path mode tick e).1) (node_at (moded es path mode tick) q)) ≡ content_of (cond b (Some e.1) (node_at es q))) [
        | true ↦ ap (λ x. Some x) alike
        | false ↦ content-moded es path mode tick q
      ]
    where
      kept : (remode path mode tick e).0 ≡ e.0
      kept = elim (same_path path e.0) as (λ b. (cond b (e.0, record e.1 { mode = mode; stamp = tick }) e).0 ≡ e.0) [ true ↦ refl | false ↦ refl ]

      alike : (remode path mode tick e).1.body ≡ e.1.body
      alike = elim (same_path path e.0) as (λ b. (cond b (e.0, record e.1 { mode = mode; stamp = tick }) e).1.body ≡ e.1.body) [ true ↦ refl | false ↦ refl ]

  pub untouched : (call : Call) → CallApart state root id call → (q : Names) → held (change plain_files state call) root q ≡ held state root q
  untouched (calls.Mkdir text) apart q = if-apart (made_dir state) (mkdir_at state text) q (λ p e. node-apart p q (new_dir state.next_inode (state.tick + 1)) (apart p e))
  untouched (calls.Create text over) apart q = if-apart (made_file plain_files state) (create_at state text over) q (λ p e. node-apart p q (new_file plain_files state.next_inode (state.tick + 1)) (apart p e))
  untouched (calls.Append text bytes) apart q = if-apart (appended plain_files state bytes) (append_at state text) q (λ at e.
      ap content_of (node_at-put at.0 (refilled at.1 (at.2 ++ bytes) (state.tick + 1)) state.tree (root ++ q)
      ∙ ap (λ b. cond b (Some (refilled at.1 (at.2 ++ bytes) (state.tick + 1))) (node_at state.tree (root ++ q))) (other-test (root ++ q) at.0 (apart-other at.0 root q (apart at e)))))
  untouched (calls.Delete text recursive) apart q = if-apart (removed state) (delete_at state text recursive) q (λ p e.
      content-stamped (without state.tree p) (parent_of p) (state.tick + 1) (root ++ q)
      ∙ ap content_of (node_at-without state.tree p (root ++ q)
      ∙ ap (λ b. cond (not b) (node_at state.tree (root ++ q)) None) (apart_test (root ++ q) p (not-under p (root ++ q) (apart-none p root q (apart p e))))))
  untouched (calls.Rename old new) apart q = if-apart (renamed state) (rename_at state old new) q (λ p e.
      let moves : MayMove state.tree p.0 p.1 = (rename_allowed state old new p e).moves in
      content-stamped (stamped (moved state.tree p.0 p.1) (parent_of p.0) (state.tick + 1)) (parent_of p.1) (state.tick + 1) (root ++ q)
      ∙ content-stamped (moved state.tree p.0 p.1) (parent_of p.0) (state.tick + 1) (root ++ q)
      ∙ ap content_of (node_at-moved state.tree is p.0 p.1 moves.free (root ++ q)
      ∙ ap (λ o. inside_or o (λ rest. node_at state.tree (p.0 ++ rest)) (inside_or (rest_below p.0 (root ++ q)) (λ rest. None) (node_at state.tree (root ++ q)))) (apart-none p.1 root q (apart p e).1)
      ∙ ap (λ o. inside_or o (λ rest. None) (node_at state.tree (root ++ q))) (apart-none p.0 root q (apart p e).0)))
  untouched (calls.SetMode text mode) apart q = if-apart (with_mode state mode) (set_mode_at state text) q (λ p e. content-moded state.tree p mode (state.tick + 1) (root ++ q))
  untouched (calls.Allow text) apart q = if-apart (allowed state) (allow_at state text) q (λ other _. allow-same other)
    where
      allow-same : (other : InodeId) → held (allowed state other) root q ≡ held state root q
      allow-same other = elim (is_snapshottable state other) as (λ b. held (cond {A = State (List ℕ)} b state (record state { snapshottable = state.snapshottable ++ other ∷ [] })) root q ≡ held state root q) [ true ↦ refl | false ↦ refl ]
  untouched (calls.Disallow text) apart q = if-apart (disallowed state) (disallow_at state text) q (λ _ _. refl)
  untouched (calls.Snap text name) apart q = if-apart (snapped state name) (snap_at state text name) q (λ _ _. refl)
  untouched (calls.SnapDel text name) apart q = if-apart (unsnapped state) (snap_del_at state text name) q (λ _ _. refl)
  untouched (calls.SnapRen text old new) apart q = if-apart (resnapped state new) (snap_ren_at state text old new) q (λ _ _. refl)
  untouched (calls.Read text offset len) apart q = refl
  untouched (calls.ReadNext cursor len) apart q = refl
  untouched (calls.Stat text) apart q = refl
  untouched (calls.List text size) apart q = refl
  untouched (calls.ListNext cursor size) apart q = refl
  untouched (calls.Snaps text) apart q = refl
  untouched calls.Dirs apart q = refl
  untouched (calls.Report text from to size) apart q = refl
  untouched (calls.ReportNext cursor size) apart q = refl

  -- ---- what the texts of a call tell

  module _ (root_text : List ℕ) (root_is : root ≡ components root_text) (node : Node (List ℕ)) (there : node_at state.tree root ≡ Some node) (same : node.id.0 ≡ id.0) where
    far : (text : List ℕ) (path : Names) → is_near root_text text ≡ false → live_path text ≡ Ok path → IsApart path root
    far text path = near-apart root_text text root path root_is

    far-mkdir : (text : List ℕ) → is_near root_text text ≡ false → (path : Names) → mkdir_at state text ≡ Ok path → IsApart path root
    far-mkdir text away path h =
        let a = ok_then (live_path text) _ path h in
        let b = ok_then (walks_above state.tree a.0) _ path a.2 in
        let c = ok_then (refuse_if (is_some (node_at state.tree a.0)) Exists) _ path b.2 in
        far text path away (a.1 ∙ ap (λ x. Ok x) (same_ok c.2))

    far-create : (text : List ℕ) (over : Bool) → is_near root_text text ≡ false → (path : Names) → create_at state text over ≡ Ok path → IsApart path root
    far-create text over away path h =
        let a = ok_then (live_path text) _ path h in
        let b = ok_then (walks_above state.tree a.0) _ path a.2 in
        let c = ok_then (takes_place_of over (node_at state.tree a.0)) _ path b.2 in
        far text path away (a.1 ∙ ap (λ x. Ok x) (same_ok c.2))

    far-append : (text : List ℕ) → is_near root_text text ≡ false → (at : Names × Node (List ℕ) × List ℕ) → append_at state text ≡ Ok at → IsApart at.0 root
    far-append text away at h =
        let a = ok_then (live_path text) _ at h in
        let b = ok_then (walk state.tree a.0) _ at a.2 in
        let c = ok_then (file_in b.0.body) _ at b.2 in
        far text at.0 away (a.1 ∙ ap (λ (x : Names × Node (List ℕ) × List ℕ). Ok x.0) (same_ok c.2))

    far-delete : (text : List ℕ) (recursive : Bool) → is_near root_text text ≡ false → (path : Names) → delete_at state text recursive ≡ Ok path → IsApart path root
    far-delete text recursive away path h =
        let a = ok_then (live_path text) _ path h in
        let b = ok_then (walk state.tree a.0) _ path a.2 in
        let c = ok_then (refuse_if (is_root_path a.0) IsRoot) _ path b.2 in
        let d = ok_then (refuse_if (spares_children state.tree a.0 recursive) NotEmpty) _ path c.2 in
        let e = ok_then (refuse_if (holds_snapshots state a.0) HasSnapshots) _ path d.2 in
        far text path away (a.1 ∙ ap (λ x. Ok x) (same_ok e.2))

    far-rename : (old new : List ℕ) → is_near root_text old ≡ false → is_near root_text new ≡ false → (paths : Names × Names) → rename_at state old new ≡ Ok paths → IsApart paths.0 root × IsApart paths.1 root
    far-rename old new away_old away_new paths h =
        let a = ok_then (both (live_path old) (live_path new)) _ paths h in
        let b = ok_then (may_move state a.0.0 a.0.1) _ paths a.2 in
        let two = both-ok (live_path old) (live_path new) a.0 a.1 in
        let is_paths : a.0 ≡ paths = same_ok b.2 in
        (far old paths.0 away_old (two.0 ∙ ap (λ (x : Names × Names). Ok x.0) is_paths), far new paths.1 away_new (two.1 ∙ ap (λ (x : Names × Names). Ok x.1) is_paths))
      where
        err_ok : {X : Type 0} {why : Refusal} {x : X} → Err why ≡ Ok x → ⊥
        err_ok h = cc

        both-ok : (a b : Asked Names) (z : Names × Names) → both a b ≡ Ok z → (a ≡ Ok z.0) × (b ≡ Ok z.1)
        both-ok (Ok x) (Ok y) z h = (ap (λ (p : Names × Names). Ok p.0) (same_ok h), ap (λ (p : Names × Names). Ok p.1) (same_ok h))
        both-ok (Ok x) (Err why) z h = absurd (err_ok h)
        both-ok (Err why) (Ok y) z h = absurd (err_ok h)
        both-ok (Err a) (Err b) z h = absurd (err_ok h)

    far-disallow : (text : List ℕ) → is_near root_text text ≡ false → (other : InodeId) → disallow_at state text ≡ Ok other → other.0 ≡ id.0 → ⊥
    far-disallow text away other h is_root =
        let a = ok_then (directory_at state text) _ other h in
        let b = ok_then (refuse_if (has_snapshots state a.0.1.id) HasSnapshots) _ other a.2 in
        let c = ok_then (refuse_if (not (is_snapshottable state a.0.1.id)) NotSnapshottable) _ other b.2 in
        let one : a.0.1.id ≡ other = same_ok c.2 in
        let d = ok_then (live_path text) _ a.0 a.1 in
        let e = ok_then (walk state.tree d.0) _ a.0 d.2 in
        let f = ok_then (refuse_if (not (is_dir e.0)) NotDir) _ a.0 e.2 in
        let at : (d.0, e.0) ≡ a.0 = same_ok f.2 in
        let place : root ≡ a.0.0 = one_place state.tree is.each_once root a.0.0 node a.0.1 there (dir_there state text a.0 a.1).there (same ∙ sym is_root ∙ ap (λ (x : InodeId). x.0) (sym one)) in
        (far text a.0.0 away (d.1 ∙ ap (λ (x : Names × Node (List ℕ)). Ok x.0) at)).not_above [] (place ∙ sym (append-nil a.0.0))

    -- a call none of whose paths is near the root is apart from it
    pub far-apart : (call : Call) → list_any (is_near root_text) (paths_in call) ≡ false → CallApart state root id call
    far-apart (calls.Mkdir text) h = far-mkdir text (neither_first _ _ h)
    far-apart (calls.Create text over) h = far-create text over (neither_first _ _ h)
    far-apart (calls.Append text bytes) h = far-append text (neither_first _ _ h)
    far-apart (calls.Delete text recursive) h = far-delete text recursive (neither_first _ _ h)
    far-apart (calls.Rename old new) h = far-rename old new (neither_first _ _ h) (neither_first _ _ (neither_second _ _ h))
    far-apart (calls.Disallow text) h = far-disallow text (neither_first _ _ h)
    far-apart (calls.SetMode text mode) h = tt
    far-apart (calls.Allow text) h = tt
    far-apart (calls.Snap text name) h = tt
    far-apart (calls.SnapDel text name) h = tt
    far-apart (calls.SnapRen text old new) h = tt
    far-apart (calls.Read text offset len) h = tt
    far-apart (calls.ReadNext cursor len) h = tt
    far-apart (calls.Stat text) h = tt
    far-apart (calls.List text size) h = tt
    far-apart (calls.ListNext cursor size) h = tt
    far-apart (calls.Snaps text) h = tt
    far-apart calls.Dirs h = tt
    far-apart (calls.Report text from to size) h = tt
    far-apart (calls.ReportNext cursor size) h = tt
