-- The live tree's paths rise in each state that entries lead to.
use lib.Dec.{T}
use Rattle.std.proofs.Common.{◌≡◌, ℕ, ◌+◌, Bool, true, false, cond, List, [], ◌∷◌, ◌++◌, map, Ok, Err, refl, sym, ap, subst, ◌∙◌}
use Rattle.std.specs.Prelude.{not, ◌&&◌, bytes_eq}
use Rattle.std.specs.List.{starts_with}
use Rattle.std.specs.Ordering.{is_lt}
use Rattle.std.specs.Cmp.{IsTotalOrder}
use Rattle.std.specs.Cmp.Lexicographic.{nat_list_cmp_total}
use Rattle.std.proofs.lemmas.Cmp.{lists_total}
use Rattle.std.specs.FinMap.{IsAntisymmetric, nat_cmp-IsAntisymmetric, slice_cmp-IsAntisymmetric}
use Rattle.std.specs.FinMap.Entries.{put, is_sorted, below_all, is_sorted-put, is_sorted-where_key}
use Rattle.hs_types.specs.Names.{Names}
use Rattle.hs_types.specs.declared.ids.InodeId.{InodeId}
use Rattle.hs_types.specs.declared.call.Call.{Call}
use Rattle.hs_types.specs.declared.call.Call.TheVariants as calls
use Rattle.hs_types.specs.declared.journal.Entry.{Entry}
use Rattle.hs_plain.specs.declared.state.Node.{Node}
use Rattle.hs_plain.specs.declared.state.State.{State}
use Rattle.hs_plain.specs.Asked.{Asked}
use Rattle.hs_plain.specs.Files.{Files}
use Rattle.hs_plain.specs.Tree.{Tree, path_cmp, same_path, parent_of}
use Rattle.hs_plain.specs.State.{start, new_dir, is_snapshottable}
use Rattle.hs_plain.specs.Snapshotting.{allow_at, disallow_at, snap_at, snap_del_at, snap_ren_at}
use Rattle.hs_plain.specs.Modifying.{mkdir_at, create_at, delete_at, rename_at, set_mode_at, append_at}
use Rattle.hs_plain.specs.Change.{restamp, stamped, remode, moded, without, repath, put_all, moved, new_file, with_node, made_dir, made_file, removed, renamed, with_mode, with_file, refilled, appended, allowed, disallowed, snapped, unsnapped, resnapped, if_asked, change, takes_effect, changed_if, after}
use Rattle.hs_plain.specs.Replay.{replay_from, replay}

-- ---- the order of paths

pub paths_total : IsTotalOrder path_cmp
paths_total = lists_total nat_list_cmp_total

pub paths_exact : IsAntisymmetric path_cmp
paths_exact = slice_cmp-IsAntisymmetric (slice_cmp-IsAntisymmetric nat_cmp-IsAntisymmetric)

-- ---- tests

pub holds_so : {b : Bool} → b ≡ true → T b
holds_so h = subst T (sym h) tt

pub is_so : (b : Bool) → T b → b ≡ true
is_so true h = refl
is_so false h = absurd h

pub both : {a b : Bool} → a ≡ true → b ≡ true → (a && b) ≡ true
both {a} {b} p q = ap (λ x. x && b) p ∙ q

pub first : (a b : Bool) → (a && b) ≡ true → a ≡ true
first true b h = refl
first false b h = cc

pub second : (a b : Bool) → (a && b) ≡ true → b ≡ true
second true b h = h
second false b h = cc

-- ---- trees

-- nodes that change under their paths
module _ {B : Type 0} (g : Names × Node B → Names × Node B) (kept : (place : Names × Node B) → (g place).0 ≡ place.0) where
  below_all-map : (path : Names) (tree : Tree B) → below_all path_cmp path (map g tree) ≡ below_all path_cmp path tree
  below_all-map path [] = refl
  below_all-map path (place ∷ tree) = λ i. is_lt (path_cmp path (kept place i)) && below_all-map path tree i

  pub is_sorted-map : (tree : Tree B) → is_sorted path_cmp (map g tree) ≡ is_sorted path_cmp tree
  is_sorted-map [] = refl
  is_sorted-map (place ∷ tree) = ap (λ path. below_all path_cmp path (map g tree) && is_sorted path_cmp (map g tree)) (kept place) ∙ (λ i. below_all-map place.0 tree i && is_sorted-map tree i)

pub restamp-kept : {B : Type 0} (path : Names) (tick : ℕ) (place : Names × Node B) → (restamp path tick place).0 ≡ place.0
restamp-kept {B} path tick place = elim (same_path path place.0) as (λ b. (cond b (place.0, record place.1 { stamp = tick }) place).0 ≡ place.0) [ true ↦ refl | false ↦ refl ]

pub remode-kept : {B : Type 0} (path : Names) (mode tick : ℕ) (place : Names × Node B) → (remode path mode tick place).0 ≡ place.0
remode-kept {B} path mode tick place = elim (same_path path place.0) as (λ b. (cond b (place.0, record place.1 { mode = mode; stamp = tick }) place).0 ≡ place.0) [ true ↦ refl | false ↦ refl ]

module _ {B : Type 0} where
  pub sorted-stamped : (tree : Tree B) (path : Names) (tick : ℕ) → is_sorted path_cmp tree ≡ true → is_sorted path_cmp (stamped tree path tick) ≡ true
  sorted-stamped tree path tick h = is_sorted-map (restamp path tick) (restamp-kept path tick) tree ∙ h

  pub sorted-moded : (tree : Tree B) (path : Names) (mode tick : ℕ) → is_sorted path_cmp tree ≡ true → is_sorted path_cmp (moded tree path mode tick) ≡ true
  sorted-moded tree path mode tick h = is_sorted-map (remode path mode tick) (remode-kept path mode tick) tree ∙ h

  pub sorted-put : (path : Names) (node : Node B) (tree : Tree B) → is_sorted path_cmp tree ≡ true → is_sorted path_cmp (put path_cmp path node tree) ≡ true
  sorted-put path node tree h = is_so _ (is_sorted-put path_cmp paths_total path node tree (holds_so h))

  pub sorted-without : (tree : Tree B) (path : Names) → is_sorted path_cmp tree ≡ true → is_sorted path_cmp (without tree path) ≡ true
  sorted-without tree path h = is_so _ (is_sorted-where_key path_cmp (λ other. not (starts_with bytes_eq other path)) tree (holds_so h))

  pub sorted-put_all : (tree places : Tree B) → is_sorted path_cmp tree ≡ true → is_sorted path_cmp (put_all tree places) ≡ true
  sorted-put_all tree [] h = h
  sorted-put_all tree (place ∷ places) h = sorted-put_all (put path_cmp place.0 place.1 tree) places (sorted-put place.0 place.1 tree h)

  pub sorted-moved : (tree : Tree B) (old new : Names) → is_sorted path_cmp (moved tree old new) ≡ true
  sorted-moved tree old new = sorted-put_all [] (map (repath old new) tree) refl

  -- ---- states

  -- what a change keeps where it is made is kept
  pub if_asked-keeps : {X : Type 0} (P : State B → Type 0) (act : X → State B) (state : State B) (asked : Asked X) → P state → ((x : X) → asked ≡ Ok x → P (act x)) → P (if_asked act state asked)
  if_asked-keeps P act state (Ok x) kept made = made x refl
  if_asked-keeps P act state (Err why) kept made = kept

  abbrev IsOrdered : State B → Type 0
  IsOrdered state = is_sorted path_cmp state.tree ≡ true

  pub sorted-with_node : (state : State B) (path : Names) (node : Node B) → is_sorted path_cmp state.tree ≡ true → is_sorted path_cmp (with_node state path node).tree ≡ true
  sorted-with_node state path node h = sorted-put path node _ (sorted-stamped state.tree (parent_of path) (state.tick + 1) h)

  pub sorted-removed : (state : State B) (path : Names) → is_sorted path_cmp state.tree ≡ true → is_sorted path_cmp (removed state path).tree ≡ true
  sorted-removed state path h = sorted-stamped (without state.tree path) (parent_of path) (state.tick + 1) (sorted-without state.tree path h)

  pub sorted-renamed : (state : State B) (paths : Names × Names) → is_sorted path_cmp (renamed state paths).tree ≡ true
  sorted-renamed state paths = sorted-stamped _ (parent_of paths.1) (state.tick + 1) (sorted-stamped _ (parent_of paths.0) (state.tick + 1) (sorted-moved state.tree paths.0 paths.1))

  pub sorted-with_file : (state : State B) (path : Names) (node : Node B) (file : B) → is_sorted path_cmp state.tree ≡ true → is_sorted path_cmp (with_file state path node file).tree ≡ true
  sorted-with_file state path node file h = sorted-put path (refilled node file (state.tick + 1)) state.tree h

  sorted-allowed : (state : State B) (id : InodeId) → is_sorted path_cmp state.tree ≡ true → is_sorted path_cmp (allowed state id).tree ≡ true
  sorted-allowed state id h = elim (is_snapshottable state id) as (λ b. is_sorted path_cmp (State.tree (cond b state (record state { snapshottable = state.snapshottable ++ id ∷ [] }))) ≡ true) [
    | true ↦ h
    | false ↦ h
  ]

  pub sorted-change : (files : Files B) (state : State B) (call : Call) → is_sorted path_cmp state.tree ≡ true → is_sorted path_cmp (change files state call).tree ≡ true
  sorted-change files state (calls.Mkdir path) h =
      if_asked-keeps IsOrdered (made_dir state) state (mkdir_at state path) h (λ p _. sorted-with_node state p (new_dir state.next_inode (state.tick + 1)) h)
  sorted-change files state (calls.Create path over) h =
      if_asked-keeps IsOrdered (made_file files state) state (create_at state path over) h (λ p _. sorted-with_node state p (new_file files state.next_inode (state.tick + 1)) h)
  sorted-change files state (calls.Delete path recursive) h = if_asked-keeps IsOrdered (removed state) state (delete_at state path recursive) h (λ p _. sorted-removed state p h)
  sorted-change files state (calls.Rename old new) h = if_asked-keeps IsOrdered (renamed state) state (rename_at state old new) h (λ p _. sorted-renamed state p)
  sorted-change files state (calls.SetMode path mode) h = if_asked-keeps IsOrdered (with_mode state mode) state (set_mode_at state path) h (λ p _. sorted-moded state.tree p mode (state.tick + 1) h)
  sorted-change files state (calls.Append path bytes) h =
      if_asked-keeps IsOrdered (appended files state bytes) state (append_at state path) h (λ at _. sorted-with_file state at.0 at.1 (files.append at.2 bytes) h)
  sorted-change files state (calls.Read path offset len) h = h
  sorted-change files state (calls.ReadNext cursor len) h = h
  sorted-change files state (calls.Stat path) h = h
  sorted-change files state (calls.List path size) h = h
  sorted-change files state (calls.Allow path) h = if_asked-keeps IsOrdered (allowed state) state (allow_at state path) h (λ id _. sorted-allowed state id h)
  sorted-change files state (calls.Disallow path) h = if_asked-keeps IsOrdered (disallowed state) state (disallow_at state path) h (λ id _. h)
  sorted-change files state (calls.Snap path name) h = if_asked-keeps IsOrdered (snapped state name) state (snap_at state path name) h (λ at _. h)
  sorted-change files state (calls.SnapDel path name) h = if_asked-keeps IsOrdered (unsnapped state) state (snap_del_at state path name) h (λ id _. h)
  sorted-change files state (calls.SnapRen path old new) h = if_asked-keeps IsOrdered (resnapped state new) state (snap_ren_at state path old new) h (λ id _. h)
  sorted-change files state (calls.ListNext cursor size) h = h
  sorted-change files state (calls.Snaps path) h = h
  sorted-change files state calls.Dirs h = h
  sorted-change files state (calls.Report path from to size) h = h
  sorted-change files state (calls.ReportNext cursor size) h = h

  pub sorted-after : (files : Files B) (state : State B) (entry : Entry) → is_sorted path_cmp state.tree ≡ true → is_sorted path_cmp (after files state entry).tree ≡ true
  sorted-after files state entry h = elim (takes_effect entry) as (λ b. is_sorted path_cmp (changed_if b files state entry.call).tree ≡ true) [
    | true ↦ sorted-change files state entry.call h
    | false ↦ h
  ]

  pub sorted-replay_from : (files : Files B) (state : State B) (entries : List Entry) → is_sorted path_cmp state.tree ≡ true → is_sorted path_cmp (replay_from files state entries).tree ≡ true
  sorted-replay_from files state [] h = h
  sorted-replay_from files state (entry ∷ entries) h = sorted-replay_from files (after files state entry) entries (sorted-after files state entry h)

  pub sorted-replay : (files : Files B) (entries : List Entry) → is_sorted path_cmp (replay files entries).tree ≡ true
  sorted-replay files entries = sorted-replay_from files start entries refl
