-- A change looks at no file but for what an append makes of it, so in a state with files kept in another way it is the same.
use Rattle.std.proofs.Common.{◌≡◌, ℕ, ◌+◌, true, false, cond, Option, Some, None, Ok, Err, is_some, List, [], ◌∷◌, ◌++◌, map, refl, ap, sym, ◌∙◌}
use Rattle.std.specs.Prelude.{not}
use Rattle.std.specs.Option.{option_map}
use Rattle.std.specs.List.{filter}
use Rattle.std.proofs.lemmas.List.{map-append}
use Rattle.std.specs.declared.cmp.Ordering.TheVariants.{Less, Equal, Greater}
use Rattle.std.specs.FinMap.Entries.{put, by_order}
use Rattle.hs_types.specs.Names.{Names}
use Rattle.hs_types.specs.declared.ids.InodeId.{InodeId}
use Rattle.hs_types.specs.declared.ids.SnapId.{SnapId}
use Rattle.hs_types.specs.declared.call.Call.{Call}
use Rattle.hs_types.specs.declared.call.Call.TheVariants as calls
use Rattle.hs_plain.specs.declared.state.Node.{Node}
use Rattle.hs_plain.specs.declared.state.Body.TheVariants.{File}
use Rattle.hs_plain.specs.declared.state.Member.{Member}
use Rattle.hs_plain.specs.declared.state.State.{State}
use Rattle.hs_plain.specs.Asked.{Asked}
use Rattle.hs_plain.specs.Files.{Files}
use Rattle.hs_plain.specs.Tree.{Tree, path_cmp, parent_of, same_path, place_of, is_under}
use Rattle.hs_plain.specs.State.{new_dir, is_snapshottable}
use Rattle.hs_plain.specs.Modifying.{mkdir_at, create_at, delete_at, rename_at, set_mode_at, append_at}
use Rattle.hs_plain.specs.Snapshotting.{allow_at, disallow_at, snap_at, snap_del_at, snap_ren_at}
use Rattle.hs_plain.specs.Answer.{uses_store}
use Rattle.hs_plain.specs.Change.{restamp, stamped, remode, moded, without, new_path, at_new, repath, put_all, moved, new_file, with_node, made_dir, made_file, still_in, removed, renamed, with_mode, refilled, with_file, appended, allowed, disallowed, new_member, snapped, is_snapshot, unsnapped, rename_member, resnapped, if_asked, change}
use Rattle.hs_plain.specs.Viewed.{viewed_node, viewed_place, viewed_tree, viewed_member, viewed}
use Rattle.hs_plain.proofs.Viewed.{place_of-viewed, mkdir_at-viewed, create_at-viewed, delete_at-viewed, rename_at-viewed, set_mode_at-viewed, mapped, viewed_file, append_at-viewed}
use Rattle.hs_plain.proofs.ViewedReports.{subtree-viewed}
use Rattle.hs_plain.proofs.ViewedSnapshots.{allow_at-viewed, disallow_at-viewed, snap_at-viewed, snap_del_at-viewed, snap_ren_at-viewed}

module _ {A B : Type 0} (read : A → B) where
  -- ---- trees

  pub put-viewed : (path : Names) (node : Node A) (tree : Tree A) → put path_cmp path (viewed_node read node) (viewed_tree read tree) ≡ viewed_tree read (put path_cmp path node tree)
  put-viewed path node [] = refl
  put-viewed path node (place ∷ tree) =
      elim (path_cmp path place.0) as (λ o. by_order o ((path, viewed_node read node) ∷ viewed_place read place ∷ viewed_tree read tree) ((place.0, viewed_node read node) ∷ viewed_tree read tree) (viewed_place read place ∷ put path_cmp path (viewed_node read node) (viewed_tree read tree))
      ≡ viewed_tree read (by_order o ((path, node) ∷ place ∷ tree) ((place.0, node) ∷ tree) (place ∷ put path_cmp path node tree))) [
        | Less ↦ refl
        | Equal ↦ refl
        | Greater ↦ ap (λ (rest : Tree B). viewed_place read place ∷ rest) (put-viewed path node tree)
      ]

  -- a change of places, one by one, that looks at no file
  map-viewed : (f : Names × Node A → Names × Node A) (g : Names × Node B → Names × Node B) → ((place : Names × Node A) → g (viewed_place read place) ≡ viewed_place read (f place)) → (tree : Tree A) → map g (viewed_tree read tree) ≡ viewed_tree read (map f tree)
  map-viewed f g same [] = refl
  map-viewed f g same (place ∷ tree) =
      ap (λ (p : Names × Node B). p ∷ map g (viewed_tree read tree)) (same place) ∙ ap (λ (rest : Tree B). viewed_place read (f place) ∷ rest) (map-viewed f g same tree)

  restamp-viewed : (path : Names) (tick : ℕ) (place : Names × Node A) → restamp path tick (viewed_place read place) ≡ viewed_place read (restamp path tick place)
  restamp-viewed path tick place =
      elim (same_path path place.0) as (λ b. cond b (place.0, record (viewed_node read place.1) { stamp = tick }) (viewed_place read place) ≡ viewed_place read (cond b (place.0, record place.1 { stamp = tick }) place)) [ true ↦ refl | false ↦ refl ]

  stamped-viewed : (tree : Tree A) (path : Names) (tick : ℕ) → stamped (viewed_tree read tree) path tick ≡ viewed_tree read (stamped tree path tick)
  stamped-viewed tree path tick = map-viewed (restamp path tick) (restamp path tick) (restamp-viewed path tick) tree

  remode-viewed : (path : Names) (mode tick : ℕ) (place : Names × Node A) → remode path mode tick (viewed_place read place) ≡ viewed_place read (remode path mode tick place)
  remode-viewed path mode tick place =
      elim (same_path path place.0) as (λ b. cond b (place.0, record (viewed_node read place.1) { mode = mode; stamp = tick }) (viewed_place read place) ≡ viewed_place read (cond b (place.0, record place.1 { mode = mode; stamp = tick }) place)) [
        | true ↦ refl
        | false ↦ refl
      ]

  moded-viewed : (tree : Tree A) (path : Names) (mode tick : ℕ) → moded (viewed_tree read tree) path mode tick ≡ viewed_tree read (moded tree path mode tick)
  moded-viewed tree path mode tick = map-viewed (remode path mode tick) (remode path mode tick) (remode-viewed path mode tick) tree

  without-viewed : (tree : Tree A) (path : Names) → without (viewed_tree read tree) path ≡ viewed_tree read (without tree path)
  without-viewed [] path = refl
  without-viewed (place ∷ tree) path =
      elim (not (is_under path place)) as (λ b. cond b (viewed_place read place ∷ without (viewed_tree read tree) path) (without (viewed_tree read tree) path) ≡ viewed_tree read (cond b (place ∷ without tree path) (without tree path))) [
        | true ↦ ap (λ (rest : Tree B). viewed_place read place ∷ rest) (without-viewed tree path)
        | false ↦ without-viewed tree path
      ]

  at_new-viewed : (place : Names × Node A) (path : Option Names) → at_new (viewed_place read place) path ≡ viewed_place read (at_new place path)
  at_new-viewed place None = refl
  at_new-viewed place (Some path) = refl

  put_all-viewed : (tree places : Tree A) → put_all (viewed_tree read tree) (viewed_tree read places) ≡ viewed_tree read (put_all tree places)
  put_all-viewed tree [] = refl
  put_all-viewed tree (place ∷ places) =
      ap (λ (t : Tree B). put_all t (viewed_tree read places)) (put-viewed place.0 place.1 tree) ∙ put_all-viewed (put path_cmp place.0 place.1 tree) places

  moved-viewed : (tree : Tree A) (old new : Names) → moved (viewed_tree read tree) old new ≡ viewed_tree read (moved tree old new)
  moved-viewed tree old new =
      ap (put_all []) (map-viewed (repath old new) (repath old new) (λ place. at_new-viewed place (new_path old new place)) tree) ∙ put_all-viewed [] (map (repath old new) tree)

  still_in-viewed : (tree : Tree A) (ids : List InodeId) → still_in (viewed_tree read tree) ids ≡ still_in tree ids
  still_in-viewed tree [] = refl
  still_in-viewed tree (id ∷ ids) =
      ap (λ b. cond b (id ∷ still_in (viewed_tree read tree) ids) (still_in (viewed_tree read tree) ids)) (ap is_some (place_of-viewed read tree id) ∙ is_place-viewed (place_of tree id))
      ∙ ap (λ (rest : List InodeId). cond (is_some (place_of tree id)) (id ∷ rest) rest) (still_in-viewed tree ids)
    where
      is_place-viewed : (place : Option (Names × Node A)) → is_some (option_map (viewed_place read) place) ≡ is_some place
      is_place-viewed None = refl
      is_place-viewed (Some place) = refl

  -- ---- states

  with_node-viewed : (state : State A) (path : Names) (node : Node A) → with_node (viewed read state) path (viewed_node read node) ≡ viewed read (with_node state path node)
  with_node-viewed state path node =
      let above = stamped state.tree (parent_of path) (state.tick + 1) in
      ap (λ (t : Tree B). record (viewed read state) { tree = t; next_inode = state.next_inode + 1 })
      (ap (put path_cmp path (viewed_node read node)) (stamped-viewed state.tree (parent_of path) (state.tick + 1)) ∙ put-viewed path node above)

  pub made_dir-viewed : (state : State A) (path : Names) → made_dir (viewed read state) path ≡ viewed read (made_dir state path)
  made_dir-viewed state path = with_node-viewed state path (new_dir state.next_inode (state.tick + 1))

  pub removed-viewed : (state : State A) (path : Names) → removed (viewed read state) path ≡ viewed read (removed state path)
  removed-viewed state path =
      let left = without state.tree path in
      let tick = state.tick + 1 in
      ap (λ (t : Tree B). record (viewed read state) { tree = stamped t (parent_of path) tick; snapshottable = still_in t state.snapshottable }) (without-viewed state.tree path)
      ∙ ap (λ (t : Tree B). record (viewed read state) { tree = t; snapshottable = still_in (viewed_tree read left) state.snapshottable }) (stamped-viewed left (parent_of path) tick)
      ∙ ap (λ (ids : List InodeId). record (viewed read state) { tree = viewed_tree read (stamped left (parent_of path) tick); snapshottable = ids }) (still_in-viewed left state.snapshottable)

  pub renamed-viewed : (state : State A) (paths : Names × Names) → renamed (viewed read state) paths ≡ viewed read (renamed state paths)
  renamed-viewed state paths =
      let tick = state.tick + 1 in
      let old = parent_of paths.0 in
      let new = parent_of paths.1 in
      let tree = moved state.tree paths.0 paths.1 in
      ap (λ (t : Tree B). record (viewed read state) { tree = stamped (stamped t old tick) new tick }) (moved-viewed state.tree paths.0 paths.1)
      ∙ ap (λ (t : Tree B). record (viewed read state) { tree = stamped t new tick }) (stamped-viewed tree old tick)
      ∙ ap (λ (t : Tree B). record (viewed read state) { tree = t }) (stamped-viewed (stamped tree old tick) new tick)

  pub with_mode-viewed : (state : State A) (mode : ℕ) (path : Names) → with_mode (viewed read state) mode path ≡ viewed read (with_mode state mode path)
  with_mode-viewed state mode path = ap (λ (t : Tree B). record (viewed read state) { tree = t }) (moded-viewed state.tree path mode (state.tick + 1))

  pub with_file-viewed : (state : State A) (path : Names) (node : Node A) (file : A) → with_file (viewed read state) path (viewed_node read node) (read file) ≡ viewed read (with_file state path node file)
  with_file-viewed state path node file = ap (λ (t : Tree B). record (viewed read state) { tree = t }) (put-viewed path (refilled node file (state.tick + 1)) state.tree)

  -- a file with another, which reads as an append makes it
  pub appended-viewed : (fb : Files B) (state : State A) (text bytes : List ℕ) (path : Names) (node : Node A) (file new : A) → append_at state text ≡ Ok (path, node, file) → read new ≡ fb.append (read file) bytes →
      change fb (viewed read state) (calls.Append text bytes) ≡ viewed read (with_file state path node new)
  appended-viewed fb state text bytes path node file new asked longer =
      ap (if_asked (appended fb (viewed read state) bytes) (viewed read state)) (append_at-viewed read state text ∙ ap (mapped (viewed_file read)) asked)
      ∙ ap (with_file (viewed read state) path (viewed_node read node)) (sym longer)
      ∙ with_file-viewed state path node new

  -- ---- snapshots

  pub allowed-viewed : (state : State A) (id : InodeId) → allowed (viewed read state) id ≡ viewed read (allowed state id)
  allowed-viewed state id =
      elim (is_snapshottable state id) as (λ b. cond b (viewed read state) (record (viewed read state) { snapshottable = state.snapshottable ++ id ∷ [] }) ≡ viewed read (cond b state (record state { snapshottable = state.snapshottable ++ id ∷ [] }))) [
        | true ↦ refl
        | false ↦ refl
      ]

  new_member-viewed : (state : State A) (name : List ℕ) (at : Names × Node A) → new_member (viewed read state) name (viewed_place read at) ≡ viewed_member read (new_member state name at)
  new_member-viewed state name at = ap (λ (t : Tree B). record { snapshot = record { 0 = state.next_snapshot }; directory = at.1.id; name = name; tick = state.tick + 1; tree = t }) (subtree-viewed read state.tree at.0)

  pub snapped-viewed : (state : State A) (name : List ℕ) (at : Names × Node A) → snapped (viewed read state) name (viewed_place read at) ≡ viewed read (snapped state name at)
  snapped-viewed state name at =
      let with_members : List (Member B) → State B = λ members. record (viewed read state) { members = members; next_snapshot = state.next_snapshot + 1 } in
      ap (λ (member : Member B). with_members (map (viewed_member read) state.members ++ member ∷ [])) (new_member-viewed state name at)
      ∙ ap with_members (sym (map-append (viewed_member read) state.members (new_member state name at ∷ [])))

  members_left-viewed : (members : List (Member A)) (id : SnapId) → filter (λ member. not (is_snapshot id member)) (map (viewed_member read) members) ≡ map (viewed_member read) (filter (λ member. not (is_snapshot id member)) members)
  members_left-viewed [] id = refl
  members_left-viewed (m ∷ ms) id =
      let left = filter (λ member. not (is_snapshot id member)) ms in
      let viewed_left = filter (λ member. not (is_snapshot id member)) (map (viewed_member read) ms) in
      elim (not (is_snapshot id m)) as (λ b. cond b (viewed_member read m ∷ viewed_left) viewed_left ≡ map (viewed_member read) (cond b (m ∷ left) left)) [
        | true ↦ ap (λ (rest : List (Member B)). viewed_member read m ∷ rest) (members_left-viewed ms id)
        | false ↦ members_left-viewed ms id
      ]

  pub unsnapped-viewed : (state : State A) (id : SnapId) → unsnapped (viewed read state) id ≡ viewed read (unsnapped state id)
  unsnapped-viewed state id = ap (λ (members : List (Member B)). record (viewed read state) { members = members }) (members_left-viewed state.members id)

  rename_member-viewed : (id : SnapId) (name : List ℕ) (m : Member A) → rename_member id name (viewed_member read m) ≡ viewed_member read (rename_member id name m)
  rename_member-viewed id name m =
      elim (is_snapshot id m) as (λ b. cond b (record (viewed_member read m) { name = name }) (viewed_member read m) ≡ viewed_member read (cond b (record m { name = name }) m)) [ true ↦ refl | false ↦ refl ]

  members_renamed-viewed : (id : SnapId) (name : List ℕ) (members : List (Member A)) → map (rename_member id name) (map (viewed_member read) members) ≡ map (viewed_member read) (map (rename_member id name) members)
  members_renamed-viewed id name [] = refl
  members_renamed-viewed id name (m ∷ ms) =
      ap (λ (member : Member B). member ∷ map (rename_member id name) (map (viewed_member read) ms)) (rename_member-viewed id name m)
      ∙ ap (λ (rest : List (Member B)). viewed_member read (rename_member id name m) ∷ rest) (members_renamed-viewed id name ms)

  pub resnapped-viewed : (state : State A) (name : List ℕ) (id : SnapId) → resnapped (viewed read state) name id ≡ viewed read (resnapped state name id)
  resnapped-viewed state name id = ap (λ (members : List (Member B)). record (viewed read state) { members = members }) (members_renamed-viewed id name state.members)

  -- ---- changes

  -- a change that is made where it isn't refused
  if_asked-viewed : {X : Type 0} (f : X → State A) (g : X → State B) (state : State A) → ((x : X) → g x ≡ viewed read (f x)) → (asked : Asked X) → if_asked g (viewed read state) asked ≡ viewed read (if_asked f state asked)
  if_asked-viewed f g state same (Ok x) = same x
  if_asked-viewed f g state same (Err why) = refl

  -- and whose tests give something that is read
  if_mapped-viewed : {X Y : Type 0} (h : X → Y) (f : X → State A) (g : Y → State B) (state : State A) → ((x : X) → g (h x) ≡ viewed read (f x)) → (asked : Asked X) → if_asked g (viewed read state) (mapped h asked) ≡ viewed read (if_asked f state asked)
  if_mapped-viewed h f g state same (Ok x) = same x
  if_mapped-viewed h f g state same (Err why) = refl

-- ---- calls

module _ {A B : Type 0} (read : A → B) (fa : Files A) (fb : Files B) (empty : read fa.empty ≡ fb.empty) where
  pub made_file-viewed : (state : State A) (path : Names) → made_file fb (viewed read state) path ≡ viewed read (made_file fa state path)
  made_file-viewed state path =
      ap (λ (file : B). with_node (viewed read state) path (record { id = record { 0 = state.next_inode }; mode = 420; stamp = state.tick + 1; body = File file })) (sym empty)
      ∙ with_node-viewed read state path (new_file fa state.next_inode (state.tick + 1))

  -- what uses no store
  pub storeless-viewed : (state : State A) (call : Call) → uses_store call ≡ false → change fb (viewed read state) call ≡ viewed read (change fa state call)
  storeless-viewed state (calls.Mkdir path) no_store =
      ap (if_asked (made_dir (viewed read state)) (viewed read state)) (mkdir_at-viewed read state path) ∙ if_asked-viewed read (made_dir state) (made_dir (viewed read state)) state (made_dir-viewed read state) (mkdir_at state path)
  storeless-viewed state (calls.Create path over) no_store =
      ap (if_asked (made_file fb (viewed read state)) (viewed read state)) (create_at-viewed read state path over)
      ∙ if_asked-viewed read (made_file fa state) (made_file fb (viewed read state)) state (made_file-viewed state) (create_at state path over)
  storeless-viewed state (calls.Append path bytes) no_store = absurd (cc)
  storeless-viewed state (calls.Delete path recursive) no_store =
      ap (if_asked (removed (viewed read state)) (viewed read state)) (delete_at-viewed read state path recursive) ∙ if_asked-viewed read (removed state) (removed (viewed read state)) state (removed-viewed read state) (delete_at state path recursive)
  storeless-viewed state (calls.Rename old new) no_store =
      ap (if_asked (renamed (viewed read state)) (viewed read state)) (rename_at-viewed read state old new) ∙ if_asked-viewed read (renamed state) (renamed (viewed read state)) state (renamed-viewed read state) (rename_at state old new)
  storeless-viewed state (calls.SetMode path mode) no_store =
      ap (if_asked (with_mode (viewed read state) mode) (viewed read state)) (set_mode_at-viewed read state path)
      ∙ if_asked-viewed read (with_mode state mode) (with_mode (viewed read state) mode) state (with_mode-viewed read state mode) (set_mode_at state path)
  storeless-viewed state (calls.Allow path) no_store =
      ap (if_asked (allowed (viewed read state)) (viewed read state)) (allow_at-viewed read state path) ∙ if_asked-viewed read (allowed state) (allowed (viewed read state)) state (allowed-viewed read state) (allow_at state path)
  storeless-viewed state (calls.Disallow path) no_store =
      ap (if_asked (disallowed (viewed read state)) (viewed read state)) (disallow_at-viewed read state path)
      ∙ if_asked-viewed read (disallowed state) (disallowed (viewed read state)) state (λ id. refl) (disallow_at state path)
  storeless-viewed state (calls.Snap path name) no_store =
      ap (if_asked (snapped (viewed read state) name) (viewed read state)) (snap_at-viewed read state path name)
      ∙ if_mapped-viewed read (viewed_place read) (snapped state name) (snapped (viewed read state) name) state (snapped-viewed read state name) (snap_at state path name)
  storeless-viewed state (calls.SnapDel path name) no_store =
      ap (if_asked (unsnapped (viewed read state)) (viewed read state)) (snap_del_at-viewed read state path name)
      ∙ if_asked-viewed read (unsnapped state) (unsnapped (viewed read state)) state (unsnapped-viewed read state) (snap_del_at state path name)
  storeless-viewed state (calls.SnapRen path old new) no_store =
      ap (if_asked (resnapped (viewed read state) new) (viewed read state)) (snap_ren_at-viewed read state path old new)
      ∙ if_asked-viewed read (resnapped state new) (resnapped (viewed read state) new) state (resnapped-viewed read state new) (snap_ren_at state path old new)
  storeless-viewed state (calls.Read path offset len) no_store = refl
  storeless-viewed state (calls.ReadNext cursor len) no_store = refl
  storeless-viewed state (calls.Stat path) no_store = refl
  storeless-viewed state (calls.List path size) no_store = refl
  storeless-viewed state (calls.ListNext cursor size) no_store = refl
  storeless-viewed state (calls.Snaps path) no_store = refl
  storeless-viewed state calls.Dirs no_store = refl
  storeless-viewed state (calls.Report path from to size) no_store = refl
  storeless-viewed state (calls.ReportNext cursor size) no_store = refl

  -- every call, where an append reads as one
  module _ (longer : (file : A) (bytes : List ℕ) → read (fa.append file bytes) ≡ fb.append (read file) bytes) where
    if_appended-viewed : (state : State A) (bytes : List ℕ) (at : Asked (Names × Node A × A)) →
        if_asked (appended fb (viewed read state) bytes) (viewed read state) (mapped (viewed_file read) at) ≡ viewed read (if_asked (appended fa state bytes) state at)
    if_appended-viewed state bytes (Ok at) =
        ap (with_file (viewed read state) at.0 (viewed_node read at.1)) (sym (longer at.2 bytes)) ∙ with_file-viewed read state at.0 at.1 (fa.append at.2 bytes)
    if_appended-viewed state bytes (Err why) = refl

    pub change-viewed : (state : State A) (call : Call) → change fb (viewed read state) call ≡ viewed read (change fa state call)
    change-viewed state (calls.Mkdir path) = storeless-viewed state (calls.Mkdir path) refl
    change-viewed state (calls.Create path over) = storeless-viewed state (calls.Create path over) refl
    change-viewed state (calls.Append path bytes) = ap (if_asked (appended fb (viewed read state) bytes) (viewed read state)) (append_at-viewed read state path) ∙ if_appended-viewed state bytes (append_at state path)
    change-viewed state (calls.Delete path recursive) = storeless-viewed state (calls.Delete path recursive) refl
    change-viewed state (calls.Rename old new) = storeless-viewed state (calls.Rename old new) refl
    change-viewed state (calls.SetMode path mode) = storeless-viewed state (calls.SetMode path mode) refl
    change-viewed state (calls.Allow path) = storeless-viewed state (calls.Allow path) refl
    change-viewed state (calls.Disallow path) = storeless-viewed state (calls.Disallow path) refl
    change-viewed state (calls.Snap path name) = storeless-viewed state (calls.Snap path name) refl
    change-viewed state (calls.SnapDel path name) = storeless-viewed state (calls.SnapDel path name) refl
    change-viewed state (calls.SnapRen path old new) = storeless-viewed state (calls.SnapRen path old new) refl
    change-viewed state (calls.Read path offset len) = refl
    change-viewed state (calls.ReadNext cursor len) = refl
    change-viewed state (calls.Stat path) = refl
    change-viewed state (calls.List path size) = refl
    change-viewed state (calls.ListNext cursor size) = refl
    change-viewed state (calls.Snaps path) = refl
    change-viewed state calls.Dirs = refl
    change-viewed state (calls.Report path from to size) = refl
    change-viewed state (calls.ReportNext cursor size) = refl
