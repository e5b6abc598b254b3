-- The calls on snapshots look at no file, so a state with files kept in another way answers them alike.
use Rattle.std.proofs.Common.{◌≡◌, ℕ, ◌&&◌, ◌||◌, Bool, true, false, cond, Option, Some, None, Ok, Err, List, [], ◌∷◌, map, refl, ap, ◌∙◌}
use Rattle.std.specs.Prelude.{not, nat_le}
use Rattle.std.specs.Option.{option_map}
use Rattle.std.specs.List.{cons_option, list_any, filter_map}
use Rattle.hs_types.specs.Limits.{snapshot_limit}
use Rattle.hs_types.specs.Names.{Names, is_name}
use Rattle.hs_types.specs.Paths.{path_text}
use Rattle.hs_types.specs.declared.ids.InodeId.{InodeId}
use Rattle.hs_types.specs.declared.ids.SnapId.{SnapId}
use Rattle.hs_types.specs.declared.refusal.Refusal.TheVariants.{NotDir, NotSnapshotName, HasSnapshots, NotSnapshottable, Nested, SnapshotExists, SnapshotLimit, Gone}
use Rattle.hs_types.specs.declared.name.SnapItem.{SnapItem}
use Rattle.hs_types.specs.declared.call.ListCursor.{ListCursor}
use Rattle.hs_types.specs.declared.call.Place.{Place}
use Rattle.hs_types.specs.declared.call.Place.TheVariants as places
use Rattle.hs_types.specs.declared.reply.DirItem.{DirItem}
use Rattle.hs_types.specs.declared.reply.Item.{Item}
use Rattle.hs_types.specs.declared.reply.Reply.TheVariants as replies
use Rattle.hs_plain.specs.declared.state.Node.{Node}
use Rattle.hs_plain.specs.declared.state.Member.{Member}
use Rattle.hs_plain.specs.declared.state.State.{State}
use Rattle.hs_plain.specs.Asked.{Asked, ◌>>=◌, refuse_if}
use Rattle.hs_plain.specs.Tree.{Tree, walk, is_dir, is_above, place_of}
use Rattle.hs_plain.specs.State.{is_snapshottable, member_with, snapshots_of, has_snapshots, has_snapshot_named, snapshot_named, is_named, meets_snapshottable, items_at}
use Rattle.hs_plain.specs.Pages.{page_of}
use Rattle.hs_plain.specs.Modifying.{live_path}
use Rattle.hs_plain.specs.Snapshotting.{directory_at, allow_at, disallow_at, snap_at, snap_del_at, snap_ren_at}
use Rattle.hs_plain.specs.Reading.{is_gone, list_next_reply, directory_there, live_directory, snapshottable_at, snap_item, snaps_reply, dir_item, dirs_reply}
use Rattle.hs_plain.specs.Viewed.{viewed_node, viewed_place, viewed_tree, viewed_member, viewed}
use Rattle.hs_plain.proofs.Viewed.{mapped, then-same, then-mapped, is_dir_body-viewed, walk-viewed, viewed_found, viewed_named, member_with-viewed, place_of-viewed, any-viewed, has_snapshots-viewed, snapshots_of-viewed, is_gone-viewed, items_at-viewed, at_place-viewed}

-- tests behind one that gives something in another way
after-mapped : {X Y Z : Type 0} (asked : Asked X) (h : X → Y) (f : Y → Asked Z) (g : X → Asked Z) → ((x : X) → f (h x) ≡ g x) → (mapped h asked >>= f) ≡ (asked >>= g)
after-mapped (Ok x) h f g same = same x
after-mapped (Err why) h f g same = refl

-- and their own result so too
after-both : {X Y Z W : Type 0} (asked : Asked X) (h : X → Y) (f : Y → Asked Z) (g : X → Asked W) (k : W → Z) → ((x : X) → f (h x) ≡ mapped k (g x)) → (mapped h asked >>= f) ≡ mapped k (asked >>= g)
after-both (Ok x) h f g k same = same x
after-both (Err why) h f g k same = refl

-- a directory, with its path
abbrev directory : {B : Type 0} → Names → Node B → Asked (Names × Node B)
directory path node = refuse_if (not (is_dir node)) NotDir >>= λ _. Ok (path, node)

abbrev directory_in : {B : Type 0} → Tree B → Names → Asked (Names × Node B)
directory_in tree path = walk tree path >>= directory path

-- the tests of a new snapshot behind its directory
abbrev rest_of_snap : {X : Type 0} → Bool → Bool → Bool → Bool → X → Asked X
rest_of_snap named there free room at = do
  n ← refuse_if named NotSnapshotName
  t ← refuse_if there NotSnapshottable
  f ← refuse_if free SnapshotExists
  r ← refuse_if room SnapshotLimit
  Ok at

rest_of_snap-mapped : {X Y : Type 0} (named there free room : Bool) (h : X → Y) (at : X) → rest_of_snap named there free room (h at) ≡ mapped h (rest_of_snap named there free room at)
rest_of_snap-mapped true there free room h at = refl
rest_of_snap-mapped false true free room h at = refl
rest_of_snap-mapped false false true room h at = refl
rest_of_snap-mapped false false false true h at = refl
rest_of_snap-mapped false false false false h at = refl

module _ {A B : Type 0} (read : A → B) where
  -- ---- the snapshots of a directory

  pub any_member-viewed : (f : Member B → Bool) (g : Member A → Bool) → ((member : Member A) → f (viewed_member read member) ≡ g member) → (members : List (Member A)) → list_any f (map (viewed_member read) members) ≡ list_any g members
  any_member-viewed f g same [] = refl
  any_member-viewed f g same (member ∷ members) = ap (λ b. b || list_any f (map (viewed_member read) members)) (same member) ∙ ap (λ b. g member || b) (any_member-viewed f g same members)

  has_snapshot_named-viewed : (state : State A) (dir : InodeId) (name : List ℕ) → has_snapshot_named (viewed read state) dir name ≡ has_snapshot_named state dir name
  has_snapshot_named-viewed state dir name = any_member-viewed (is_named dir name) (is_named dir name) (λ member. refl) state.members

  pub snapshot_named-viewed : (members : List (Member A)) (dir : InodeId) (name : List ℕ) → snapshot_named (map (viewed_member read) members) dir name ≡ snapshot_named members dir name
  snapshot_named-viewed [] dir name = refl
  snapshot_named-viewed (m ∷ ms) dir name = ap (λ (other : Asked SnapId). cond (is_named dir name m) (Ok m.snapshot) other) (snapshot_named-viewed ms dir name)

  -- ---- modifying calls

  directory-viewed : (path : Names) (node : Node A) → directory path (viewed_node read node) ≡ mapped (viewed_place read) (directory path node)
  directory-viewed path node =
      ap (λ b. refuse_if (not b) NotDir >>= λ _. Ok (path, viewed_node read node)) (is_dir_body-viewed read node.body)
      ∙ then-mapped (refuse_if (not (is_dir node)) NotDir) (λ _. Ok (path, node)) (λ _. Ok (path, viewed_node read node)) (viewed_place read) (λ _. refl)

  found_directory-viewed : (path : Names) (node : Asked (Node A)) → (viewed_found read node >>= directory path) ≡ mapped (viewed_place read) (node >>= directory path)
  found_directory-viewed path (Ok node) = directory-viewed path node
  found_directory-viewed path (Err why) = refl

  directory_in-viewed : (tree : Tree A) (path : Names) → directory_in (viewed_tree read tree) path ≡ mapped (viewed_place read) (directory_in tree path)
  directory_in-viewed tree path = ap (λ (node : Asked (Node B)). node >>= directory path) (walk-viewed read tree path) ∙ found_directory-viewed path (walk tree path)

  directory_at-viewed : (state : State A) (text : List ℕ) → directory_at (viewed read state) text ≡ mapped (viewed_place read) (directory_at state text)
  directory_at-viewed state text = then-mapped (live_path text) (directory_in state.tree) (directory_in (viewed_tree read state.tree)) (viewed_place read) (directory_in-viewed state.tree)

  -- what is asked of the directory at a path
  at_directory-viewed : {X : Type 0} (state : State A) (text : List ℕ) (f : Names × Node B → Asked X) (g : Names × Node A → Asked X) → ((at : Names × Node A) → f (viewed_place read at) ≡ g at) →
      (directory_at (viewed read state) text >>= f) ≡ (directory_at state text >>= g)
  at_directory-viewed state text f g same = ap (λ (at : Asked (Names × Node B)). at >>= f) (directory_at-viewed state text) ∙ after-mapped (directory_at state text) (viewed_place read) f g same

  meets_snapshottable-viewed : (state : State A) (path : Names) → meets_snapshottable (viewed read state) path ≡ meets_snapshottable state path
  meets_snapshottable-viewed state path =
      any-viewed read (λ place. is_snapshottable (viewed read state) place.1.id && (is_above place.0 path || is_above path place.0)) (λ place. is_snapshottable state place.1.id && (is_above place.0 path || is_above path place.0)) (λ place. refl) state.tree

  pub allow_at-viewed : (state : State A) (text : List ℕ) → allow_at (viewed read state) text ≡ allow_at state text
  allow_at-viewed state text =
      at_directory-viewed state text (λ at. refuse_if (meets_snapshottable (viewed read state) at.0) Nested >>= λ _. Ok at.1.id) (λ at. refuse_if (meets_snapshottable state at.0) Nested >>= λ _. Ok at.1.id)
      (λ at. ap (λ b. refuse_if b Nested >>= λ _. Ok at.1.id) (meets_snapshottable-viewed state at.0))

  pub disallow_at-viewed : (state : State A) (text : List ℕ) → disallow_at (viewed read state) text ≡ disallow_at state text
  disallow_at-viewed state text =
      at_directory-viewed state text (λ at. refuse_if (has_snapshots (viewed read state) at.1.id) HasSnapshots >>= λ _. (refuse_if (not (is_snapshottable state at.1.id)) NotSnapshottable >>= λ _. Ok at.1.id))
      (λ at. refuse_if (has_snapshots state at.1.id) HasSnapshots >>= λ _. (refuse_if (not (is_snapshottable state at.1.id)) NotSnapshottable >>= λ _. Ok at.1.id))
      (λ at. ap (λ b. refuse_if b HasSnapshots >>= λ _. (refuse_if (not (is_snapshottable state at.1.id)) NotSnapshottable >>= λ _. Ok at.1.id)) (has_snapshots-viewed read state.members at.1.id))

  snaps_in-viewed : (state : State A) (name : List ℕ) (at : Names × Node A) →
      rest_of_snap (not (is_name name)) (not (is_snapshottable state at.1.id)) (has_snapshot_named (viewed read state) at.1.id name) (nat_le snapshot_limit (snapshots_of (map (viewed_member read) state.members) at.1.id)) (viewed_place read at)
      ≡ mapped (viewed_place read) (rest_of_snap (not (is_name name)) (not (is_snapshottable state at.1.id)) (has_snapshot_named state at.1.id name) (nat_le snapshot_limit (snapshots_of state.members at.1.id)) at)
  snaps_in-viewed state name at =
      let named = not (is_name name) in
      let there = not (is_snapshottable state at.1.id) in
      ap (λ b. rest_of_snap named there b (nat_le snapshot_limit (snapshots_of (map (viewed_member read) state.members) at.1.id)) (viewed_place read at)) (has_snapshot_named-viewed state at.1.id name)
      ∙ ap (λ n. rest_of_snap named there (has_snapshot_named state at.1.id name) (nat_le snapshot_limit n) (viewed_place read at)) (snapshots_of-viewed read state.members at.1.id)
      ∙ rest_of_snap-mapped named there (has_snapshot_named state at.1.id name) (nat_le snapshot_limit (snapshots_of state.members at.1.id)) (viewed_place read) at

  pub snap_at-viewed : (state : State A) (text name : List ℕ) → snap_at (viewed read state) text name ≡ mapped (viewed_place read) (snap_at state text name)
  snap_at-viewed state text name =
      let asks : Names × Node A → Asked (Names × Node A) = λ at. rest_of_snap (not (is_name name)) (not (is_snapshottable state at.1.id)) (has_snapshot_named state at.1.id name) (nat_le snapshot_limit (snapshots_of state.members at.1.id)) at in
      let viewed_asks : Names × Node B → Asked (Names × Node B) = λ at. rest_of_snap (not (is_name name)) (not (is_snapshottable state at.1.id)) (has_snapshot_named (viewed read state) at.1.id name) (nat_le snapshot_limit (snapshots_of (map (viewed_member read) state.members) at.1.id)) at in
      ap (λ (at : Asked (Names × Node B)). at >>= viewed_asks) (directory_at-viewed state text) ∙ after-both (directory_at state text) (viewed_place read) viewed_asks asks (viewed_place read) (snaps_in-viewed state name)

  pub snap_del_at-viewed : (state : State A) (text name : List ℕ) → snap_del_at (viewed read state) text name ≡ snap_del_at state text name
  snap_del_at-viewed state text name =
      at_directory-viewed state text (λ at. refuse_if (not (is_snapshottable state at.1.id)) NotSnapshottable >>= λ _. snapshot_named (map (viewed_member read) state.members) at.1.id name)
      (λ at. refuse_if (not (is_snapshottable state at.1.id)) NotSnapshottable >>= λ _. snapshot_named state.members at.1.id name)
      (λ at. ap (λ (id : Asked SnapId). refuse_if (not (is_snapshottable state at.1.id)) NotSnapshottable >>= λ _. id) (snapshot_named-viewed state.members at.1.id name))

  -- the tests of a snapshot's new name behind its directory
  abbrev rest_of_rename : Bool → Bool → Bool → Asked SnapId → Asked SnapId
  rest_of_rename named there free id = refuse_if named NotSnapshotName >>= λ _. (refuse_if there NotSnapshottable >>= λ _. (refuse_if free SnapshotExists >>= λ _. id))

  pub snap_ren_at-viewed : (state : State A) (text old new : List ℕ) → snap_ren_at (viewed read state) text old new ≡ snap_ren_at state text old new
  snap_ren_at-viewed state text old new =
      let named = not (is_name new) in
      at_directory-viewed state text (λ at. rest_of_rename named (not (is_snapshottable state at.1.id)) (has_snapshot_named (viewed read state) at.1.id new) (snapshot_named (map (viewed_member read) state.members) at.1.id old))
      (λ at. rest_of_rename named (not (is_snapshottable state at.1.id)) (has_snapshot_named state at.1.id new) (snapshot_named state.members at.1.id old))
      (λ at. ap (λ b. rest_of_rename named (not (is_snapshottable state at.1.id)) b (snapshot_named (map (viewed_member read) state.members) at.1.id old)) (has_snapshot_named-viewed state at.1.id new)
      ∙ ap (rest_of_rename named (not (is_snapshottable state at.1.id)) (has_snapshot_named state at.1.id new)) (snapshot_named-viewed state.members at.1.id old))

  -- ---- reading calls

  pub list_next_reply-viewed : (state : State A) (cursor : ListCursor) (size : ℕ) → list_next_reply (viewed read state) cursor size ≡ list_next_reply state cursor size
  list_next_reply-viewed state cursor size =
      ap (λ b. refuse_if b Gone >>= λ _. (items_at (viewed read state) cursor.place >>= λ items. Ok (page_of cursor.place items cursor.after size))) (is_gone-viewed read state cursor.place)
      ∙ ap (λ (items : Asked (List Item)). refuse_if (is_gone state cursor.place) Gone >>= λ _. (items >>= λ xs. Ok (page_of cursor.place xs cursor.after size))) (items_at-viewed read state cursor.place)

  directory_there-viewed : (place : Option (Names × Node A)) → directory_there (option_map (viewed_place read) place) ≡ directory_there place
  directory_there-viewed None = refl
  directory_there-viewed (Some place) = ap (λ b. cond {A = Asked InodeId} b (Ok place.1.id) (Err NotDir)) (is_dir_body-viewed read place.1.body)

  directory_of-viewed : (tree : Tree A) (id : InodeId) → directory_there (place_of (viewed_tree read tree) id) ≡ directory_there (place_of tree id)
  directory_of-viewed tree id = ap directory_there (place_of-viewed read tree id) ∙ directory_there-viewed (place_of tree id)

  -- a directory of a copied tree is not snapshottable
  abbrev copied_directory : {C : Type 0} → InodeId → Member C → Asked InodeId
  copied_directory id member = directory_there (place_of member.tree id) >>= λ dir. Err NotSnapshottable

  copied_directory-viewed : (id : InodeId) (member : Asked (Member A)) → (viewed_named read member >>= copied_directory id) ≡ (member >>= copied_directory id)
  copied_directory-viewed id (Err why) = refl
  copied_directory-viewed id (Ok m) = ap (λ (dir : Asked InodeId). dir >>= λ _. Err NotSnapshottable) (directory_of-viewed m.tree id)

  live_directory-viewed : (state : State A) (place : Place) → live_directory (viewed read state) place ≡ live_directory state place
  live_directory-viewed state (places.Live id) = directory_of-viewed state.tree id
  live_directory-viewed state (places.Frozen id snapshot) =
      ap (λ (member : Asked (Member B)). member >>= copied_directory id) (member_with-viewed read state.members snapshot) ∙ copied_directory-viewed id (member_with state.members snapshot)
  live_directory-viewed state (places.SnapshotsOf dir) = refl

  pub snapshottable_at-viewed : (state : State A) (text : List ℕ) → snapshottable_at (viewed read state) text ≡ snapshottable_at state text
  snapshottable_at-viewed state text =
      let snapshottable : InodeId → Asked InodeId = λ dir. refuse_if (not (is_snapshottable state dir)) NotSnapshottable >>= λ _. Ok dir in
      at_place-viewed read state text (λ place. live_directory (viewed read state) place >>= snapshottable) (λ place. live_directory state place >>= snapshottable)
      (λ place. ap (λ (dir : Asked InodeId). dir >>= snapshottable) (live_directory-viewed state place))

  snap_items-viewed : (members : List (Member A)) (dir : InodeId) → filter_map (snap_item dir) (map (viewed_member read) members) ≡ filter_map (snap_item dir) members
  snap_items-viewed [] dir = refl
  snap_items-viewed (member ∷ members) dir = ap (cons_option (snap_item dir member)) (snap_items-viewed members dir)

  pub snaps_reply-viewed : (state : State A) (text : List ℕ) → snaps_reply (viewed read state) text ≡ snaps_reply state text
  snaps_reply-viewed state text =
      ap (λ (dir : Asked InodeId). dir >>= λ d. Ok (replies.Snaps d (filter_map (snap_item d) (map (viewed_member read) state.members)))) (snapshottable_at-viewed state text)
      ∙ then-same (snapshottable_at state text) (λ d. Ok (replies.Snaps d (filter_map (snap_item d) (map (viewed_member read) state.members)))) (λ d. Ok (replies.Snaps d (filter_map (snap_item d) state.members)))
      (λ d. ap (λ (items : List SnapItem). Ok (replies.Snaps d items)) (snap_items-viewed state.members d))

  dir_item-viewed : (state : State A) (place : Names × Node A) → dir_item (viewed read state) (viewed_place read place) ≡ dir_item state place
  dir_item-viewed state place =
      ap (λ n. cond (is_snapshottable state place.1.id) (Some (record { id = place.1.id; count = n; path = path_text place.0 })) None) (snapshots_of-viewed read state.members place.1.id)

  dir_items-viewed : (state : State A) (tree : Tree A) → filter_map (dir_item (viewed read state)) (viewed_tree read tree) ≡ filter_map (dir_item state) tree
  dir_items-viewed state [] = refl
  dir_items-viewed state (place ∷ tree) =
      ap (λ (item : Option DirItem). cons_option item (filter_map (dir_item (viewed read state)) (viewed_tree read tree))) (dir_item-viewed state place) ∙ ap (cons_option (dir_item state place)) (dir_items-viewed state tree)

  pub dirs_reply-viewed : (state : State A) → dirs_reply (viewed read state) ≡ dirs_reply state
  dirs_reply-viewed state = ap replies.Dirs (dir_items-viewed state state.tree)
