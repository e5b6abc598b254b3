-- The plain machine looks at no file but for its size, and for its bytes in a read, so a state with files kept in another way answers alike.
use Rattle.std.proofs.Common.{◌≡◌, ℕ, ◌+◌, ◌&&◌, ◌||◌, ◌==◌, bytes_eq, Bool, true, false, cond, Option, Some, None, Ok, Err, is_some, List, [], ◌∷◌, ◌++◌, map, length, refl, ap, ◌∙◌}
use Rattle.std.specs.Prelude.{not, nat_lt}
use Rattle.std.specs.Option.{option_map}
use Rattle.std.specs.List.{cons_option, list_any}
use Rattle.std.proofs.lemmas.List.Folds.{fold-map}
use Rattle.std.specs.Ordering.{eq_by_cmp}
use Rattle.hs_types.specs.Names.{Names}
use Rattle.hs_types.specs.Paths.{path_of}
use Rattle.hs_types.specs.declared.ids.InodeId.{InodeId}
use Rattle.hs_types.specs.declared.ids.SnapId.{SnapId}
use Rattle.hs_types.specs.declared.path.Path.{Path}
use Rattle.hs_types.specs.declared.path.PathTail.{PathTail}
use Rattle.hs_types.specs.declared.path.PathTail.TheVariants.{Plain, SnapshotList, Frozen}
use Rattle.hs_types.specs.declared.refusal.Refusal.TheVariants.{NotFound, NotDir, NotFile, Exists, IsRoot, NotEmpty, HasSnapshots, IntoItself, Nested, Gone}
use Rattle.hs_types.specs.declared.reply.Reply.{Reply}
use Rattle.hs_types.specs.declared.reply.Reply.TheVariants as replies
use Rattle.hs_types.specs.declared.call.Place.{Place}
use Rattle.hs_types.specs.declared.call.Place.TheVariants as places
use Rattle.hs_types.specs.declared.reply.Item.{Item}
use Rattle.hs_types.specs.declared.call.ReadCursor.{ReadCursor}
use Rattle.hs_types.specs.declared.call.Call.{Call}
use Rattle.hs_types.specs.declared.call.Call.TheVariants as calls
use Rattle.hs_plain.specs.declared.state.Node.{Node}
use Rattle.hs_plain.specs.declared.state.Body.{Body}
use Rattle.hs_plain.specs.declared.state.Body.TheVariants.{File, Dir}
use Rattle.hs_plain.specs.declared.state.Member.{Member}
use Rattle.hs_plain.specs.declared.state.State.{State}
use Rattle.hs_plain.specs.Asked.{Asked, ◌>>=◌, refuse_if, both}
use Rattle.hs_plain.specs.Files.{Files}
use Rattle.hs_plain.specs.Tree.{Tree, path_cmp, node_at, is_dir_body, is_dir, passes, walks_from, walks_above, found, walk, child_item, named_item, name_below, listing, size_of, is_root_path, is_above, is_under, same_inode, place_of}
use Rattle.hs_plain.specs.State.{is_snapshottable, if_snapshottable, snapshot_root, member_named, member_with, resolve, resolve_tail, items_of, items_at, snapshot_items, with_item, snapshots_of, has_snapshots, holds_snapshots, holds_snapshottable, is_in_snapshottable}
use Rattle.hs_plain.specs.Pages.{page_of}
use Rattle.hs_plain.specs.Modifying.{live_path, mkdir_at, takes_place_of, create_at, spares_children, delete_at, would_nest, may_move, rename_at, set_mode_at, file_in, append_at}
use Rattle.hs_plain.specs.Reading.{list_reply, node_stat, list_stat, stat_at, stat_reply, file_there, file_at, page_at, found_file, read_reply, is_live, is_gone, next_file, next_reply}
use Rattle.hs_plain.specs.Answer.{replied, asked, is_modifying, uses_store}
use Rattle.hs_plain.specs.Viewed.{viewed_body, viewed_node, viewed_place, viewed_tree, viewed_member, viewed}

-- one test after another answers alike, where its answers do
pub then-same : {X Y : Type 0} (asked : Asked X) (f g : X → Asked Y) → ((x : X) → f x ≡ g x) → (asked >>= f) ≡ (asked >>= g)
then-same (Ok x) f g same = same x
then-same (Err why) f g same = refl

-- what a test gives, in another way
abbrev pub mapped : {X Y : Type 0} → (X → Y) → Asked X → Asked Y
mapped f (Ok x) = Ok (f x)
mapped f (Err why) = Err why

pub then-mapped : {X Y Z : Type 0} (asked : Asked X) (f : X → Asked Y) (g : X → Asked Z) (h : Y → Z) → ((x : X) → g x ≡ mapped h (f x)) → (asked >>= g) ≡ mapped h (asked >>= f)
then-mapped (Ok x) f g h same = same x
then-mapped (Err why) f g h same = refl

pub replied-mapped : {X Y : Type 0} (reply : Reply) (f : X → Y) (asked : Asked X) → replied reply (mapped f asked) ≡ replied reply asked
replied-mapped reply f (Ok x) = refl
replied-mapped reply f (Err why) = refl

-- the place in a snapshot's copied tree
abbrev frozen_at : {B : Type 0} → Names → Member B → Asked Place
frozen_at rest member = walk member.tree rest >>= λ node. Ok (places.Frozen node.id member.snapshot)

-- ---- the tests of the modifying calls, at a path

abbrev makes : {B : Type 0} → Tree B → Names → Asked Names
makes tree path = do
  above ← walks_above tree path
  free ← refuse_if (is_some (node_at tree path)) Exists
  Ok path

abbrev creates : {B : Type 0} → Tree B → Bool → Names → Asked Names
creates tree over path = do
  above ← walks_above tree path
  free ← takes_place_of over (node_at tree path)
  Ok path

abbrev appends : {B : Type 0} → Tree B → Names → Asked (Names × Node B × B)
appends tree path = do
  node ← walk tree path
  file ← file_in node.body
  Ok (path, node, file)

abbrev deletes : {B : Type 0} → State B → Bool → Names → Asked Names
deletes state recursive path = do
  node ← walk state.tree path
  below ← refuse_if (is_root_path path) IsRoot
  alone ← refuse_if (spares_children state.tree path recursive) NotEmpty
  free ← refuse_if (holds_snapshots state path) HasSnapshots
  Ok path

abbrev moves : {B : Type 0} → State B → Names × Names → Asked (Names × Names)
moves state paths = do
  apart ← may_move state paths.0 paths.1
  Ok paths

abbrev sets_mode : {B : Type 0} → Tree B → Names → Asked Names
sets_mode tree path = do
  node ← walk tree path
  Ok path

module _ {A B : Type 0} (read : A → B) where
  pub is_dir_body-viewed : (body : Body A) → is_dir_body (viewed_body read body) ≡ is_dir_body body
  is_dir_body-viewed (File file) = refl
  is_dir_body-viewed Dir = refl

  pub node_at-viewed : (tree : Tree A) (path : Names) → node_at (viewed_tree read tree) path ≡ option_map (viewed_node read) (node_at tree path)
  node_at-viewed [] path = refl
  node_at-viewed (place ∷ tree) path =
      elim (eq_by_cmp path_cmp path place.0) as (λ b. cond b (Some (viewed_node read place.1)) (node_at (viewed_tree read tree) path) ≡ option_map (viewed_node read) (cond b (Some place.1) (node_at tree path))) [
        | true ↦ refl
        | false ↦ node_at-viewed tree path
      ]

  passes-viewed : (node : Option (Node A)) → passes (option_map (viewed_node read) node) ≡ passes node
  passes-viewed None = refl
  passes-viewed (Some node) = ap (λ b. cond b (Ok tt) (Err NotDir)) (is_dir_body-viewed node.body)

  walks_from-viewed : (tree : Tree A) (here path : Names) → walks_from (viewed_tree read tree) here path ≡ walks_from tree here path
  walks_from-viewed tree here [] = refl
  walks_from-viewed tree here (name ∷ path) =
      ap (λ (w : Asked (Unit {0})). passes (node_at (viewed_tree read tree) here) >>= λ _. w) (walks_from-viewed tree (here ++ name ∷ []) path)
      ∙ ap (λ (p : Asked (Unit {0})). p >>= λ _. walks_from tree (here ++ name ∷ []) path) (ap passes (node_at-viewed tree here) ∙ passes-viewed (node_at tree here))

  pub is_some-viewed : (node : Option (Node A)) → is_some (option_map (viewed_node read) node) ≡ is_some node
  is_some-viewed None = refl
  is_some-viewed (Some node) = refl

  -- a node, read
  abbrev pub viewed_found : Asked (Node A) → Asked (Node B)
  viewed_found (Ok node) = Ok (viewed_node read node)
  viewed_found (Err why) = Err why

  found-viewed : (node : Option (Node A)) → found (option_map (viewed_node read) node) ≡ viewed_found (found node)
  found-viewed None = refl
  found-viewed (Some node) = refl

  then-viewed : (w : Asked (Unit {0})) (node : Asked (Node A)) → (w >>= λ _. viewed_found node) ≡ viewed_found (w >>= λ _. node)
  then-viewed (Ok u) node = refl
  then-viewed (Err why) node = refl

  pub walk-viewed : (tree : Tree A) (path : Names) → walk (viewed_tree read tree) path ≡ viewed_found (walk tree path)
  walk-viewed tree path =
      ap (λ (w : Asked (Unit {0})). w >>= λ _. found (node_at (viewed_tree read tree) path)) (walks_from-viewed tree [] path)
      ∙ ap (λ (n : Asked (Node B)). walks_above tree path >>= λ _. n) (ap found (node_at-viewed tree path) ∙ found-viewed (node_at tree path))
      ∙ then-viewed (walks_above tree path) (found (node_at tree path))

  -- what is asked of a node's id doesn't depend on how files are kept
  id-viewed : {X : Type 0} (f : InodeId → Asked X) (node : Asked (Node A)) → (viewed_found node >>= λ n. f n.id) ≡ (node >>= λ n. f n.id)
  id-viewed f (Ok node) = refl
  id-viewed f (Err why) = refl

  if_snapshottable-viewed : (state : State A) (node : Option (Node A)) → if_snapshottable (viewed read state) (option_map (viewed_node read) node) ≡ if_snapshottable state node
  if_snapshottable-viewed state None = refl
  if_snapshottable-viewed state (Some node) = refl

  snapshot_root-viewed : (state : State A) (base : Names) → snapshot_root (viewed read state) base ≡ snapshot_root state base
  snapshot_root-viewed state base = ap (if_snapshottable (viewed read state)) (node_at-viewed state.tree base) ∙ if_snapshottable-viewed state (node_at state.tree base)

  abbrev pub viewed_named : Asked (Member A) → Asked (Member B)
  viewed_named (Ok member) = Ok (viewed_member read member)
  viewed_named (Err why) = Err why

  member_named-viewed : (members : List (Member A)) (dir : InodeId) (name : List ℕ) → member_named (map (viewed_member read) members) dir name ≡ viewed_named (member_named members dir name)
  member_named-viewed [] dir name = refl
  member_named-viewed (m ∷ ms) dir name =
      elim (same_inode m.directory dir && bytes_eq m.name name) as (λ b. cond b (Ok (viewed_member read m)) (member_named (map (viewed_member read) ms) dir name) ≡ viewed_named (cond b (Ok m) (member_named ms dir name))) [
        | true ↦ refl
        | false ↦ member_named-viewed ms dir name
      ]

  pub member_with-viewed : (members : List (Member A)) (snapshot : SnapId) → member_with (map (viewed_member read) members) snapshot ≡ viewed_named (member_with members snapshot)
  member_with-viewed [] snapshot = refl
  member_with-viewed (m ∷ ms) snapshot =
      elim (m.snapshot.0 == snapshot.0) as (λ b. cond b (Ok (viewed_member read m)) (member_with (map (viewed_member read) ms) snapshot) ≡ viewed_named (cond b (Ok m) (member_with ms snapshot))) [
        | true ↦ refl
        | false ↦ member_with-viewed ms snapshot
      ]

  below-viewed : (rest : Names) (member : Asked (Member A)) → (viewed_named member >>= frozen_at rest) ≡ (member >>= frozen_at rest)
  below-viewed rest (Err why) = refl
  below-viewed rest (Ok m) =
      ap (λ (w : Asked (Node B)). w >>= λ node. Ok (places.Frozen node.id m.snapshot)) (walk-viewed m.tree rest)
      ∙ id-viewed (λ id. Ok (places.Frozen id m.snapshot)) (walk m.tree rest)

  resolve_tail-viewed : (state : State A) (base : Names) (tail : PathTail) → resolve_tail (viewed read state) base tail ≡ resolve_tail state base tail
  resolve_tail-viewed state base Plain =
      ap (λ (w : Asked (Node B)). w >>= λ node. Ok (places.Live node.id)) (walk-viewed state.tree base) ∙ id-viewed (λ id. Ok (places.Live id)) (walk state.tree base)
  resolve_tail-viewed state base SnapshotList = ap (λ (d : Asked InodeId). d >>= λ dir. Ok (places.SnapshotsOf dir)) (snapshot_root-viewed state base)
  resolve_tail-viewed state base (Frozen snapshot rest) =
      ap (λ (d : Asked InodeId). d >>= λ dir. (member_named (map (viewed_member read) state.members) dir snapshot >>= frozen_at rest)) (snapshot_root-viewed state base)
      ∙ then-same (snapshot_root state base) (λ dir. member_named (map (viewed_member read) state.members) dir snapshot >>= frozen_at rest) (λ dir. member_named state.members dir snapshot >>= frozen_at rest)
      (λ dir. ap (λ (m : Asked (Member B)). m >>= frozen_at rest) (member_named-viewed state.members dir snapshot) ∙ below-viewed rest (member_named state.members dir snapshot))

  pub resolve-viewed : (state : State A) (path : Path) → resolve (viewed read state) path ≡ resolve state path
  resolve-viewed state path = resolve_tail-viewed state path.base path.tail

  item-viewed : (node : Node A) (name : Option (List ℕ)) → named_item (viewed_node read node) name ≡ named_item node name
  item-viewed node None = refl
  item-viewed node (Some name) = ap (λ b. Some (record { name = name; id = node.id; is_dir = b })) (is_dir_body-viewed node.body)

  pub listing-viewed : (tree : Tree A) (dir : Names) → listing (viewed_tree read tree) dir ≡ listing tree dir
  listing-viewed [] dir = refl
  listing-viewed (place ∷ tree) dir =
      ap (λ (o : Option Item). cons_option o (listing (viewed_tree read tree) dir)) (item-viewed place.1 (name_below dir place.0))
      ∙ ap (cons_option (child_item dir place)) (listing-viewed tree dir)

  pub place_of-viewed : (tree : Tree A) (id : InodeId) → place_of (viewed_tree read tree) id ≡ option_map (viewed_place read) (place_of tree id)
  place_of-viewed [] id = refl
  place_of-viewed (place ∷ tree) id =
      elim (same_inode place.1.id id) as (λ b. cond b (Some (viewed_place read place)) (place_of (viewed_tree read tree) id) ≡ option_map (viewed_place read) (cond b (Some place) (place_of tree id))) [
        | true ↦ refl
        | false ↦ place_of-viewed tree id
      ]

  items_of-viewed : (tree : Tree A) (place : Option (Names × Node A)) → items_of (viewed_tree read tree) (option_map (viewed_place read) place) ≡ items_of tree place
  items_of-viewed tree None = refl
  items_of-viewed tree (Some place) =
      ap (λ b. cond b (Ok (listing (viewed_tree read tree) place.0)) (Err NotDir)) (is_dir_body-viewed place.1.body)
      ∙ ap (λ (items : List Item). cond (is_dir place.1) (Ok items) (Err NotDir)) (listing-viewed tree place.0)

  directory-viewed : (tree : Tree A) (id : InodeId) → items_of (viewed_tree read tree) (place_of (viewed_tree read tree) id) ≡ items_of tree (place_of tree id)
  directory-viewed tree id = ap (items_of (viewed_tree read tree)) (place_of-viewed tree id) ∙ items_of-viewed tree (place_of tree id)

  snapshot_items-viewed : (members : List (Member A)) (dir : InodeId) → snapshot_items (map (viewed_member read) members) dir ≡ snapshot_items members dir
  snapshot_items-viewed [] dir = refl
  snapshot_items-viewed (m ∷ ms) dir =
      elim (same_inode m.directory dir) as (λ b. cond b (with_item (record { name = m.name; id = dir; is_dir = true }) (snapshot_items (map (viewed_member read) ms) dir)) (snapshot_items (map (viewed_member read) ms) dir)
      ≡ cond b (with_item (record { name = m.name; id = dir; is_dir = true }) (snapshot_items ms dir)) (snapshot_items ms dir)) [
        | true ↦ ap (with_item (record { name = m.name; id = dir; is_dir = true })) (snapshot_items-viewed ms dir)
        | false ↦ snapshot_items-viewed ms dir
      ]

  frozen-viewed : (id : InodeId) (member : Asked (Member A)) → (viewed_named member >>= λ m. items_of m.tree (place_of m.tree id)) ≡ (member >>= λ m. items_of m.tree (place_of m.tree id))
  frozen-viewed id (Err why) = refl
  frozen-viewed id (Ok m) = directory-viewed m.tree id

  pub items_at-viewed : (state : State A) (place : Place) → items_at (viewed read state) place ≡ items_at state place
  items_at-viewed state (places.Live id) = directory-viewed state.tree id
  items_at-viewed state (places.Frozen id snapshot) =
      ap (λ (member : Asked (Member B)). member >>= λ m. items_of m.tree (place_of m.tree id)) (member_with-viewed state.members snapshot) ∙ frozen-viewed id (member_with state.members snapshot)
  items_at-viewed state (places.SnapshotsOf dir) = ap (λ (items : List Item). cond (is_snapshottable state dir) (Ok items) (Err NotFound)) (snapshot_items-viewed state.members dir)

  -- ---- modifying calls

  -- tests that ask whether a node is there, and no more
  seen-viewed : {X : Type 0} (node : Asked (Node A)) (next : Asked X) → (viewed_found node >>= λ _. next) ≡ (node >>= λ _. next)
  seen-viewed (Ok node) next = refl
  seen-viewed (Err why) next = refl

  seen_walk-viewed : {X : Type 0} (tree : Tree A) (path : Names) (next : Asked X) → (walk (viewed_tree read tree) path >>= λ _. next) ≡ (walk tree path >>= λ _. next)
  seen_walk-viewed tree path next = ap (λ (w : Asked (Node B)). w >>= λ _. next) (walk-viewed tree path) ∙ seen-viewed (walk tree path) next

  both-viewed : {X : Type 0} (node : Asked (Node A)) (above : Asked (Unit {0})) (next : Asked X) → (both (viewed_found node) above >>= λ _. next) ≡ (both node above >>= λ _. next)
  both-viewed (Ok node) (Ok above) next = refl
  both-viewed (Ok node) (Err why) next = refl
  both-viewed (Err why) (Ok above) next = refl
  both-viewed (Err why) (Err other) next = refl

  both_walks-viewed : {X : Type 0} (tree : Tree A) (old new : Names) (next : Asked X) →
      (both (walk (viewed_tree read tree) old) (walks_above (viewed_tree read tree) new) >>= λ _. next) ≡ (both (walk tree old) (walks_above tree new) >>= λ _. next)
  both_walks-viewed tree old new next =
      ap (λ (w : Asked (Node B)). both w (walks_above (viewed_tree read tree) new) >>= λ _. next) (walk-viewed tree old)
      ∙ ap (λ (w : Asked (Unit {0})). both (viewed_found (walk tree old)) w >>= λ _. next) (walks_from-viewed tree [] new)
      ∙ both-viewed (walk tree old) (walks_above tree new) next

  taken-viewed : (tree : Tree A) (path : Names) → is_some (node_at (viewed_tree read tree) path) ≡ is_some (node_at tree path)
  taken-viewed tree path = ap is_some (node_at-viewed tree path) ∙ is_some-viewed (node_at tree path)

  takes_place_of-viewed : (over : Bool) (node : Option (Node A)) → takes_place_of over (option_map (viewed_node read) node) ≡ takes_place_of over node
  takes_place_of-viewed over None = refl
  takes_place_of-viewed false (Some node) = refl
  takes_place_of-viewed true (Some node) = ap (λ b. refuse_if b NotFile) (is_dir_body-viewed node.body)

  makes-viewed : (tree : Tree A) (path : Names) → makes (viewed_tree read tree) path ≡ makes tree path
  makes-viewed tree path =
      ap (λ (w : Asked (Unit {0})). w >>= λ _. (refuse_if (is_some (node_at (viewed_tree read tree) path)) Exists >>= λ _. Ok path)) (walks_from-viewed tree [] path)
      ∙ ap (λ b. walks_above tree path >>= λ _. (refuse_if b Exists >>= λ _. Ok path)) (taken-viewed tree path)

  pub mkdir_at-viewed : (state : State A) (text : List ℕ) → mkdir_at (viewed read state) text ≡ mkdir_at state text
  mkdir_at-viewed state text = then-same (live_path text) (makes (viewed_tree read state.tree)) (makes state.tree) (makes-viewed state.tree)

  creates-viewed : (tree : Tree A) (over : Bool) (path : Names) → creates (viewed_tree read tree) over path ≡ creates tree over path
  creates-viewed tree over path =
      ap (λ (w : Asked (Unit {0})). w >>= λ _. (takes_place_of over (node_at (viewed_tree read tree) path) >>= λ _. Ok path)) (walks_from-viewed tree [] path)
      ∙ ap (λ (t : Asked (Unit {0})). walks_above tree path >>= λ _. (t >>= λ _. Ok path)) (ap (takes_place_of over) (node_at-viewed tree path) ∙ takes_place_of-viewed over (node_at tree path))

  pub create_at-viewed : (state : State A) (text : List ℕ) (over : Bool) → create_at (viewed read state) text over ≡ create_at state text over
  create_at-viewed state text over = then-same (live_path text) (creates (viewed_tree read state.tree) over) (creates state.tree over) (creates-viewed state.tree over)

  file_in-viewed : (body : Body A) → file_in (viewed_body read body) ≡ mapped read (file_in body)
  file_in-viewed (File file) = refl
  file_in-viewed Dir = refl

  -- a file that gets bytes, read
  abbrev pub viewed_file : Names × Node A × A → Names × Node B × B
  viewed_file at = (at.0, viewed_node read at.1, read at.2)

  filled-viewed : (path : Names) (node : Node A) (file : Asked A) → (mapped read file >>= λ f. Ok (path, viewed_node read node, f)) ≡ mapped viewed_file (file >>= λ f. Ok (path, node, f))
  filled-viewed path node (Ok file) = refl
  filled-viewed path node (Err why) = refl

  appends_to-viewed : (path : Names) (node : Asked (Node A)) → (viewed_found node >>= λ n. (file_in n.body >>= λ f. Ok (path, n, f))) ≡ mapped viewed_file (node >>= λ n. (file_in n.body >>= λ f. Ok (path, n, f)))
  appends_to-viewed path (Ok node) = ap (λ (file : Asked B). file >>= λ f. Ok (path, viewed_node read node, f)) (file_in-viewed node.body) ∙ filled-viewed path node (file_in node.body)
  appends_to-viewed path (Err why) = refl

  pub append_at-viewed : (state : State A) (text : List ℕ) → append_at (viewed read state) text ≡ mapped viewed_file (append_at state text)
  append_at-viewed state text =
      then-mapped (live_path text) (appends state.tree) (appends (viewed_tree read state.tree)) viewed_file
      (λ path. ap (λ (w : Asked (Node B)). w >>= λ n. (file_in n.body >>= λ f. Ok (path, n, f))) (walk-viewed state.tree path) ∙ appends_to-viewed path (walk state.tree path))

  -- ---- snapshottable directories and snapshots at places

  pub any-viewed : (f : Names × Node B → Bool) (g : Names × Node A → Bool) → ((place : Names × Node A) → f (viewed_place read place) ≡ g place) → (tree : Tree A) → list_any f (viewed_tree read tree) ≡ list_any g tree
  any-viewed f g same [] = refl
  any-viewed f g same (place ∷ tree) = ap (λ b. b || list_any f (viewed_tree read tree)) (same place) ∙ ap (λ b. g place || b) (any-viewed f g same tree)

  pub has_snapshots-viewed : (members : List (Member A)) (dir : InodeId) → list_any (λ (member : Member B). same_inode member.directory dir) (map (viewed_member read) members) ≡ list_any (λ (member : Member A). same_inode member.directory dir) members
  has_snapshots-viewed [] dir = refl
  has_snapshots-viewed (member ∷ members) dir = ap (λ b. same_inode member.directory dir || b) (has_snapshots-viewed members dir)

  holds_snapshots-viewed : (state : State A) (path : Names) → holds_snapshots (viewed read state) path ≡ holds_snapshots state path
  holds_snapshots-viewed state path =
      any-viewed (λ place. has_snapshots (viewed read state) place.1.id && is_under path place) (λ place. has_snapshots state place.1.id && is_under path place)
      (λ place. ap (λ b. b && is_under path place) (has_snapshots-viewed state.members place.1.id)) state.tree

  would_nest-viewed : (state : State A) (old new : Names) → would_nest (viewed read state) old new ≡ would_nest state old new
  would_nest-viewed state old new =
      ap (λ b. b && is_in_snapshottable (viewed read state) new)
      (any-viewed (λ place. is_snapshottable (viewed read state) place.1.id && is_under old place) (λ place. is_snapshottable state place.1.id && is_under old place) (λ place. refl) state.tree)
      ∙ ap (λ b. holds_snapshottable state old && b)
      (any-viewed (λ place. is_snapshottable (viewed read state) place.1.id && is_above place.0 new) (λ place. is_snapshottable state place.1.id && is_above place.0 new) (λ place. refl) state.tree)

  deletes-viewed : (state : State A) (recursive : Bool) (path : Names) → deletes (viewed read state) recursive path ≡ deletes state recursive path
  deletes-viewed state recursive path =
      seen_walk-viewed state.tree path (refuse_if (is_root_path path) IsRoot >>= λ _. (refuse_if (spares_children (viewed_tree read state.tree) path recursive) NotEmpty >>= λ _. (refuse_if (holds_snapshots (viewed read state) path) HasSnapshots >>= λ _. Ok path)))
      ∙ ap (λ n. walk state.tree path >>= λ _. (refuse_if (is_root_path path) IsRoot >>= λ _. (refuse_if (not recursive && nat_lt 0 n) NotEmpty >>= λ _. (refuse_if (holds_snapshots (viewed read state) path) HasSnapshots >>= λ _. Ok path)))) (ap length (listing-viewed state.tree path))
      ∙ ap (λ b. walk state.tree path >>= λ _. (refuse_if (is_root_path path) IsRoot >>= λ _. (refuse_if (spares_children state.tree path recursive) NotEmpty >>= λ _. (refuse_if b HasSnapshots >>= λ _. Ok path)))) (holds_snapshots-viewed state path)

  pub delete_at-viewed : (state : State A) (text : List ℕ) (recursive : Bool) → delete_at (viewed read state) text recursive ≡ delete_at state text recursive
  delete_at-viewed state text recursive = then-same (live_path text) (deletes (viewed read state) recursive) (deletes state recursive) (deletes-viewed state recursive)

  -- the tests of a move behind its walks
  abbrev rest_of_move : Names → Names → Bool → Bool → Bool → Asked (Unit {0})
  rest_of_move old new taken held nested =
      refuse_if taken Exists >>= λ _. (refuse_if (is_root_path old) IsRoot >>= λ _. (refuse_if held HasSnapshots >>= λ _. (refuse_if (is_above old new) IntoItself >>= λ _. refuse_if nested Nested)))

  may_move-viewed : (state : State A) (old new : Names) → may_move (viewed read state) old new ≡ may_move state old new
  may_move-viewed state old new =
      let walks = both (walk state.tree old) (walks_above state.tree new) in
      both_walks-viewed state.tree old new (rest_of_move old new (is_some (node_at (viewed_tree read state.tree) new)) (holds_snapshots (viewed read state) old) (would_nest (viewed read state) old new))
      ∙ ap (λ b. walks >>= λ _. rest_of_move old new b (holds_snapshots (viewed read state) old) (would_nest (viewed read state) old new)) (taken-viewed state.tree new)
      ∙ ap (λ b. walks >>= λ _. rest_of_move old new (is_some (node_at state.tree new)) b (would_nest (viewed read state) old new)) (holds_snapshots-viewed state old)
      ∙ ap (λ b. walks >>= λ _. rest_of_move old new (is_some (node_at state.tree new)) (holds_snapshots state old) b) (would_nest-viewed state old new)

  pub rename_at-viewed : (state : State A) (old new : List ℕ) → rename_at (viewed read state) old new ≡ rename_at state old new
  rename_at-viewed state old new =
      then-same (both (live_path old) (live_path new)) (moves (viewed read state)) (moves state) (λ paths. ap (λ (apart : Asked (Unit {0})). apart >>= λ _. Ok paths) (may_move-viewed state paths.0 paths.1))

  pub set_mode_at-viewed : (state : State A) (text : List ℕ) → set_mode_at (viewed read state) text ≡ set_mode_at state text
  set_mode_at-viewed state text = then-same (live_path text) (sets_mode (viewed_tree read state.tree)) (sets_mode state.tree) (λ path. seen_walk-viewed state.tree path (Ok path))

  -- ---- reading calls

  -- what is asked of the place at a path
  pub at_place-viewed : {X : Type 0} (state : State A) (text : List ℕ) (f g : Place → Asked X) → ((place : Place) → f place ≡ g place) → (path_of text >>= λ path. (resolve (viewed read state) path >>= f)) ≡ (path_of text >>= λ path. (resolve state path >>= g))
  at_place-viewed state text f g same =
      then-same (path_of text) (λ path. resolve (viewed read state) path >>= f) (λ path. resolve state path >>= g)
      (λ path. ap (λ (place : Asked Place). place >>= f) (resolve-viewed state path) ∙ then-same (resolve state path) f g same)

  pub list_reply-viewed : (state : State A) (text : List ℕ) (size : ℕ) → list_reply (viewed read state) text size ≡ list_reply state text size
  list_reply-viewed state text size =
      at_place-viewed state text (λ place. items_at (viewed read state) place >>= λ items. Ok (page_of place items None size)) (λ place. items_at state place >>= λ items. Ok (page_of place items None size))
      (λ place. ap (λ (items : Asked (List Item)). items >>= λ xs. Ok (page_of place xs None size)) (items_at-viewed state place))

  pub snapshots_of-viewed : (members : List (Member A)) (dir : InodeId) → snapshots_of (map (viewed_member read) members) dir ≡ snapshots_of members dir
  snapshots_of-viewed members dir = fold-map (λ n (m : Member B). n + cond (same_inode m.directory dir) 1 0) (viewed_member read) 0 members

  list_stat-viewed : (snapshots : ℕ) (place : Option (Names × Node A)) → list_stat snapshots (option_map (viewed_place read) place) ≡ list_stat snapshots place
  list_stat-viewed snapshots None = refl
  list_stat-viewed snapshots (Some place) = refl

  snapshots_stat-viewed : (state : State A) (dir : InodeId) → list_stat (snapshots_of (map (viewed_member read) state.members) dir) (place_of (viewed_tree read state.tree) dir) ≡ list_stat (snapshots_of state.members dir) (place_of state.tree dir)
  snapshots_stat-viewed state dir =
      ap (λ n. list_stat n (place_of (viewed_tree read state.tree) dir)) (snapshots_of-viewed state.members dir)
      ∙ ap (list_stat (snapshots_of state.members dir)) (place_of-viewed state.tree dir)
      ∙ list_stat-viewed (snapshots_of state.members dir) (place_of state.tree dir)

  -- ---- reads of a file

  file_there-viewed : (place : Option (Names × Node A)) → file_there (option_map (viewed_place read) place) ≡ mapped read (file_there place)
  file_there-viewed None = refl
  file_there-viewed (Some place) = file_in-viewed place.1.body

  file_of-viewed : (tree : Tree A) (id : InodeId) → file_there (place_of (viewed_tree read tree) id) ≡ mapped read (file_there (place_of tree id))
  file_of-viewed tree id = ap file_there (place_of-viewed tree id) ∙ file_there-viewed (place_of tree id)

  frozen_file-viewed : (id : InodeId) (member : Asked (Member A)) → (viewed_named member >>= λ m. file_there (place_of m.tree id)) ≡ mapped read (member >>= λ m. file_there (place_of m.tree id))
  frozen_file-viewed id (Err why) = refl
  frozen_file-viewed id (Ok m) = file_of-viewed m.tree id

  file_at-viewed : (state : State A) (place : Place) → file_at (viewed read state) place ≡ mapped read (file_at state place)
  file_at-viewed state (places.Live id) = file_of-viewed state.tree id
  file_at-viewed state (places.Frozen id snapshot) =
      ap (λ (member : Asked (Member B)). member >>= λ m. file_there (place_of m.tree id)) (member_with-viewed state.members snapshot) ∙ frozen_file-viewed id (member_with state.members snapshot)
  file_at-viewed state (places.SnapshotsOf dir) =
      elim (is_snapshottable state dir) as (λ b. cond {A = Asked B} b (Err NotFile) (Err NotFound) ≡ mapped read (cond {A = Asked A} b (Err NotFile) (Err NotFound))) [ true ↦ refl | false ↦ refl ]

  -- a file with its place, read
  abbrev pub viewed_at : Place × A → Place × B
  viewed_at at = (at.0, read at.1)

  placed-viewed : (place : Place) (file : Asked A) → (mapped read file >>= λ f. Ok (place, f)) ≡ mapped viewed_at (file >>= λ f. Ok (place, f))
  placed-viewed place (Ok file) = refl
  placed-viewed place (Err why) = refl

  at_place_file-viewed : (state : State A) (place : Place) → (file_at (viewed read state) place >>= λ f. Ok (place, f)) ≡ mapped viewed_at (file_at state place >>= λ f. Ok (place, f))
  at_place_file-viewed state place = ap (λ (file : Asked B). file >>= λ f. Ok (place, f)) (file_at-viewed state place) ∙ placed-viewed place (file_at state place)

  pub found_file-viewed : (state : State A) (text : List ℕ) → found_file (viewed read state) text ≡ mapped viewed_at (found_file state text)
  found_file-viewed state text =
      then-mapped (path_of text) (λ path. resolve state path >>= λ place. (file_at state place >>= λ f. Ok (place, f))) (λ path. resolve (viewed read state) path >>= λ place. (file_at (viewed read state) place >>= λ f. Ok (place, f))) viewed_at
      (λ path. ap (λ (at : Asked Place). at >>= λ place. (file_at (viewed read state) place >>= λ f. Ok (place, f))) (resolve-viewed state path)
      ∙ then-mapped (resolve state path) (λ place. file_at state place >>= λ f. Ok (place, f)) (λ place. file_at (viewed read state) place >>= λ f. Ok (place, f)) viewed_at (at_place_file-viewed state))

  pub is_live-viewed : (members : List (Member A)) (snapshot : SnapId) → is_live (map (viewed_member read) members) snapshot ≡ is_live members snapshot
  is_live-viewed [] snapshot = refl
  is_live-viewed (m ∷ ms) snapshot = ap (λ b. (m.snapshot.0 == snapshot.0) || b) (is_live-viewed ms snapshot)

  pub is_gone-viewed : (state : State A) (place : Place) → is_gone (viewed read state) place ≡ is_gone state place
  is_gone-viewed state (places.Live id) = refl
  is_gone-viewed state (places.Frozen id snapshot) = ap (λ b. not (snapshot.0 == 0) && not b) (is_live-viewed state.members snapshot)
  is_gone-viewed state (places.SnapshotsOf dir) = refl

  pub next_file-viewed : (state : State A) (place : Place) → next_file (viewed read state) place ≡ mapped viewed_at (next_file state place)
  next_file-viewed state place =
      ap (λ b. refuse_if b Gone >>= λ _. (file_at (viewed read state) place >>= λ f. Ok (place, f))) (is_gone-viewed state place)
      ∙ then-mapped (refuse_if (is_gone state place) Gone) (λ _. file_at state place >>= λ f. Ok (place, f)) (λ _. file_at (viewed read state) place >>= λ f. Ok (place, f)) viewed_at (λ _. at_place_file-viewed state place)

-- ---- reads

-- a page of a file that is read in another way, seen in that way
module _ {A B : Type 0} (read : A → B) (fa : Files A) (fb : Files B) (seen : Reply → Reply) (pages : (offset len : ℕ) (place : Place) (file : A) → page_at fb offset len (place, read file) ≡ seen (page_at fa offset len (place, file))) where
  paged-viewed : (offset len : ℕ) (at : Asked (Place × A)) → (mapped (viewed_at read) at >>= λ a. Ok (page_at fb offset len a)) ≡ mapped seen (at >>= λ a. Ok (page_at fa offset len a))
  paged-viewed offset len (Ok at) = ap (λ reply. Ok reply) (pages offset len at.0 at.1)
  paged-viewed offset len (Err why) = refl

  read_reply-viewed : (state : State A) (text : List ℕ) (offset len : ℕ) → read_reply fb (viewed read state) text offset len ≡ mapped seen (read_reply fa state text offset len)
  read_reply-viewed state text offset len =
      ap (λ (at : Asked (Place × B)). at >>= λ a. Ok (page_at fb offset len a)) (found_file-viewed read state text) ∙ paged-viewed offset len (found_file state text)

  next_reply-viewed : (state : State A) (cursor : ReadCursor) (len : ℕ) → next_reply fb (viewed read state) cursor len ≡ mapped seen (next_reply fa state cursor len)
  next_reply-viewed state cursor len =
      ap (λ (at : Asked (Place × B)). at >>= λ a. Ok (page_at fb cursor.offset len a)) (next_file-viewed read state cursor.place) ∙ paged-viewed cursor.offset len (next_file state cursor.place)

  pub read-viewed : (state : State A) (call : Call) → is_modifying call ≡ false → uses_store call ≡ true → asked fb (viewed read state) call ≡ mapped seen (asked fa state call)
  read-viewed state (calls.Mkdir path) reads uses = absurd (cc)
  read-viewed state (calls.Create path over) reads uses = absurd (cc)
  read-viewed state (calls.Append path bytes) reads uses = absurd (cc)
  read-viewed state (calls.Delete path recursive) reads uses = absurd (cc)
  read-viewed state (calls.Rename old new) reads uses = absurd (cc)
  read-viewed state (calls.SetMode path mode) reads uses = absurd (cc)
  read-viewed state (calls.Read path offset len) reads uses = read_reply-viewed state path offset len
  read-viewed state (calls.ReadNext cursor len) reads uses = next_reply-viewed state cursor len
  read-viewed state (calls.Stat path) reads uses = absurd (cc)
  read-viewed state (calls.List path size) reads uses = absurd (cc)
  read-viewed state (calls.Allow path) reads uses = absurd (cc)
  read-viewed state (calls.Disallow path) reads uses = absurd (cc)
  read-viewed state (calls.Snap path name) reads uses = absurd (cc)
  read-viewed state (calls.SnapDel path name) reads uses = absurd (cc)
  read-viewed state (calls.SnapRen path old new) reads uses = absurd (cc)
  read-viewed state (calls.ListNext cursor size) reads uses = absurd (cc)
  read-viewed state (calls.Snaps path) reads uses = absurd (cc)
  read-viewed state calls.Dirs reads uses = absurd (cc)
  read-viewed state (calls.Report path from to size) reads uses = absurd (cc)
  read-viewed state (calls.ReportNext cursor size) reads uses = absurd (cc)

-- ---- answers

module _ {A B : Type 0} (read : A → B) (fa : Files A) (fb : Files B) (sizes : (file : A) → fb.size (read file) ≡ fa.size file) where
  pub size_of-viewed : (tree : Tree A) (path : Names) (body : Body A) → size_of fb.size (viewed_tree read tree) path (viewed_body read body) ≡ size_of fa.size tree path body
  size_of-viewed tree path (File file) = sizes file
  size_of-viewed tree path Dir = ap length (listing-viewed read tree path)

  node_stat-viewed : (tree : Tree A) (place : Option (Names × Node A)) → node_stat fb (viewed_tree read tree) (option_map (viewed_place read) place) ≡ node_stat fa tree place
  node_stat-viewed tree None = refl
  node_stat-viewed tree (Some place) =
      let told : Bool → ℕ → Asked Reply = λ is_dir size. Ok (replies.Stat place.1.id is_dir place.1.mode place.1.stamp size) in
      ap (λ b. told b (size_of fb.size (viewed_tree read tree) place.0 (viewed_body read place.1.body))) (is_dir_body-viewed read place.1.body)
      ∙ ap (told (is_dir place.1)) (size_of-viewed tree place.0 place.1.body)

  stat_of-viewed : (tree : Tree A) (id : InodeId) → node_stat fb (viewed_tree read tree) (place_of (viewed_tree read tree) id) ≡ node_stat fa tree (place_of tree id)
  stat_of-viewed tree id = ap (node_stat fb (viewed_tree read tree)) (place_of-viewed read tree id) ∙ node_stat-viewed tree (place_of tree id)

  frozen_stat-viewed : (id : InodeId) (member : Asked (Member A)) → (viewed_named read member >>= λ m. node_stat fb m.tree (place_of m.tree id)) ≡ (member >>= λ m. node_stat fa m.tree (place_of m.tree id))
  frozen_stat-viewed id (Err why) = refl
  frozen_stat-viewed id (Ok m) = stat_of-viewed m.tree id

  stat_at-viewed : (state : State A) (place : Place) → stat_at fb (viewed read state) place ≡ stat_at fa state place
  stat_at-viewed state (places.Live id) = stat_of-viewed state.tree id
  stat_at-viewed state (places.Frozen id snapshot) =
      ap (λ (member : Asked (Member B)). member >>= λ m. node_stat fb m.tree (place_of m.tree id)) (member_with-viewed read state.members snapshot) ∙ frozen_stat-viewed id (member_with state.members snapshot)
  stat_at-viewed state (places.SnapshotsOf dir) = snapshots_stat-viewed read state dir

  pub stat_reply-viewed : (state : State A) (text : List ℕ) → stat_reply fb (viewed read state) text ≡ stat_reply fa state text
  stat_reply-viewed state text = at_place-viewed read state text (stat_at fb (viewed read state)) (stat_at fa state) (stat_at-viewed state)
