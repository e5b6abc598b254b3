-- The plain machine gives none of the refusals of a store or a journal: test by test.
use Rattle.std.proofs.Common.{◌≡◌, ℕ, not, Bool, true, false, cond, ◌&&◌, ◌||◌, ◌==◌, nat_lt, nat_le, Option, Some, None, Ok, Err, List, [], ◌∷◌, ◌++◌, refl, ap, sym, ◌∙◌}
use Rattle.std.specs.Prelude.{bytes_eq, is_some}
use Rattle.hs_types.specs.Names.{Names, is_name}
use Rattle.hs_types.specs.Paths.{components, is_bad_path, is_too_long, is_too_deep, path_of}
use Rattle.hs_types.specs.Limits.{snapshot_limit}
use Rattle.hs_types.specs.Refusals.{number_of}
use Rattle.hs_types.specs.declared.ids.InodeId.{InodeId}
use Rattle.hs_types.specs.declared.ids.SnapId.{SnapId}
use Rattle.hs_types.specs.declared.path.PathTail.{PathTail}
use Rattle.hs_types.specs.declared.path.PathTail.TheVariants.{Plain, SnapshotList, Frozen}
use Rattle.hs_types.specs.declared.refusal.Refusal.{Refusal}
use Rattle.hs_types.specs.declared.refusal.Refusal.TheVariants as refusals
use Rattle.hs_types.specs.declared.reply.Reply.{Reply}
use Rattle.hs_types.specs.declared.reply.Reply.TheVariants as replies
use Rattle.hs_types.specs.declared.call.Call.{Call}
use Rattle.hs_types.specs.declared.call.Call.TheVariants as calls
use Rattle.hs_types.specs.declared.call.Place.{Place}
use Rattle.hs_types.specs.declared.call.Place.TheVariants as places
use Rattle.hs_types.specs.declared.call.Point.{Point}
use Rattle.hs_types.specs.declared.call.Point.TheVariants.{Snapshot, Now}
use Rattle.hs_types.specs.declared.call.ListCursor.{ListCursor}
use Rattle.hs_types.specs.declared.call.ReadCursor.{ReadCursor}
use Rattle.hs_types.specs.declared.call.ReportCursor.{ReportCursor}
use Rattle.hs_plain.specs.declared.state.Node.{Node}
use Rattle.hs_plain.specs.declared.state.Body.{Body}
use Rattle.hs_plain.specs.declared.state.Body.TheVariants.{File, Dir}
use Rattle.hs_plain.specs.declared.state.Member.{Member}
use Rattle.hs_plain.specs.declared.state.State.{State}
use Rattle.hs_plain.specs.Asked.{Asked, ◌>>=◌, refuse_if, both}
use Rattle.hs_plain.specs.Files.{Files, plain_files, block_files}
use Rattle.hs_plain.specs.Tree.{Tree, node_at, is_root_path, is_above, passes, walks_from, walks_above, found, walk, is_dir, same_inode, place_of}
use Rattle.hs_plain.specs.State.{has_snapshots, holds_snapshots, has_snapshot_named, snapshots_of, meets_snapshottable, is_snapshottable, if_snapshottable, snapshot_root, member_named, member_with, resolve_tail, resolve, items_of, items_at, is_named, snapshot_named, plain_base, plain_of}
use Rattle.hs_plain.specs.Modifying.{spares_children, would_nest, live_path, mkdir_at, takes_place_of, create_at, file_in, append_at, delete_at, may_move, rename_at, set_mode_at}
use Rattle.hs_plain.specs.Snapshotting.{directory_at, allow_at, disallow_at, snap_at, snap_del_at, snap_ren_at}
use Rattle.hs_plain.specs.Reading.{is_deleted, is_gone, is_foreign, began_at, has_moved, list_reply, list_next_reply, node_stat, list_stat, stat_at, stat_reply, file_there, file_at, found_file, read_reply, next_file, next_reply, directory_there, live_directory, snapshottable_at, snaps_reply, point_id, report_reply, report_next_reply}
use Rattle.hs_plain.specs.Answer.{asked, reply_to, replied, is_plain_reply, is_machine, origin_of_refusal}
use Rattle.hs_plain.specs.Answers.{AnswersAreItsOwn}
use Rattle.hs_plain.specs.inside.Answers.{RefusalsAreItsOwn, WholeAnswersAreItsOwn, WholeRefusalsAreItsOwn}

-- whether a refusal is the plain machine's
abbrev is_own : Refusal → Bool
is_own why = is_machine (origin_of_refusal why)

abbrev is_own_asked : {X : Type 0} → Asked X → Bool
is_own_asked (Ok x) = true
is_own_asked (Err why) = is_own why

-- a test refuses by the plain machine's refusals alone
record Owns {X : Type 0} (asked : Asked X) : Type 0 where
  own : is_own_asked asked ≡ true

-- its reply or its refusal is the plain machine's
record Replies (asked : Asked Reply) : Type 0 where
  own : is_plain_reply (reply_to asked) ≡ true

-- ---- tests one after another

then-owns : {X Y : Type 0} (asked : Asked X) (next : X → Asked Y) → Owns asked → ((x : X) → Owns (next x)) → Owns (asked >>= next)
then-owns (Ok x) next first more = more x
then-owns (Err why) next first more = record { own = first.own }

then-replies : {X : Type 0} (asked : Asked X) (next : X → Asked Reply) → Owns asked → ((x : X) → Replies (next x)) → Replies (asked >>= next)
then-replies (Ok x) next first more = more x
then-replies (Err why) next first more = record { own = first.own }

either : {X : Type 0} (b : Bool) (x y : Asked X) → Owns x → Owns y → Owns (cond b x y)
either true x y one other = one
either false x y one other = other

refuse : (b : Bool) (why : Refusal) → is_own why ≡ true → Owns (refuse_if b why)
refuse true why own = record { own = own }
refuse false why own = record { own = refl }

unless-owns : {Y : Type 0} (b : Bool) (why : Refusal) (next : Unit {0} → Asked Y) → is_own why ≡ true → Owns (next tt) → Owns (refuse_if b why >>= next)
unless-owns true why next own more = record { own = own }
unless-owns false why next own more = more

unless-replies : (b : Bool) (why : Refusal) (next : Unit {0} → Asked Reply) → is_own why ≡ true → Replies (next tt) → Replies (refuse_if b why >>= next)
unless-replies true why next own more = record { own = own }
unless-replies false why next own more = more

first-own : (test : Bool) (a b : Refusal) → is_own a ≡ true → is_own b ≡ true → is_own (cond test b a) ≡ true
first-own true a b one other = other
first-own false a b one other = one

both-own : {X Y : Type 0} (a : Asked X) (b : Asked Y) → Owns a → Owns b → Owns (both a b)
both-own (Ok x) (Ok y) one other = record { own = refl }
both-own (Ok x) (Err b) one other = record { own = other.own }
both-own (Err a) (Ok y) one other = record { own = one.own }
both-own (Err a) (Err b) one other = record { own = first-own (nat_lt (number_of b) (number_of a)) a b one.own other.own }

-- ---- paths and trees

path-owns : (text : List ℕ) → Owns (path_of text)
path-owns text =
    either (is_bad_path text) _ _ (record { own = refl })
    (either (is_too_long (components text)) _ _ (record { own = refl })
    (either (is_too_deep (components text)) _ _ (record { own = refl }) (record { own = refl })))

base-owns : (base : Names) (tail : PathTail) → Owns (plain_base base tail)
base-owns base Plain = record { own = refl }
base-owns base SnapshotList = record { own = refl }
base-owns base (Frozen snapshot rest) = record { own = refl }

live-owns : (text : List ℕ) → Owns (live_path text)
live-owns text = then-owns (path_of text) plain_of (path-owns text) (λ path. base-owns path.base path.tail)

module _ {B : Type 0} where
  passes-owns : (node : Option (Node B)) → Owns (passes node)
  passes-owns None = record { own = refl }
  passes-owns (Some node) = either (is_dir node) _ _ (record { own = refl }) (record { own = refl })

  from-owns : (tree : Tree B) (here below : Names) → Owns (walks_from tree here below)
  from-owns tree here [] = record { own = refl }
  from-owns tree here (name ∷ below) = then-owns (passes (node_at tree here)) (λ _. walks_from tree (here ++ name ∷ []) below) (passes-owns (node_at tree here)) (λ _. from-owns tree (here ++ name ∷ []) below)

  found-owns : (node : Option (Node B)) → Owns (found node)
  found-owns None = record { own = refl }
  found-owns (Some node) = record { own = refl }

  walk-owns : (tree : Tree B) (path : Names) → Owns (walk tree path)
  walk-owns tree path = then-owns (walks_above tree path) (λ _. found (node_at tree path)) (from-owns tree [] path) (λ _. found-owns (node_at tree path))

  -- ---- modifying calls

  mkdir-owns : (state : State B) (text : List ℕ) → Owns (mkdir_at state text)
  mkdir-owns state text =
      then-owns (live_path text) _ (live-owns text) (λ path.
      then-owns (walks_above state.tree path) _ (from-owns state.tree [] path) (λ _.
      unless-owns (is_some (node_at state.tree path)) refusals.Exists _ refl (record { own = refl })))

  takes-owns : (over : Bool) (node : Option (Node B)) → Owns (takes_place_of over node)
  takes-owns true None = record { own = refl }
  takes-owns false None = record { own = refl }
  takes-owns false (Some node) = record { own = refl }
  takes-owns true (Some node) = refuse (is_dir node) refusals.NotFile refl

  create-owns : (state : State B) (text : List ℕ) (over : Bool) → Owns (create_at state text over)
  create-owns state text over =
      then-owns (live_path text) _ (live-owns text) (λ path.
      then-owns (walks_above state.tree path) _ (from-owns state.tree [] path) (λ _.
      then-owns (takes_place_of over (node_at state.tree path)) _ (takes-owns over (node_at state.tree path)) (λ _. record { own = refl })))

  file-owns : (body : Body B) → Owns (file_in body)
  file-owns (File file) = record { own = refl }
  file-owns Dir = record { own = refl }

  append-owns : (state : State B) (text : List ℕ) → Owns (append_at state text)
  append-owns state text =
      then-owns (live_path text) _ (live-owns text) (λ path.
      then-owns (walk state.tree path) _ (walk-owns state.tree path) (λ node.
      then-owns (file_in node.body) _ (file-owns node.body) (λ _. record { own = refl })))

  delete-owns : (state : State B) (text : List ℕ) (recursive : Bool) → Owns (delete_at state text recursive)
  delete-owns state text recursive =
      then-owns (live_path text) _ (live-owns text) (λ path.
      then-owns (walk state.tree path) _ (walk-owns state.tree path) (λ node.
      unless-owns (is_root_path path) refusals.IsRoot _ refl (
      unless-owns (spares_children state.tree path recursive) refusals.NotEmpty _ refl (
      unless-owns (holds_snapshots state path) refusals.HasSnapshots _ refl (record { own = refl })))))

  move-owns : (state : State B) (old new : Names) → Owns (may_move state old new)
  move-owns state old new =
      then-owns (both (walk state.tree old) (walks_above state.tree new)) _ (both-own (walk state.tree old) (walks_above state.tree new) (walk-owns state.tree old) (from-owns state.tree [] new)) (λ _.
      unless-owns (is_some (node_at state.tree new)) refusals.Exists _ refl (
      unless-owns (is_root_path old) refusals.IsRoot _ refl (
      unless-owns (holds_snapshots state old) refusals.HasSnapshots _ refl (
      unless-owns (is_above old new) refusals.IntoItself _ refl (
      refuse (would_nest state old new) refusals.Nested refl)))))

  rename-owns : (state : State B) (old new : List ℕ) → Owns (rename_at state old new)
  rename-owns state old new =
      then-owns (both (live_path old) (live_path new)) _ (both-own (live_path old) (live_path new) (live-owns old) (live-owns new)) (λ paths.
      then-owns (may_move state paths.0 paths.1) _ (move-owns state paths.0 paths.1) (λ _. record { own = refl }))

  mode-owns : (state : State B) (text : List ℕ) → Owns (set_mode_at state text)
  mode-owns state text =
      then-owns (live_path text) _ (live-owns text) (λ path.
      then-owns (walk state.tree path) _ (walk-owns state.tree path) (λ _. record { own = refl }))

  -- ---- calls on snapshots

  directory-owns : (state : State B) (text : List ℕ) → Owns (directory_at state text)
  directory-owns state text =
      then-owns (live_path text) _ (live-owns text) (λ path.
      then-owns (walk state.tree path) _ (walk-owns state.tree path) (λ node.
      unless-owns (not (is_dir node)) refusals.NotDir _ refl (record { own = refl })))

  allow-owns : (state : State B) (text : List ℕ) → Owns (allow_at state text)
  allow-owns state text =
      then-owns (directory_at state text) _ (directory-owns state text) (λ at.
      unless-owns (meets_snapshottable state at.0) refusals.Nested _ refl (record { own = refl }))

  disallow-owns : (state : State B) (text : List ℕ) → Owns (disallow_at state text)
  disallow-owns state text =
      then-owns (directory_at state text) _ (directory-owns state text) (λ at.
      unless-owns (has_snapshots state at.1.id) refusals.HasSnapshots _ refl (
      unless-owns (not (is_snapshottable state at.1.id)) refusals.NotSnapshottable _ refl (record { own = refl })))

  snap-owns : (state : State B) (text name : List ℕ) → Owns (snap_at state text name)
  snap-owns state text name =
      then-owns (directory_at state text) _ (directory-owns state text) (λ at.
      unless-owns (not (is_name name)) refusals.NotSnapshotName _ refl (
      unless-owns (not (is_snapshottable state at.1.id)) refusals.NotSnapshottable _ refl (
      unless-owns (has_snapshot_named state at.1.id name) refusals.SnapshotExists _ refl (
      unless-owns (nat_le snapshot_limit (snapshots_of state.members at.1.id)) refusals.SnapshotLimit _ refl (record { own = refl })))))

  named-owns : (members : List (Member B)) (dir : InodeId) (name : List ℕ) → Owns (snapshot_named members dir name)
  named-owns [] dir name = record { own = refl }
  named-owns (m ∷ ms) dir name = either (is_named dir name m) _ _ (record { own = refl }) (named-owns ms dir name)

  snap_del-owns : (state : State B) (text name : List ℕ) → Owns (snap_del_at state text name)
  snap_del-owns state text name =
      then-owns (directory_at state text) _ (directory-owns state text) (λ at.
      unless-owns (not (is_snapshottable state at.1.id)) refusals.NotSnapshottable _ refl (
      named-owns state.members at.1.id name))

  snap_ren-owns : (state : State B) (text old new : List ℕ) → Owns (snap_ren_at state text old new)
  snap_ren-owns state text old new =
      then-owns (directory_at state text) _ (directory-owns state text) (λ at.
      unless-owns (not (is_name new)) refusals.NotSnapshotName _ refl (
      unless-owns (not (is_snapshottable state at.1.id)) refusals.NotSnapshottable _ refl (
      unless-owns (has_snapshot_named state at.1.id new) refusals.SnapshotExists _ refl (
      named-owns state.members at.1.id old))))

  -- ---- places

  if-owns : (state : State B) (node : Option (Node B)) → Owns (if_snapshottable state node)
  if-owns state None = record { own = refl }
  if-owns state (Some node) = either (is_snapshottable state node.id) _ _ (record { own = refl }) (record { own = refl })

  member-owns : (members : List (Member B)) (dir : InodeId) (name : List ℕ) → Owns (member_named members dir name)
  member-owns [] dir name = record { own = refl }
  member-owns (m ∷ ms) dir name = either (same_inode m.directory dir && bytes_eq m.name name) _ _ (record { own = refl }) (member-owns ms dir name)

  with-owns : (members : List (Member B)) (snapshot : SnapId) → Owns (member_with members snapshot)
  with-owns [] snapshot = record { own = refl }
  with-owns (m ∷ ms) snapshot = either (m.snapshot.0 == snapshot.0) _ _ (record { own = refl }) (with-owns ms snapshot)

  tail-owns : (state : State B) (base : Names) (tail : PathTail) → Owns (resolve_tail state base tail)
  tail-owns state base Plain = then-owns (walk state.tree base) _ (walk-owns state.tree base) (λ _. record { own = refl })
  tail-owns state base SnapshotList = then-owns (snapshot_root state base) _ (if-owns state (node_at state.tree base)) (λ _. record { own = refl })
  tail-owns state base (Frozen snapshot rest) =
      then-owns (snapshot_root state base) _ (if-owns state (node_at state.tree base)) (λ dir.
      then-owns (member_named state.members dir snapshot) _ (member-owns state.members dir snapshot) (λ member.
      then-owns (walk member.tree rest) _ (walk-owns member.tree rest) (λ _. record { own = refl })))

  items-owns : (tree : Tree B) (place : Option (Names × Node B)) → Owns (items_of tree place)
  items-owns tree None = record { own = refl }
  items-owns tree (Some place) = either (is_dir place.1) _ _ (record { own = refl }) (record { own = refl })

  items_at-owns : (state : State B) (place : Place) → Owns (items_at state place)
  items_at-owns state (places.Live id) = items-owns state.tree (place_of state.tree id)
  items_at-owns state (places.Frozen id snapshot) = then-owns (member_with state.members snapshot) _ (with-owns state.members snapshot) (λ member. items-owns member.tree (place_of member.tree id))
  items_at-owns state (places.SnapshotsOf dir) = either (is_snapshottable state dir) _ _ (record { own = refl }) (record { own = refl })

  -- ---- reading calls

  list-replies : (state : State B) (text : List ℕ) (size : ℕ) → Replies (list_reply state text size)
  list-replies state text size =
      then-replies (path_of text) _ (path-owns text) (λ path.
      then-replies (resolve state path) _ (tail-owns state path.base path.tail) (λ place.
      then-replies (items_at state place) _ (items_at-owns state place) (λ _. record { own = refl })))

  list_next-replies : (state : State B) (cursor : ListCursor) (size : ℕ) → Replies (list_next_reply state cursor size)
  list_next-replies state cursor size =
      unless-replies (is_gone state cursor.place) refusals.Gone _ refl (
      then-replies (items_at state cursor.place) _ (items_at-owns state cursor.place) (λ _. record { own = refl }))

  there-owns : (place : Option (Names × Node B)) → Owns (file_there place)
  there-owns None = record { own = refl }
  there-owns (Some place) = file-owns place.1.body

  file_at-owns : (state : State B) (place : Place) → Owns (file_at state place)
  file_at-owns state (places.Live id) = there-owns (place_of state.tree id)
  file_at-owns state (places.Frozen id snapshot) = then-owns (member_with state.members snapshot) _ (with-owns state.members snapshot) (λ member. there-owns (place_of member.tree id))
  file_at-owns state (places.SnapshotsOf dir) = either (is_snapshottable state dir) _ _ (record { own = refl }) (record { own = refl })

  dir-owns : (place : Option (Names × Node B)) → Owns (directory_there place)
  dir-owns None = record { own = refl }
  dir-owns (Some place) = either (is_dir place.1) _ _ (record { own = refl }) (record { own = refl })

  live_dir-owns : (state : State B) (place : Place) → Owns (live_directory state place)
  live_dir-owns state (places.Live id) = dir-owns (place_of state.tree id)
  live_dir-owns state (places.Frozen id snapshot) =
      then-owns (member_with state.members snapshot) _ (with-owns state.members snapshot) (λ member.
      then-owns (directory_there (place_of member.tree id)) _ (dir-owns (place_of member.tree id)) (λ _. record { own = refl }))
  live_dir-owns state (places.SnapshotsOf dir) = record { own = refl }

  at-owns : (state : State B) (text : List ℕ) → Owns (snapshottable_at state text)
  at-owns state text =
      then-owns (path_of text) _ (path-owns text) (λ path.
      then-owns (resolve state path) _ (tail-owns state path.base path.tail) (λ place.
      then-owns (live_directory state place) _ (live_dir-owns state place) (λ dir.
      unless-owns (not (is_snapshottable state dir)) refusals.NotSnapshottable _ refl (record { own = refl }))))

  snaps-replies : (state : State B) (text : List ℕ) → Replies (snaps_reply state text)
  snaps-replies state text = then-replies (snapshottable_at state text) _ (at-owns state text) (λ _. record { own = refl })

  point-owns : (state : State B) (dir : InodeId) (point : Point) → Owns (point_id state dir point)
  point-owns state dir (Snapshot name) = named-owns state.members dir name
  point-owns state dir Now = record { own = refl }

  report-replies : (state : State B) (text : List ℕ) (from to : Point) (size : ℕ) → Replies (report_reply state text from to size)
  report-replies state text from to size =
      then-replies (snapshottable_at state text) _ (at-owns state text) (λ root.
      then-replies (point_id state root from) _ (point-owns state root from) (λ first.
      then-replies (point_id state root to) _ (point-owns state root to) (λ last. record { own = refl })))

  report_next-replies : (state : State B) (cursor : ReportCursor) (size : ℕ) → Replies (report_next_reply state cursor size)
  report_next-replies state cursor size =
      unless-replies (is_deleted state cursor.from || is_deleted state cursor.to) refusals.Gone _ refl (
      unless-replies (not (is_snapshottable state cursor.root)) refusals.NotSnapshottable _ refl (
      unless-replies (is_foreign state cursor.root cursor.from || is_foreign state cursor.root cursor.to) refusals.NoSnapshot _ refl (
      unless-replies (has_moved state cursor) (refusals.Moved (began_at state.tick cursor.tick) state.tick) _ refl (record { own = refl }))))

module _ {B : Type 0} (files : Files B) where
  node_stat-replies : (tree : Tree B) (place : Option (Names × Node B)) → Replies (node_stat files tree place)
  node_stat-replies tree None = record { own = refl }
  node_stat-replies tree (Some place) = record { own = refl }

  list_stat-replies : (snapshots : ℕ) (place : Option (Names × Node B)) → Replies (list_stat snapshots place)
  list_stat-replies snapshots None = record { own = refl }
  list_stat-replies snapshots (Some place) = record { own = refl }

  stat_at-replies : (state : State B) (place : Place) → Replies (stat_at files state place)
  stat_at-replies state (places.Live id) = node_stat-replies state.tree (place_of state.tree id)
  stat_at-replies state (places.Frozen id snapshot) = then-replies (member_with state.members snapshot) _ (with-owns state.members snapshot) (λ member. node_stat-replies member.tree (place_of member.tree id))
  stat_at-replies state (places.SnapshotsOf dir) = list_stat-replies _ (place_of state.tree dir)

  stat-replies : (state : State B) (text : List ℕ) → Replies (stat_reply files state text)
  stat-replies state text =
      then-replies (path_of text) _ (path-owns text) (λ path.
      then-replies (resolve state path) _ (tail-owns state path.base path.tail) (λ place. stat_at-replies state place))

  found_file-owns : (state : State B) (text : List ℕ) → Owns (found_file state text)
  found_file-owns state text =
      then-owns (path_of text) _ (path-owns text) (λ path.
      then-owns (resolve state path) _ (tail-owns state path.base path.tail) (λ place.
      then-owns (file_at state place) _ (file_at-owns state place) (λ _. record { own = refl })))

  read-replies : (state : State B) (text : List ℕ) (offset len : ℕ) → Replies (read_reply files state text offset len)
  read-replies state text offset len = then-replies (found_file state text) _ (found_file-owns state text) (λ _. record { own = refl })

  next_file-owns : (state : State B) (place : Place) → Owns (next_file state place)
  next_file-owns state place =
      unless-owns (is_gone state place) refusals.Gone _ refl (
      then-owns (file_at state place) _ (file_at-owns state place) (λ _. record { own = refl }))

  next-replies : (state : State B) (cursor : ReadCursor) (len : ℕ) → Replies (next_reply files state cursor len)
  next-replies state cursor len = then-replies (next_file state cursor.place) _ (next_file-owns state cursor.place) (λ _. record { own = refl })

  -- ---- all calls

  replied-replies : {X : Type 0} (reply : Reply) (asked : Asked X) → is_plain_reply reply ≡ true → Owns asked → Replies (replied reply asked)
  replied-replies reply (Ok x) plain own = record { own = plain }
  replied-replies reply (Err why) plain own = record { own = own.own }

  asked-replies : (state : State B) (call : Call) → Replies (asked files state call)
  asked-replies state (calls.Mkdir path) = replied-replies _ (mkdir_at state path) refl (mkdir-owns state path)
  asked-replies state (calls.Create path over) = replied-replies _ (create_at state path over) refl (create-owns state path over)
  asked-replies state (calls.Append path bytes) = replied-replies _ (append_at state path) refl (append-owns state path)
  asked-replies state (calls.Delete path recursive) = replied-replies _ (delete_at state path recursive) refl (delete-owns state path recursive)
  asked-replies state (calls.Rename old new) = replied-replies _ (rename_at state old new) refl (rename-owns state old new)
  asked-replies state (calls.SetMode path mode) = replied-replies _ (set_mode_at state path) refl (mode-owns state path)
  asked-replies state (calls.Allow path) = replied-replies _ (allow_at state path) refl (allow-owns state path)
  asked-replies state (calls.Disallow path) = replied-replies _ (disallow_at state path) refl (disallow-owns state path)
  asked-replies state (calls.Snap path name) = replied-replies _ (snap_at state path name) refl (snap-owns state path name)
  asked-replies state (calls.SnapDel path name) = replied-replies _ (snap_del_at state path name) refl (snap_del-owns state path name)
  asked-replies state (calls.SnapRen path old new) = replied-replies _ (snap_ren_at state path old new) refl (snap_ren-owns state path old new)
  asked-replies state (calls.Read path offset len) = read-replies state path offset len
  asked-replies state (calls.ReadNext cursor len) = next-replies state cursor len
  asked-replies state (calls.Stat path) = stat-replies state path
  asked-replies state (calls.List path size) = list-replies state path size
  asked-replies state (calls.ListNext cursor size) = list_next-replies state cursor size
  asked-replies state (calls.Snaps path) = snaps-replies state path
  asked-replies state calls.Dirs = record { own = refl }
  asked-replies state (calls.Report path from to size) = report-replies state path from to size
  asked-replies state (calls.ReportNext cursor size) = report_next-replies state cursor size

refusal-own : (asked : Asked Reply) (why : Refusal) → Replies asked → asked ≡ Err why → is_plain_reply (replies.Refused why) ≡ true
refusal-own asked why all is = ap (λ a. is_plain_reply (reply_to a)) (sym is) ∙ all.own

pub answers_own : AnswersAreItsOwn
answers_own state call = (asked-replies plain_files state call).own

pub refusals_own : RefusalsAreItsOwn
refusals_own state call why is = refusal-own (asked plain_files state call) why (asked-replies plain_files state call) is

pub whole_answers_own : WholeAnswersAreItsOwn
whole_answers_own state call = (asked-replies block_files state call).own

pub whole_refusals_own : WholeRefusalsAreItsOwn
whole_refusals_own state call why is = refusal-own (asked block_files state call) why (asked-replies block_files state call) is
