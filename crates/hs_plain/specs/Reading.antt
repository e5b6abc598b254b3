-- Reading calls: the reply, or the first refusal that holds, in the order of their numbers; of a cursor Gone comes before all others.
use Rattle.std.specs.Prelude.{ℕ, Bool, true, false, not, ◌&&◌, ◌||◌, ◌==◌, if◌then◌else◌, List, [], ◌∷◌, Option, Some, None, Ok, Err}
use Rattle.std.specs.List.{list_any, filter_map}
use Rattle.hs_types.specs.Paths.{path_of, path_text}
use Rattle.hs_types.specs.Names.{Names}
use Rattle.hs_types.specs.declared.ids.InodeId.{InodeId}
use Rattle.hs_types.specs.declared.ids.SnapId.{SnapId}
use Rattle.hs_types.specs.declared.name.SnapItem.{SnapItem}
use Rattle.hs_types.specs.declared.reply.Reply.{Reply}
use Rattle.hs_types.specs.declared.reply.Reply.TheVariants as replies
use Rattle.hs_types.specs.declared.reply.DirItem.{DirItem}
use Rattle.hs_types.specs.declared.reply.Line.{Line}
use Rattle.hs_types.specs.declared.refusal.Refusal.TheVariants.{NotFound, NotDir, NotFile, NotSnapshottable, NoSnapshot, Gone, Moved}
use Rattle.hs_types.specs.declared.call.Point.{Point}
use Rattle.hs_types.specs.declared.call.Point.TheVariants.{Snapshot, Now}
use Rattle.hs_types.specs.declared.call.ListCursor.{ListCursor}
use Rattle.hs_types.specs.declared.call.ReadCursor.{ReadCursor}
use Rattle.hs_types.specs.declared.call.ReportCursor.{ReportCursor}
use Rattle.hs_types.specs.declared.call.Place.{Place}
use Rattle.hs_types.specs.declared.call.Place.TheVariants as places
use Rattle.hs_plain.specs.declared.state.Node.{Node}
use Rattle.hs_plain.specs.declared.state.Member.{Member}
use Rattle.hs_plain.specs.declared.state.State.{State}
use Rattle.hs_plain.specs.Asked.{Asked, ◌>>=◌, refuse_if}
use Rattle.hs_plain.specs.Files.{Files}
use Rattle.hs_plain.specs.Tree.{Tree, is_dir, size_of, same_inode, place_of, subtree}
use Rattle.hs_plain.specs.State.{resolve, is_snapshottable, member_with, snapshots_of, snapshot_named, items_at}
use Rattle.hs_plain.specs.Pages.{page_of, bytes_page, lines_page}
use Rattle.hs_plain.specs.Report.{report}
use Rattle.hs_plain.specs.Modifying.{file_in}

-- ---- cursors

-- whether a snapshot has this id
abbrev pub is_live : {B : Type 0} → List (Member B) → SnapId → Bool
is_live members snapshot = list_any (λ member. member.snapshot.0 == snapshot.0) members

-- whether an id is no snapshot's, or that of a snapshot that was deleted; 0 is the current state
abbrev pub is_deleted : {B : Type 0} → State B → SnapId → Bool
is_deleted state snapshot = not (snapshot.0 == 0) && not (is_live state.members snapshot)

-- a cursor into a copied tree is good while its snapshot is there
abbrev pub is_gone : {B : Type 0} → State B → Place → Bool
is_gone state (places.Live id) = false
is_gone state (places.Frozen id snapshot) = is_deleted state snapshot
is_gone state (places.SnapshotsOf dir) = false

-- ---- listings

-- the first page of a directory, or of the list of its snapshots
abbrev pub list_reply : {B : Type 0} → State B → List ℕ → ℕ → Asked Reply
list_reply state text size = do
  path ← path_of text
  place ← resolve state path
  items ← items_at state place
  Ok (page_of place items None size)

-- the next page of what a cursor lists
abbrev pub list_next_reply : {B : Type 0} → State B → ListCursor → ℕ → Asked Reply
list_next_reply state cursor size = do
  live ← refuse_if (is_gone state cursor.place) Gone
  items ← items_at state cursor.place
  Ok (page_of cursor.place items cursor.after size)

-- ---- what a node is

-- what a node is, with the bytes of a file or the children of a directory
abbrev pub node_stat : {B : Type 0} → Files B → Tree B → Option (Names × Node B) → Asked Reply
node_stat files tree None = Err NotFound
node_stat files tree (Some place) = Ok (replies.Stat place.1.id (is_dir place.1) place.1.mode place.1.stamp (size_of files.size tree place.0 place.1.body))

-- a list of snapshots has the fields of its directory, and the number of its snapshots
abbrev pub list_stat : {B : Type 0} → ℕ → Option (Names × Node B) → Asked Reply
list_stat snapshots None = Err NotFound
list_stat snapshots (Some place) = Ok (replies.Stat place.1.id true place.1.mode place.1.stamp snapshots)

abbrev pub stat_at : {B : Type 0} → Files B → State B → Place → Asked Reply
stat_at files state (places.Live id) = node_stat files state.tree (place_of state.tree id)
stat_at files state (places.Frozen id snapshot) = do
  member ← member_with state.members snapshot
  node_stat files member.tree (place_of member.tree id)
stat_at files state (places.SnapshotsOf dir) = list_stat (snapshots_of state.members dir) (place_of state.tree dir)

-- what stands at a path
abbrev pub stat_reply : {B : Type 0} → Files B → State B → List ℕ → Asked Reply
stat_reply files state text = do
  path ← path_of text
  place ← resolve state path
  stat_at files state place

-- ---- reads of a file

-- the file at the place of an id
abbrev pub file_there : {B : Type 0} → Option (Names × Node B) → Asked B
file_there None = Err NotFound
file_there (Some place) = file_in place.1.body

-- the file at a place; a list of snapshots is none
abbrev pub file_at : {B : Type 0} → State B → Place → Asked B
file_at state (places.Live id) = file_there (place_of state.tree id)
file_at state (places.Frozen id snapshot) = do
  member ← member_with state.members snapshot
  file_there (place_of member.tree id)
file_at state (places.SnapshotsOf dir) = if is_snapshottable state dir then Err NotFile else Err NotFound

-- a page of a file that stands at a place
abbrev pub page_at : {B : Type 0} → Files B → ℕ → ℕ → Place × B → Reply
page_at files offset len at = bytes_page at.0 (files.bytes at.1) offset len

-- the file at a path, with its place
abbrev pub found_file : {B : Type 0} → State B → List ℕ → Asked (Place × B)
found_file state text = do
  path ← path_of text
  place ← resolve state path
  file ← file_at state place
  Ok (place, file)

-- a page of the file at a path
abbrev pub read_reply : {B : Type 0} → Files B → State B → List ℕ → ℕ → ℕ → Asked Reply
read_reply files state text offset len = do
  at ← found_file state text
  Ok (page_at files offset len at)

-- the file of a cursor, with its place
abbrev pub next_file : {B : Type 0} → State B → Place → Asked (Place × B)
next_file state place = do
  live ← refuse_if (is_gone state place) Gone
  file ← file_at state place
  Ok (place, file)

-- the next page of a file
abbrev pub next_reply : {B : Type 0} → Files B → State B → ReadCursor → ℕ → Asked Reply
next_reply files state cursor len = do
  at ← next_file state cursor.place
  Ok (page_at files cursor.offset len at)

-- ---- snapshottable directories and their snapshots

-- the directory at the place of an id
abbrev pub directory_there : {B : Type 0} → Option (Names × Node B) → Asked InodeId
directory_there None = Err NotFound
directory_there (Some place) = if is_dir place.1 then Ok place.1.id else Err NotDir

-- a directory of the live tree; a directory of a copied tree and a list of snapshots are not snapshottable
abbrev pub live_directory : {B : Type 0} → State B → Place → Asked InodeId
live_directory state (places.Live id) = directory_there (place_of state.tree id)
live_directory state (places.Frozen id snapshot) = do
  member ← member_with state.members snapshot
  dir ← directory_there (place_of member.tree id)
  Err NotSnapshottable
live_directory state (places.SnapshotsOf dir) = Err NotSnapshottable

-- the snapshottable directory at a path
abbrev pub snapshottable_at : {B : Type 0} → State B → List ℕ → Asked InodeId
snapshottable_at state text = do
  path ← path_of text
  place ← resolve state path
  dir ← live_directory state place
  there ← refuse_if (not (is_snapshottable state dir)) NotSnapshottable
  Ok dir

-- a snapshot of this directory as it is shown
abbrev pub snap_item : {B : Type 0} → InodeId → Member B → Option SnapItem
snap_item dir member = if same_inode member.directory dir then Some (record { id = member.snapshot; tick = member.tick; name = member.name }) else None

-- the snapshots of a directory, in order of making
abbrev pub snaps_reply : {B : Type 0} → State B → List ℕ → Asked Reply
snaps_reply state text = do
  dir ← snapshottable_at state text
  Ok (replies.Snaps dir (filter_map (snap_item dir) state.members))

-- a snapshottable directory as it is shown
abbrev pub dir_item : {B : Type 0} → State B → Names × Node B → Option DirItem
dir_item state place = if is_snapshottable state place.1.id then Some (record { id = place.1.id; count = snapshots_of state.members place.1.id; path = path_text place.0 }) else None

-- the snapshottable directories, in path order
abbrev pub dirs_reply : {B : Type 0} → State B → Reply
dirs_reply state = replies.Dirs (filter_map (dir_item state) state.tree)

-- ---- reports

-- the id of a point in time of a directory: 0 is the current state
abbrev pub point_id : {B : Type 0} → State B → InodeId → Point → Asked SnapId
point_id state dir (Snapshot name) = snapshot_named state.members dir name
point_id state dir Now = Ok (record { 0 = 0 })

-- the copied tree of a snapshot
abbrev pub copied_tree : {B : Type 0} → List (Member B) → SnapId → Tree B
copied_tree [] snapshot = []
copied_tree (m ∷ ms) snapshot = if m.snapshot.0 == snapshot.0 then m.tree else copied_tree ms snapshot

-- the live tree below a place
abbrev pub tree_below : {B : Type 0} → Tree B → Option (Names × Node B) → Tree B
tree_below tree None = []
tree_below tree (Some place) = subtree tree place.0

-- the tree of a directory at one end of a report
abbrev pub end_tree : {B : Type 0} → State B → InodeId → SnapId → Tree B
end_tree state root end = if end.0 == 0 then tree_below state.tree (place_of state.tree root) else copied_tree state.members end

-- all lines of a report
abbrev pub lines_between : {B : Type 0} → State B → InodeId → SnapId → SnapId → List Line
lines_between state root from to = report (end_tree state root from) (end_tree state root to)

-- the tick at which a report began: that of the cursor, or else now
abbrev pub began_at : ℕ → Option ℕ → ℕ
began_at now None = now
began_at now (Some tick) = tick

-- a page of the report of a cursor
abbrev pub report_page : {B : Type 0} → State B → ReportCursor → ℕ → Reply
report_page state cursor size = lines_page cursor (began_at state.tick cursor.tick) (lines_between state cursor.root cursor.from cursor.to) size

-- the first page of the report on a directory from one point in time to another
abbrev pub report_reply : {B : Type 0} → State B → List ℕ → Point → Point → ℕ → Asked Reply
report_reply state text from to size = do
  root ← snapshottable_at state text
  first ← point_id state root from
  last ← point_id state root to
  Ok (report_page state (record { root = root; from = first; to = last; tick = None; index = 0 }) size)

-- whether an end is no snapshot of this directory
abbrev pub is_foreign : {B : Type 0} → State B → InodeId → SnapId → Bool
is_foreign state root end = not (end.0 == 0) && not (list_any (λ member. member.snapshot.0 == end.0 && same_inode member.directory root) state.members)

-- whether the current state is an end of a report that began at another tick
abbrev pub has_moved : {B : Type 0} → State B → ReportCursor → Bool
has_moved state cursor = (cursor.from.0 == 0 || cursor.to.0 == 0) && not (began_at state.tick cursor.tick == state.tick)

-- the next page of a report
abbrev pub report_next_reply : {B : Type 0} → State B → ReportCursor → ℕ → Asked Reply
report_next_reply state cursor size = do
  live ← refuse_if (is_deleted state cursor.from || is_deleted state cursor.to) Gone
  there ← refuse_if (not (is_snapshottable state cursor.root)) NotSnapshottable
  own ← refuse_if (is_foreign state cursor.root cursor.from || is_foreign state cursor.root cursor.to) NoSnapshot
  still ← refuse_if (has_moved state cursor) (Moved (began_at state.tick cursor.tick) state.tick)
  Ok (report_page state cursor size)
