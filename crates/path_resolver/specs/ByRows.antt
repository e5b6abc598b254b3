-- Where names lead by the rows alone. For proofs: contracts speak of the plain state's `resolve`.
use Rattle.std.specs.Prelude.{ℕ, Bool, true, false, not, ◌||◌, List, [], ◌∷◌, Option, Some, None, Ok, Err, is_some, if◌then◌else◌}
use Rattle.std.specs.List.{find}
use Rattle.hs_types.specs.Names.{Names}
use Rattle.hs_types.specs.declared.ids.InodeId.{InodeId}
use Rattle.hs_types.specs.declared.name.SnapItem.{SnapItem}
use Rattle.hs_types.specs.declared.path.Path.{Path}
use Rattle.hs_types.specs.declared.path.PathTail.{PathTail}
use Rattle.hs_types.specs.declared.path.PathTail.TheVariants.{Plain, SnapshotList, Frozen}
use Rattle.hs_types.specs.declared.call.Place.{Place}
use Rattle.hs_types.specs.declared.call.Place.TheVariants as places
use Rattle.hs_types.specs.declared.refusal.Refusal.TheVariants.{NotFound, NotDir}
use Rattle.hs_plain.specs.Asked.{Asked, ◌>>=◌, refuse_if}
use Rattle.hs_plain.specs.Modifying.{live_path}
use Rattle.hs_plain.specs.Tree.{parent_of}
use Rattle.dir_changes.specs.Entries.{id_at}
use Rattle.dir_changes.specs.History.{children_at}
use Rattle.snapshot_manager.specs.Snapshots.{Snapshots, snaps_of, snaps_in, has_name}
use Rattle.inode_table.specs.RowHistory.{Table, RowHistory, File, Dir, rows_at}
use Rattle.inode_table.specs.Stands.{root_id}

abbrev pub named : Option InodeId → Asked InodeId
named None = Err NotFound
named (Some id) = Ok id

-- the child of that name at a snapshot; a file has none
abbrev pub child_in : ℕ → List ℕ → RowHistory → Asked InodeId
child_in s name (File file) = Err NotDir
child_in s name (Dir dir) = named (id_at name (children_at s dir))

abbrev pub child_of : ℕ → List ℕ → Option RowHistory → Asked InodeId
child_of s name None = Err NotFound
child_of s name (Some rows) = child_in s name rows

-- the inode to which names lead from another on
abbrev pub led : Table → ℕ → InodeId → Names → Asked InodeId
led table s id [] = Ok id
led table s id (name ∷ names) = child_of s name (rows_at table id) >>= λ next. led table s next names

abbrev pub is_dir_row : Option RowHistory → Bool
is_dir_row None = false
is_dir_row (Some (File file)) = false
is_dir_row (Some (Dir dir)) = true

abbrev pub dir_test : Option RowHistory → Asked (Unit {0})
dir_test rows = if is_dir_row rows then Ok tt else Err NotDir

-- the walk from the root down to the directory above
abbrev pub led_above : Table → Names → Asked (Unit {0})
led_above table [] = Ok tt
led_above table (name ∷ names) = led table 0 root_id (parent_of (name ∷ names)) >>= λ id. dir_test (rows_at table id)

-- the directory that a call names: its path and its inode
abbrev pub dir_asked : Table → List ℕ → Asked (Names × InodeId)
dir_asked table text = do
  path ← live_path text
  id ← led table 0 root_id path
  dir ← refuse_if (not (is_dir_row (rows_at table id))) NotDir
  Ok (path, id)

-- the inodes below another one to which names lead, each with the names up to it
abbrev pub led_below : Table → InodeId → Names → Asked (List InodeId)
led_below table id [] = Ok []
led_below table id (name ∷ names) = child_of 0 name (rows_at table id) >>= λ next. led_below table next names >>= λ ids. Ok (next ∷ ids)

-- the inodes from the root down
abbrev pub led_chain : Table → Names → Asked (List InodeId)
led_chain table names = led_below table root_id names >>= λ ids. Ok (root_id ∷ ids)

abbrev pub goes_in : (InodeId → Bool) → Asked InodeId → Bool
goes_in next (Ok id) = next id
goes_in next (Err why) = false

-- whether an inode that names pass on their way from another, or that one, is snapshottable
abbrev pub led_in : Table → Snapshots → InodeId → Names → Bool
led_in table snaps id [] = false
led_in table snaps id (name ∷ names) = is_some (snaps_of snaps id) || goes_in (λ next. led_in table snaps next names) (child_of 0 name (rows_at table id))

-- a snapshottable directory; else nothing is found below its `.snapshot`
abbrev pub rooted : Snapshots → Asked InodeId → Asked InodeId
rooted snaps (Ok id) = if is_some (snaps_of snaps id) then Ok id else Err NotFound
rooted snaps (Err why) = Err NotFound

abbrev pub item_there : Option SnapItem → Asked SnapItem
item_there None = Err NotFound
item_there (Some item) = Ok item

abbrev pub root_at : Table → Snapshots → Names → Asked InodeId
root_at table snaps base = rooted snaps (led table 0 root_id base)

abbrev pub resolved_tail : Table → Snapshots → Names → PathTail → Asked Place
resolved_tail table snaps base Plain = do
  id ← led table 0 root_id base
  Ok (places.Live id)
resolved_tail table snaps base SnapshotList = do
  dir ← root_at table snaps base
  Ok (places.SnapshotsOf dir)
resolved_tail table snaps base (Frozen snapshot rest) = do
  dir ← root_at table snaps base
  item ← item_there (find (has_name snapshot) (snaps_in snaps dir))
  id ← led table item.id.0 dir rest
  Ok (places.Frozen id item.id)

-- where a path leads
abbrev pub resolved : Table → Snapshots → Path → Asked Place
resolved table snaps path = resolved_tail table snaps path.base path.tail
