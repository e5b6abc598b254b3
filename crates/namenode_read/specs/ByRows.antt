-- What the rows of a place that is there tell to reading calls. For proofs: contracts speak of the plain state's replies.
use Rattle.std.specs.Prelude.{ℕ, true, false, if◌then◌else◌, length, is_some, Option, Some, None, Ok, Err}
use Rattle.hs_types.specs.declared.ids.InodeId.{InodeId}
use Rattle.hs_types.specs.declared.reply.Reply.{Reply}
use Rattle.hs_types.specs.declared.reply.Reply.TheVariants as replies
use Rattle.hs_types.specs.declared.refusal.Refusal.TheVariants.{NotFound, NotDir, NotSnapshottable}
use Rattle.hs_types.specs.declared.call.Place.{Place}
use Rattle.hs_types.specs.declared.call.Place.TheVariants as places
use Rattle.hs_plain.specs.Asked.{Asked, ◌>>=◌}
use Rattle.file_changes.specs.History.{FileHistory, state_at}
use Rattle.dir_changes.specs.History.{DirHistory, children_at, marks_at}
use Rattle.snapshot_manager.specs.Snapshots.{Snapshots, snaps_of, snaps_in}
use Rattle.inode_table.specs.RowHistory.{Table, RowHistory, File, Dir, rows_at}

-- ---- what a node is

-- at a snapshot, at 0 now
abbrev pub file_stat : ℕ → InodeId → FileHistory → Reply
file_stat s id file = replies.Stat id false (state_at s file).mode (state_at s file).stamp (state_at s file).size

abbrev pub dir_stat : ℕ → InodeId → DirHistory → Reply
dir_stat s id dir = replies.Stat id true (marks_at s dir).mode (marks_at s dir).stamp (length (children_at s dir))

abbrev pub stat_in : ℕ → InodeId → Option RowHistory → Asked Reply
stat_in s id None = Err NotFound
stat_in s id (Some (File file)) = Ok (file_stat s id file)
stat_in s id (Some (Dir dir)) = Ok (dir_stat s id dir)

-- a list of so many snapshots
abbrev pub list_stat_in : ℕ → InodeId → Option RowHistory → Asked Reply
list_stat_in snapshots id None = Err NotFound
list_stat_in snapshots id (Some (File file)) = Err NotFound
list_stat_in snapshots id (Some (Dir dir)) = Ok (replies.Stat id true (marks_at 0 dir).mode (marks_at 0 dir).stamp snapshots)

abbrev pub stat_found : Table → Snapshots → Place → Asked Reply
stat_found table snaps (places.Live id) = stat_in 0 id (rows_at table id)
stat_found table snaps (places.Frozen id snapshot) = stat_in snapshot.0 id (rows_at table id)
stat_found table snaps (places.SnapshotsOf dir) = list_stat_in (length (snaps_in snaps dir)) dir (rows_at table dir)

-- ---- snapshottable directories

abbrev pub directory_in : InodeId → Option RowHistory → Asked InodeId
directory_in id None = Err NotFound
directory_in id (Some (File file)) = Err NotDir
directory_in id (Some (Dir dir)) = Ok id

-- a directory of the live tree; at another place nothing is snapshottable
abbrev pub live_directory_found : Table → Place → Asked InodeId
live_directory_found table (places.Live id) = directory_in id (rows_at table id)
live_directory_found table (places.Frozen id snapshot) = directory_in id (rows_at table id) >>= λ _. Err NotSnapshottable
live_directory_found table (places.SnapshotsOf dir) = Err NotSnapshottable

abbrev pub may_have : Snapshots → InodeId → Asked InodeId
may_have snaps dir = if is_some (snaps_of snaps dir) then Ok dir else Err NotSnapshottable

abbrev pub snapshottable_found : Table → Snapshots → Place → Asked InodeId
snapshottable_found table snaps place = live_directory_found table place >>= may_have snaps
