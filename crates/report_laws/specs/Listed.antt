-- How many entries the lists of directories have at one of two ends alone, by the rows of a table.
use Rattle.std.specs.Prelude.{◌≡◌, ◌*◌, ◌≤◌, true, false, not, List, ◌++◌, map, filter, length}
use Rattle.std.specs.List.{Contains, IsDistinct, flat_map}
use Rattle.hs_types.specs.declared.ids.InodeId.{InodeId}
use Rattle.hs_types.specs.declared.ids.SnapId.{SnapId}
use Rattle.hs_types.specs.declared.journal.Entry as journal_entries
use Rattle.hs_plain.specs.declared.state.State.{State}
use Rattle.hs_plain.specs.declared.state.FileBlocks.{FileBlocks}
use Rattle.hs_plain.specs.Reading.{end_tree, is_foreign}
use Rattle.hs_plain.specs.Replay.{plain_after}
use Rattle.hs_plain.specs.State.{is_snapshottable}
use Rattle.hs_plain.specs.Tree.{node_at, same_inode}
use Rattle.hs_plain.specs.Viewed as viewed
use Rattle.dir_changes.specs.Entries.{Entry, Entries, holds}
use Rattle.snapshot_manager.specs.Snapshots.{Snapshots}
use Rattle.inode_table.specs.Reads.{Shown, Has}
use Rattle.inode_table.specs.RowHistory.{shown}
use Rattle.inode_table.specs.Tabled.{Tabled}
use Rattle.inode_table.specs.Whole.{StandsFor}
use Rattle.report_laws.specs.Differing.{ListEntry}
use Rattle.report_laws.specs.Ends.{entries_between}

-- the entries of a list that another one hasn't
abbrev pub only_in : Entries → Entries → Entries
only_in list other = filter (λ entry. not (holds other entry)) list

abbrev pub in_dir : InodeId → Entry → ListEntry
in_dir dir entry = record { dir = dir; name = entry.0; id = entry.1 }

-- the entries that a directory's list has at one of two moments alone
abbrev pub one_sided : {B : Type 0} → Shown B → Shown B → InodeId → List ListEntry
one_sided v w dir = map (in_dir dir) (only_in (v.entries dir) (w.entries dir) ++ only_in (w.entries dir) (v.entries dir))

-- each of these directories once, and in the trees of both ends
pub record AreInBoth (state : State FileBlocks) (root : InodeId) (from to : SnapId) (dirs : List InodeId) : Type 0 where
  pub once : IsDistinct same_inode dirs
  pub in_from : (dir : InodeId) → Contains dirs dir → Has (node_at (end_tree state root from)) dir
  pub in_to : (dir : InodeId) → Contains dirs dir → Has (node_at (end_tree state root to)) dir

-- two for each entry of the journal between the two ends
abbrev pub RowsDifferLaw : Type 0
RowsDifferLaw = (table : Tabled) (snaps : Snapshots) (state : State FileBlocks) (journal : List journal_entries.Entry) (root : InodeId) (from to : SnapId) (dirs : List InodeId)
    → StandsFor table snaps state → viewed.StandsFor state (plain_after journal) → is_snapshottable state root ≡ true → is_foreign state root from ≡ false → is_foreign state root to ≡ false
    → AreInBoth state root from to dirs → length (flat_map (one_sided (shown table.rows from.0) (shown table.rows to.0)) dirs) ≤ 2 * entries_between state from to
