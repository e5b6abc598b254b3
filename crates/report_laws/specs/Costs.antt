-- How many rows a report looks at.
use Rattle.std.specs.Prelude.{◌≡◌, ℕ, ◌+◌, ◌*◌, ◌≤◌, true, false, ◌&&◌, is_some, if◌then◌else◌, List, [], ◌∷◌, length}
use Rattle.std.specs.List.{IsDistinct}
use Rattle.hs_types.specs.declared.ids.InodeId.{InodeId}
use Rattle.hs_types.specs.declared.ids.SnapId.{SnapId}
use Rattle.hs_types.specs.declared.journal.Entry.{Entry}
use Rattle.hs_plain.specs.declared.state.FileBlocks.{FileBlocks}
use Rattle.hs_plain.specs.declared.state.State.{State}
use Rattle.hs_plain.specs.Reading.{is_foreign}
use Rattle.hs_plain.specs.Replay.{plain_after}
use Rattle.hs_plain.specs.State.{is_snapshottable}
use Rattle.hs_plain.specs.Tree.{same_inode}
use Rattle.hs_plain.specs.Viewed as viewed
use Rattle.snapshot_manager.specs.Snapshots.{Snapshots}
use Rattle.inode_table.specs.Climb.{path_up}
use Rattle.inode_table.specs.RowHistory.{shown}
use Rattle.inode_table.specs.Tabled.{Tabled}
use Rattle.inode_table.specs.Whole.{StandsFor}
use Rattle.report_laws.specs.Chains.{HasChainsWithin}
use Rattle.report_laws.specs.Ends.{entries_between}
use Rattle.report_laws.specs.Listed.{one_sided}

-- so many walks up, each of a chain's rows and the one at which it stops, and so many rows beside them
abbrev pub CostLaw : Type 0
CostLaw = (entries longest walks rows : ℕ) → 1 ≤ longest → walks ≤ 12 * entries + 8 → rows ≤ 8 * entries + 16 → walks * (1 + longest) + rows ≤ 16 * (1 + entries) * (1 + longest)

-- for each inode its row, a walk up at either end, and a row and a walk for each of so many entries
abbrev pub looks_at : ℕ → (InodeId → ℕ) → List InodeId → ℕ
looks_at longest entries [] = 0
looks_at longest entries (id ∷ ids) = (1 + 2 * (1 + longest) + entries id * (1 + (1 + longest))) + looks_at longest entries ids

-- how many entries the lists of a directory have at one of two ends alone, where it stands at both
abbrev pub entries_apart : Tabled → InodeId → SnapId → SnapId → InodeId → ℕ
entries_apart table root from to id =
    if is_some (path_up (shown table.rows from.0) root (table.greatest + 1) id) && is_some (path_up (shown table.rows to.0) root (table.greatest + 1) id)
    then length (one_sided (shown table.rows from.0) (shown table.rows to.0) id) else 0

-- of a report, with three inodes and its root's for each entry of the journal between its ends, each looked at once
abbrev pub ReportCostLaw : Type 0
ReportCostLaw = (table : Tabled) (snaps : Snapshots) (state : State FileBlocks) (journal : List Entry) (root : InodeId) (from to : SnapId) (ids : List InodeId) (longest : ℕ)
    → StandsFor table snaps state → viewed.StandsFor state (plain_after journal) → is_snapshottable state root ≡ true → is_foreign state root from ≡ false → is_foreign state root to ≡ false
    → HasChainsWithin (shown table.rows from.0) longest → IsDistinct same_inode ids → length ids ≤ 3 * entries_between state from to + 1
    → looks_at longest (entries_apart table root from to) ids ≤ 16 * (1 + entries_between state from to) * (1 + longest)
