-- The rows of a table at one end of a report: they are read as the tree of that end.
use Rattle.std.specs.Prelude.{◌≡◌, true, false}
use Rattle.hs_types.specs.declared.ids.InodeId.{InodeId}
use Rattle.hs_types.specs.declared.ids.SnapId.{SnapId}
use Rattle.hs_plain.specs.declared.state.State.{State}
use Rattle.hs_plain.specs.declared.state.FileBlocks.{FileBlocks}
use Rattle.hs_plain.specs.Reading.{end_tree, is_foreign}
use Rattle.hs_plain.specs.State.{is_snapshottable}
use Rattle.hs_plain.specs.Tree.{node_at}
use Rattle.snapshot_manager.specs.Snapshots.{Snapshots}
use Rattle.inode_table.specs.Reads.{ReadsAs, IsNodes}
use Rattle.inode_table.specs.RowHistory.{shown}
use Rattle.inode_table.specs.Tabled.{Tabled}
use Rattle.inode_table.specs.Whole.{StandsFor}

pub record ReadsEnd (table : Tabled) (state : State FileBlocks) (root : InodeId) (end : SnapId) : Type 0 where
  pub reads : ReadsAs (shown table.rows end.0) root (node_at (end_tree state root end))
  pub nodes : IsNodes (node_at (end_tree state root end))

-- an end that is the current state of a snapshottable directory, or a snapshot of it
abbrev pub EndReadsLaw : Type 0
EndReadsLaw = (table : Tabled) (snaps : Snapshots) (state : State FileBlocks) (root : InodeId) (end : SnapId)
    → StandsFor table snaps state → is_snapshottable state root ≡ true → is_foreign state root end ≡ false → ReadsEnd table state root end
