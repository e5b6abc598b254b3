-- What a table and snapshots in memory tell of the plain ones.
use Rattle.std.specs.Prelude.{◌≡◌, List, map}
use Rattle.std.specs.Option.{option_map}
use Rattle.hs_types.specs.declared.ids.InodeId.{InodeId}
use Rattle.hs_types.specs.declared.name.SnapItem.{SnapItem}
use Rattle.hs_plain.specs.declared.state.Member.{Member}
use Rattle.hs_plain.specs.declared.state.FileBlocks.{FileBlocks}
use Rattle.snapshot_manager.specs.Snapshots.{Snapshots}
use Rattle.snapshot_manager.specs.Members.{AreMembers}
use Rattle.inode_table.specs.declared.row.Row.{Row}
use Rattle.inode_table.specs.Marks.{last_of}
use Rattle.inode_table.specs.RowHistory.{row_at, marks_of}
use Rattle.inode_table.specs.Numbered.{row_of, state_of, table_of, marks_in, last_live}

-- a snapshot of a plain state, as snapshots in memory have it
abbrev pub told : Member FileBlocks → InodeId × SnapItem
told m = (m.directory, record { id = m.snapshot; tick = m.tick; name = m.name })

-- the snapshots of a plain state are these
abbrev pub AreTold : List (Member FileBlocks) → Snapshots → Type 0
AreTold members snaps = AreMembers (map told members) snaps

-- a row of the table stands for a row of the plain one
abbrev pub RowLaw : Type 0
RowLaw = (rows : List (InodeId × Row)) (id : InodeId) → row_at (table_of rows) id ≡ option_map state_of (row_of rows id)

-- and has its marks
abbrev pub MarksLaw : Type 0
MarksLaw = (rows : List (InodeId × Row)) (id : InodeId) → marks_of (table_of rows) id ≡ marks_in rows id

-- the last live ids are the plain state's
abbrev pub LastLaw : Type 0
LastLaw = (members : List (Member FileBlocks)) (snaps : Snapshots) (dir : InodeId) → AreTold members snaps → last_live snaps dir ≡ last_of members dir
