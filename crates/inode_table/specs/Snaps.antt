-- What a new snapshot, and one less, do to what a table stands for.
use Rattle.std.specs.Prelude.{◌≡◌, ℕ, ◌+◌, ◌≤◌, List, [], ◌∷◌, ◌++◌, Some, IsTrue}
use Rattle.std.specs.List.{Contains}
use Rattle.hs_types.specs.Names.{Names}
use Rattle.hs_types.specs.declared.ids.InodeId.{InodeId}
use Rattle.hs_plain.specs.declared.state.State.{State}
use Rattle.hs_plain.specs.declared.state.Member.{Member}
use Rattle.hs_plain.specs.declared.state.FileBlocks.{FileBlocks}
use Rattle.hs_plain.specs.Tree.{node_at}
use Rattle.file_changes.specs.History as files
use Rattle.dir_changes.specs.History as dirs
use Rattle.inode_table.specs.Reads.{IsNodes}
use Rattle.inode_table.specs.Marks.{Copies}
use Rattle.inode_table.specs.RowHistory.{RowHistory, File, Dir, Table, rows_at, marks_of, last_in, ReadsAlike}
use Rattle.inode_table.specs.Stands.{Stands}

abbrev pub Rising : RowHistory → Type 0
Rising (File file) = IsTrue (files.rising 0 file.records)
Rising (Dir dir) = IsTrue (dirs.rising 0 dir.records)

-- the numbers of each row rise, and none is above the greatest id issued
abbrev pub NumbersWithin : Table → ℕ → Type 0
NumbersWithin table issued = (id : InodeId) (rows : RowHistory) → rows_at table id ≡ Some rows → Rising rows × (last_in rows ≤ issued)

-- the state with one snapshot more
abbrev pub with_member : State FileBlocks → Member FileBlocks → State FileBlocks
with_member state m = record state { members = state.members ++ m ∷ [] }

abbrev pub SnapStandsLaw : Type 0
SnapStandsLaw = (table : Table) (state : State FileBlocks) (issued : ℕ) (path : Names) (m : Member FileBlocks) → Copies (node_at state.tree) path m → m.snapshot.0 ≡ issued + 1 → IsNodes (node_at state.tree)
    → NumbersWithin table issued → Stands table state issued → Stands table (with_member state m) (issued + 1)

-- each row reads alike now and at the snapshots that are left
pub record Drops (before after : Table) (fewer : List (Member FileBlocks)) : Type 0 where
  pub row : (id : InodeId) (old : RowHistory) → rows_at before id ≡ Some old → (new : RowHistory) × (rows_at after id ≡ Some new) × ReadsAlike 0 old new × ((m : Member FileBlocks) → Contains fewer m → ReadsAlike m.snapshot.0 old new)
  pub marks : (id : InodeId) → marks_of after id ≡ marks_of before id

abbrev pub DropStandsLaw : Type 0
DropStandsLaw = (before after : Table) (state : State FileBlocks) (issued : ℕ) (fewer : List (Member FileBlocks)) → Drops before after fewer → ((m : Member FileBlocks) → Contains fewer m → Contains state.members m)
    → Stands before state issued → Stands after (record state { members = fewer }) issued
