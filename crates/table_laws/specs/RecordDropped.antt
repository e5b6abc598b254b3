-- A snapshot is deleted: the rows that the index has from its tick on are looked at, each in turn.
use Rattle.std.specs.Prelude.{◌≡◌, ◌⊎◌, ℕ, List, [], ◌∷◌, Some}
use Rattle.std.specs.List.{Contains}
use Rattle.hs_types.specs.declared.ids.InodeId.{InodeId}
use Rattle.hs_plain.specs.declared.state.Member.{Member}
use Rattle.hs_plain.specs.declared.state.State.{State}
use Rattle.hs_plain.specs.declared.state.FileBlocks.{FileBlocks}
use Rattle.hs_plain.specs.Change.{unsnapped}
use Rattle.inode_table.specs.Indexed.{made_between}
use Rattle.inode_table.specs.Merged.{merged}
use Rattle.inode_table.specs.Records.{Recorded, Loses}
use Rattle.inode_table.specs.RowHistory.{RowState, row_at}
use Rattle.inode_table.specs.Stands.{Stands}
use Rattle.inode_table.specs.Tabled.{Tabled}
use Rattle.inode_table.specs.Whole.{numbers_in, IsFilled}
use Rattle.table_laws.specs.Recording.{IsRecorded}

-- the record that lost the last live id of its interval is merged away
pub record MergesLost (fewer : List (Member FileBlocks)) (id : InodeId) (before after : Tabled) : Type 0 where
  pub row : RowState
  pub there : row_at before.rows id ≡ Some row
  pub lost : Loses fewer 0 (numbers_in row.rows)
  pub is : after ≡ merged id lost.i before

-- the row lost nothing, or isn't there
pub record StaysAlike (fewer : List (Member FileBlocks)) (id : InodeId) (before after : Tabled) : Type 0 where
  pub keeps : (row : RowState) → row_at before.rows id ≡ Some row → Recorded fewer 0 (numbers_in row.rows)
  pub is : after ≡ before

-- each of these rows is looked at in turn
abbrev pub LooksAt : List (Member FileBlocks) → List InodeId → Tabled → Tabled → Type 0
LooksAt fewer [] before after = after ≡ before
LooksAt fewer (id ∷ ids) before after = (middle : Tabled) × (MergesLost fewer id before middle ⊎ StaysAlike fewer id before middle) × LooksAt fewer ids middle after

-- so from one table to another
pub record DropsSnapshot (state : State FileBlocks) (issued used : ℕ) (gone : Member FileBlocks) (before after : Tabled) : Type 0 where
  pub was : Contains state.members gone
  pub records : IsRecorded before state.members issued
  pub filled : IsFilled before.index state.tick used
  pub looks : LooksAt (unsnapped state gone.snapshot).members (made_between gone.tick state.tick before.rows before.index) before after

-- records and index are as they should be without the snapshot, and the index is the same
abbrev pub DroppedRecordsLaw : Type 0
DroppedRecordsLaw = (state : State FileBlocks) (issued used : ℕ) (gone : Member FileBlocks) (before after : Tabled) → DropsSnapshot state issued used gone before after
    → IsRecorded after (unsnapped state gone.snapshot).members issued × (after.index ≡ before.index)

-- and the table stands for the state without it: live tree, copied trees, spots and marks
abbrev pub DroppedStandsLaw : Type 0
DroppedStandsLaw = (state : State FileBlocks) (issued used : ℕ) (gone : Member FileBlocks) (before after : Tabled) → DropsSnapshot state issued used gone before after
    → Stands before.rows state issued → Stands after.rows (unsnapped state gone.snapshot) issued
