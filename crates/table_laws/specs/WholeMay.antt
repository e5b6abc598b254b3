-- What each call of a table asks, step by step: it holds of a table that stands for a state, where the call isn't refused.
use Rattle.std.specs.Prelude.{◌≡◌, ℕ, ◌+◌, ◌<◌, Bool, List, Some, None, Ok}
use Rattle.hs_types.specs.Names.{Names}
use Rattle.hs_types.specs.declared.ids.InodeId.{InodeId}
use Rattle.hs_types.specs.declared.ids.BlockId.{BlockId}
use Rattle.hs_plain.specs.declared.state.Node.{Node}
use Rattle.hs_plain.specs.declared.state.State.{State}
use Rattle.hs_plain.specs.declared.state.FileBlocks.{FileBlocks}
use Rattle.hs_plain.specs.Files.{Files}
use Rattle.hs_plain.specs.Tree.{node_at}
use Rattle.hs_plain.specs.Modifying.{append_at, mkdir_at, create_at, delete_at, rename_at}
use Rattle.snapshot_manager.specs.Snapshots.{Snapshots}
use Rattle.inode_table.specs.declared.change.Change.TheVariants as changes
use Rattle.inode_table.specs.Kept.{CanChange, IsBare}
use Rattle.inode_table.specs.Reads.{child}
use Rattle.inode_table.specs.RowHistory.{RowHistory, RowState, row_at}
use Rattle.inode_table.specs.Tabled.{Tabled, inserted}
use Rattle.inode_table.specs.Whole.{StandsFor}
use Rattle.table_laws.specs.WholeCalls as tables
use Rattle.table_laws.specs.WholeCalls.{Way, way_to}
use Rattle.table_laws.specs.WholeStands.{Reaches}

abbrev pub SetModeMayLaw : Type 0
SetModeMayLaw = (t : Tabled) (snaps : Snapshots) (state : State FileBlocks) (path : Names) (chain : List InodeId) (node : Node FileBlocks) (mode : ℕ)
    → StandsFor t snaps state → Reaches state path chain node → CanChange t.rows node.id (changes.Mode mode)

abbrev pub AppendMayLaw : Type 0
AppendMayLaw = (t : Tabled) (snaps : Snapshots) (state : State FileBlocks) (text : List ℕ) (path : Names) (chain : List InodeId) (node : Node FileBlocks) (old : FileBlocks) (size : ℕ) (blocks : List BlockId)
    → StandsFor t snaps state → append_at state text ≡ Ok (path, node, old) → Reaches state path chain node → CanChange t.rows node.id (changes.Body size blocks)

-- a new row is put in, and then its entry
pub record MayMake (t : Tabled) (issued : ℕ) (dir id : InodeId) (name : List ℕ) (rows : RowHistory) : Type 0 where
  pub above : t.greatest < id.0
  pub bare : IsBare rows
  pub entry : CanChange (inserted id rows issued t).rows dir (changes.Add name id)

abbrev pub MkdirMayLaw : Type 0
MkdirMayLaw = (t : Tabled) (snaps : Snapshots) (state : State FileBlocks) (text : List ℕ) (above : Names) (name : List ℕ) (chain : List InodeId) (parent : Node FileBlocks)
    → StandsFor t snaps state → mkdir_at state text ≡ Ok (child above name) → Reaches state above chain parent
    → MayMake t snaps.issued.0 parent.id (record { 0 = state.next_inode }) name (tables.dir_rows (record { parent = parent.id; name = name }) (state.tick + 1))

abbrev pub CreateMayLaw : Type 0
CreateMayLaw = (files : Files FileBlocks) (t : Tabled) (snaps : Snapshots) (state : State FileBlocks) (text : List ℕ) (over : Bool) (above : Names) (name : List ℕ) (chain : List InodeId) (parent : Node FileBlocks)
    → StandsFor t snaps state → create_at state text over ≡ Ok (child above name) → Reaches state above chain parent → node_at state.tree (child above name) ≡ None
    → MayMake t snaps.issued.0 parent.id (record { 0 = state.next_inode }) name (tables.file_rows (record { parent = parent.id; name = name }) files.empty (state.tick + 1))

-- the entry of the old file is taken out before
pub record MayReplace (t : Tabled) (state : State FileBlocks) (issued : ℕ) (dir : Way) (id : InodeId) (name : List ℕ) (rows : RowHistory) : Type 0 where
  pub out : CanChange t.rows dir.id (changes.Remove name)
  pub make : MayMake (tables.unlinked state dir name t) issued dir.id id name rows

abbrev pub CreateOverMayLaw : Type 0
CreateOverMayLaw = (files : Files FileBlocks) (t : Tabled) (snaps : Snapshots) (state : State FileBlocks) (text : List ℕ) (over : Bool) (above : Names) (name : List ℕ) (chain : List InodeId) (parent old : Node FileBlocks)
    → StandsFor t snaps state → create_at state text over ≡ Ok (child above name) → Reaches state above chain parent → node_at state.tree (child above name) ≡ Some old
    → MayReplace t state snaps.issued.0 (way_to parent chain) (record { 0 = state.next_inode }) name (tables.file_rows (record { parent = parent.id; name = name }) files.empty (state.tick + 1))

abbrev pub DeleteMayLaw : Type 0
DeleteMayLaw = (t : Tabled) (snaps : Snapshots) (state : State FileBlocks) (text : List ℕ) (recursive : Bool) (above : Names) (name : List ℕ) (chain : List InodeId) (parent : Node FileBlocks)
    → StandsFor t snaps state → delete_at state text recursive ≡ Ok (child above name) → Reaches state above chain parent → CanChange t.rows parent.id (changes.Remove name)

-- an entry out, an entry in, the new spot, and the marks of a row that is there
pub record MayMoveRow (t : Tabled) (state : State FileBlocks) (from to node : Way) (old_name new_name : List ℕ) : Type 0 where
  pub out : CanChange t.rows from.id (changes.Remove old_name)
  pub entry : CanChange (tables.unlinked state from old_name t).rows to.id (changes.Add new_name node.id)
  pub move : CanChange (tables.relinked state from to old_name new_name node.id t).rows node.id (changes.Move (record { parent = to.id; name = new_name }))
  pub row : RowState
  pub there : row_at (tables.placed state from to node old_name new_name t).rows node.id ≡ Some row

abbrev pub RenameMayLaw : Type 0
RenameMayLaw = (t : Tabled) (snaps : Snapshots) (state : State FileBlocks) (old_text new_text : List ℕ) (from to : Names) (old_name new_name : List ℕ) (chain_a chain_b chain_x : List InodeId) (a b x : Node FileBlocks)
    → StandsFor t snaps state → rename_at state old_text new_text ≡ Ok (child from old_name, child to new_name)
    → Reaches state from chain_a a → Reaches state to chain_b b → Reaches state (child from old_name) chain_x x
    → MayMoveRow t state (way_to a chain_a) (way_to b chain_b) (way_to x chain_x) old_name new_name
