-- After each call the table stands for the plain state after it: live tree, copied trees, spots and marks.
use Rattle.std.specs.Prelude.{◌≡◌, ℕ, ◌+◌, List, [], Some, None, true}
use Rattle.std.specs.List.{Contains}
use Rattle.hs_types.specs.Names.{Names}
use Rattle.hs_types.specs.declared.ids.InodeId.{InodeId}
use Rattle.hs_plain.specs.declared.state.Node.{Node}
use Rattle.hs_plain.specs.declared.state.Body.TheVariants as bodies
use Rattle.hs_plain.specs.declared.state.State.{State}
use Rattle.hs_plain.specs.declared.state.Member.{Member}
use Rattle.hs_plain.specs.declared.state.FileBlocks.{FileBlocks}
use Rattle.hs_plain.specs.Tree.{node_at, is_dir}
use Rattle.hs_plain.specs.Change.{with_mode, with_file, with_node, removed, renamed, snapped}
use Rattle.inode_table.specs.declared.change.Change.TheVariants as changes
use Rattle.inode_table.specs.declared.freed.Freed.{Freed}
use Rattle.inode_table.specs.Reads.{IsNodes, Has, child}
use Rattle.inode_table.specs.Marks.{IsChain, InCopy}
use Rattle.inode_table.specs.RowHistory.{RowHistory, node_in, entries_in, spot_in}
use Rattle.inode_table.specs.Stands.{Stands}
use Rattle.inode_table.specs.Snaps.{NumbersWithin}
use Rattle.inode_table.specs.Calls.{MayMove}
use Rattle.inode_table.specs.Released.{Releasing}
use Rattle.inode_table.specs.FromValid.{GivesNodes}
use Rattle.inode_table.specs.Tabled.{Tabled}
use Rattle.table_laws.specs.Naming.{AllSound}
use Rattle.table_laws.specs.WholeCalls as tables
use Rattle.table_laws.specs.WholeCalls.{Way, way_to}

-- the node at a path, and the ids from the root down to it
pub record Reaches (state : State FileBlocks) (path : Names) (chain : List InodeId) (node : Node FileBlocks) : Type 0 where
  pub at : node_at state.tree path ≡ Some node
  pub leads : IsChain (node_at state.tree) path chain

-- what is known of a table before each call
pub record Before (t : Tabled) (state : State FileBlocks) (issued : ℕ) : Type 0 where
  pub nodes : IsNodes (node_at state.tree)
  pub sound : AllSound t.rows
  pub stands : Stands t.rows state issued

-- another mode
abbrev pub ModeStandsLaw : Type 0
ModeStandsLaw = (t : Tabled) (state : State FileBlocks) (issued : ℕ) (path : Names) (chain : List InodeId) (node : Node FileBlocks) (mode : ℕ)
    → Before t state issued → Reaches state path chain node → Stands (tables.touched state (way_to node chain) (changes.Mode mode) t).rows (with_mode state mode path) issued

-- other bytes
abbrev pub BodyStandsLaw : Type 0
BodyStandsLaw = (t : Tabled) (state : State FileBlocks) (issued : ℕ) (path : Names) (chain : List InodeId) (node : Node FileBlocks) (old file : FileBlocks)
    → Before t state issued → Reaches state path chain node → node.body ≡ bodies.File old
    → Stands (tables.touched state (way_to node chain) (changes.Body file.size file.blocks) t).rows (with_file state path node file) issued

-- a new row shows a new node, which stands in no tree
pub record IsNew (state : State FileBlocks) (parent node : Node FileBlocks) (name : List ℕ) (rows : RowHistory) : Type 0 where
  pub shows : node_in node.id 0 rows ≡ node
  pub entries : entries_in 0 rows ≡ []
  pub spot : spot_in 0 rows ≡ record { parent = parent.id; name = name }
  pub not_live : Has (node_at state.tree) node.id → ⊥
  pub not_copied : (m : Member FileBlocks) → Contains state.members m → InCopy m node.id → ⊥

abbrev pub NodeStandsLaw : Type 0
NodeStandsLaw = (t : Tabled) (state : State FileBlocks) (issued : ℕ) (above : Names) (chain : List InodeId) (parent node : Node FileBlocks) (name : List ℕ) (rows : RowHistory)
    → Before t state issued → Reaches state above chain parent → is_dir parent ≡ true → node_at state.tree (child above name) ≡ None → IsNew state parent node name rows
    → Stands (tables.made state issued (way_to parent chain) name node.id rows t).rows (with_node state (child above name) node) issued

-- an entry less, before rows go
abbrev pub UnlinkStandsLaw : Type 0
UnlinkStandsLaw = (t : Tabled) (state : State FileBlocks) (issued : ℕ) (above : Names) (chain : List InodeId) (parent node : Node FileBlocks) (name : List ℕ)
    → Before t state issued → Reaches state above chain parent → node_at state.tree (child above name) ≡ Some node
    → Stands (tables.unlinked state (way_to parent chain) name t).rows (removed state (child above name)) issued

-- and as they have gone
abbrev pub DeletedStandsLaw : Type 0
DeletedStandsLaw = (t after : Tabled) (freed : Freed) (state : State FileBlocks) (issued : ℕ) (above : Names) (chain : List InodeId) (parent node : Node FileBlocks) (name : List ℕ)
    → Before t state issued → Reaches state above chain parent → node_at state.tree (child above name) ≡ Some node → GivesNodes (removed state (child above name))
    → Releasing (tables.unlinked state (way_to parent chain) name t) freed after → Stands after.rows (removed state (child above name)) issued

-- what is known of a rename that isn't refused
pub record MayRename (state : State FileBlocks) (from to : Names) (old_name new_name : List ℕ) (chain_a chain_b chain_x : List InodeId) (a b x : Node FileBlocks) : Type 0 where
  pub moves : MayMove state.tree from to old_name new_name a b x
  pub dir : is_dir b ≡ true
  pub leads_a : IsChain (node_at state.tree) from chain_a
  pub leads_b : IsChain (node_at state.tree) to chain_b
  pub leads_x : IsChain (node_at state.tree) (child from old_name) chain_x

abbrev pub RenamedStandsLaw : Type 0
RenamedStandsLaw = (t : Tabled) (state : State FileBlocks) (issued : ℕ) (from to : Names) (old_name new_name : List ℕ) (chain_a chain_b chain_x : List InodeId) (a b x : Node FileBlocks)
    → Before t state issued → MayRename state from to old_name new_name chain_a chain_b chain_x a b x
    → Stands (tables.renamed state issued (way_to a chain_a) (way_to b chain_b) (way_to x chain_x) old_name new_name t).rows (renamed state (child from old_name, child to new_name)) issued

-- a snapshot changes no row
abbrev pub SnappedStandsLaw : Type 0
SnappedStandsLaw = (t : Tabled) (state : State FileBlocks) (issued : ℕ) (path : Names) (node : Node FileBlocks) (name : List ℕ)
    → Before t state issued → NumbersWithin t.rows issued → node_at state.tree path ≡ Some node → state.next_snapshot ≡ issued + 1 → Stands t.rows (snapped state name (path, node)) (issued + 1)
