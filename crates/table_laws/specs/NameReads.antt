-- What the laws of names ask for, from a tree that is read.
use Rattle.std.specs.Prelude.{◌≡◌, ◌≢◌, ℕ, ◌<◌, ◌≤◌, List, Some, None}
use Rattle.hs_types.specs.Names.{Names}
use Rattle.hs_types.specs.declared.ids.InodeId.{InodeId}
use Rattle.hs_plain.specs.declared.state.Node.{Node}
use Rattle.hs_plain.specs.declared.state.Body.TheVariants as bodies
use Rattle.hs_plain.specs.declared.state.State.{State}
use Rattle.hs_plain.specs.declared.state.FileBlocks.{FileBlocks}
use Rattle.hs_plain.specs.Tree.{node_at}
use Rattle.inode_table.specs.Reads.{Nodes, ReadsAs, IsNodes, child}
use Rattle.inode_table.specs.RowHistory.{RowState, Table, row_at, shown}
use Rattle.inode_table.specs.Stands.{Stands, root_id}
use Rattle.inode_table.specs.Once.{Lists, IsIn}
use Rattle.table_laws.specs.Naming.{lists_of, IsLive}
use Rattle.table_laws.specs.NameLists.{HasPlace}

-- a child's entry is in its parent's list
abbrev pub EntryThereLaw : Type 0
EntryThereLaw = (table : Table) (top : InodeId) (nodes : Nodes FileBlocks) (path : Names) (name : List ℕ) (parent x : Node FileBlocks)
    → ReadsAs (shown table 0) top nodes → nodes path ≡ Some parent → nodes (child path name) ≡ Some x → IsIn (lists_of table) parent.id name x.id

-- a directory without such a child has a place for its entry
abbrev pub EntryFreeLaw : Type 0
EntryFreeLaw = (table : Table) (top : InodeId) (nodes : Nodes FileBlocks) (path : Names) (name : List ℕ) (parent : Node FileBlocks)
    → ReadsAs (shown table 0) top nodes → nodes path ≡ Some parent → parent.body ≡ bodies.Dir → nodes (child path name) ≡ None → HasPlace table parent.id name

-- a child isn't the root
abbrev pub NotRootLaw : Type 0
NotRootLaw = (table : Table) (nodes : Nodes FileBlocks) (path : Names) (name : List ℕ) (x : Node FileBlocks) → IsNodes nodes → ReadsAs (shown table 0) root_id nodes → nodes (child path name) ≡ Some x → x.id ≢ root_id

-- an id above all has no row
abbrev pub NoRowLaw : Type 0
NoRowLaw = (table : Table) (greatest : ℕ) (id : InodeId) → ((x : InodeId) (row : RowState) → row_at table x ≡ Some row → x.0 ≤ greatest) → greatest < id.0 → row_at table id ≡ None

-- a directory of the live tree, where a table with these lists stands for it
abbrev pub LiveLaw : Type 0
LiveLaw = (table : Table) (lists : Lists) (state : State FileBlocks) (issued : ℕ) (path : Names) (node : Node FileBlocks) → Stands table state issued → IsNodes (node_at state.tree) → node_at state.tree path ≡ Some node
    → ((dir : InodeId) → lists_of table dir ≡ lists dir) → IsLive lists node.id
