-- The other calls that change the live tree: a touch, a deletion, a new node.
use Rattle.std.specs.Prelude.{◌≡◌, ◌≢◌, ℕ, ◌+◌, List, [], Some, None}
use Rattle.std.specs.List.{Contains}
use Rattle.hs_types.specs.Names.{Names}
use Rattle.hs_types.specs.declared.ids.InodeId.{InodeId}
use Rattle.hs_plain.specs.declared.state.Node.{Node}
use Rattle.hs_plain.specs.declared.state.State.{State}
use Rattle.hs_plain.specs.declared.state.Member.{Member}
use Rattle.hs_plain.specs.declared.state.FileBlocks.{FileBlocks}
use Rattle.hs_plain.specs.Tree.{Tree, node_at}
use Rattle.hs_plain.specs.Change.{removed, with_node}
use Rattle.dir_changes.specs.Entries.{with_entry, without_name}
use Rattle.inode_table.specs.Reads.{IsNodes, Has, child}
use Rattle.inode_table.specs.Marks.{IsChain, InCopy, last_of, cover}
use Rattle.inode_table.specs.RowHistory.{Table, RowHistory, rows_at, marks_of, node_in, entries_in, spot_in, last_in, need, Changed}
use Rattle.inode_table.specs.Stands.{Stands, Edits}

-- a live row is changed at its need, which is found by its chain
pub record ChangesAt (state : State FileBlocks) (before after : Table) (path : Names) (node : Node FileBlocks) (old new : RowHistory) : Type 0 where
  pub chain : List InodeId
  pub is_chain : IsChain (node_at state.tree) path chain
  pub at : node_at state.tree path ≡ Some node
  pub step : Changed before after node.id (need state.members (last_in old) (cover (last_of state.members) (marks_of before) chain)) old new

-- a node's mode, stamp or bytes
abbrev pub TouchStandsLaw : Type 0
TouchStandsLaw = (state : State FileBlocks) (tree : Tree FileBlocks) (issued : ℕ) (before after : Table) (path : Names) (node other : Node FileBlocks) (old new : RowHistory)
    → ChangesAt state before after path node old new → other.id ≡ node.id → node_in node.id 0 new ≡ other → entries_in 0 new ≡ entries_in 0 old → spot_in 0 new ≡ spot_in 0 old
    → node_at tree path ≡ Some other → ((q : Names) → q ≢ path → node_at tree q ≡ node_at state.tree q) → IsNodes (node_at state.tree)
    → Stands before state issued → Stands after (record state { tree = tree }) issued

-- a node with all below it goes
abbrev pub DeleteStandsLaw : Type 0
DeleteStandsLaw = (state : State FileBlocks) (issued : ℕ) (before after : Table) (above : Names) (name : List ℕ) (parent : Node FileBlocks) (old new : RowHistory)
    → ChangesAt state before after above parent old new → Edits (state.tick + 1) old new → entries_in 0 new ≡ without_name name (entries_in 0 old) → IsNodes (node_at state.tree)
    → Stands before state issued → Stands after (removed state (child above name)) issued

-- a new row, under a free name
pub record Inserts (before after : Table) (issued : ℕ) (id : InodeId) (rows : RowHistory) : Type 0 where
  pub here : rows_at after id ≡ Some rows
  pub there : (other : InodeId) → other ≢ id → rows_at after other ≡ rows_at before other
  pub mark : marks_of after id ≡ record { since = issued; carry = 0 }
  pub marks : (other : InodeId) → other ≢ id → marks_of after other ≡ marks_of before other

abbrev pub MakeStandsLaw : Type 0
MakeStandsLaw = (state : State FileBlocks) (issued : ℕ) (t0 t1 t2 : Table) (above : Names) (name : List ℕ) (parent node : Node FileBlocks) (fresh old new : RowHistory)
    → Inserts t0 t1 issued node.id fresh → node_in node.id 0 fresh ≡ node → entries_in 0 fresh ≡ [] → spot_in 0 fresh ≡ record { parent = parent.id; name = name }
    → ChangesAt state t1 t2 above parent old new → Edits (state.tick + 1) old new → entries_in 0 new ≡ with_entry name node.id (entries_in 0 old)
    → node_at state.tree (child above name) ≡ None → (Has (node_at state.tree) node.id → ⊥) → ((m : Member FileBlocks) → Contains state.members m → InCopy m node.id → ⊥) → IsNodes (node_at state.tree)
    → Stands t0 state issued → Stands t2 (with_node state (child above name) node) issued
