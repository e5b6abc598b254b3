-- When the rows of a table stand for a state, live and frozen, with the marks; and what a rename does to a table.
use Rattle.std.specs.Prelude.{◌≡◌, ◌≢◌, ℕ, ◌+◌, ◌≤◌, List, Some}
use Rattle.std.specs.List.{Contains}
use Rattle.hs_types.specs.Names.{Names}
use Rattle.hs_types.specs.declared.ids.InodeId.{InodeId}
use Rattle.hs_plain.specs.declared.state.Node.{Node}
use Rattle.hs_plain.specs.declared.state.State.{State}
use Rattle.hs_plain.specs.declared.state.Member.{Member}
use Rattle.hs_plain.specs.declared.state.FileBlocks.{FileBlocks}
use Rattle.hs_plain.specs.Tree.{node_at}
use Rattle.hs_plain.specs.Change.{renamed}
use Rattle.dir_changes.specs.Entries.{with_entry, without_name}
use Rattle.inode_table.specs.Reads.{ReadsAs, IsNodes, child}
use Rattle.inode_table.specs.Marks.{AreMarks, IsTop, IsChain, last_of, cover}
use Rattle.inode_table.specs.RowHistory.{Table, RowHistory, rows_at, shown, marks_of, node_in, entries_in, spot_in, last_in, need, IsFrozen, Changed}
use Rattle.inode_table.specs.Calls.{MayMove}

abbrev pub root_id : InodeId
root_id = record { 0 = 1 }

pub record Stands (table : Table) (state : State FileBlocks) (issued : ℕ) : Type 0 where
  pub live : ReadsAs (shown table 0) root_id (node_at state.tree)
  pub frozen : IsFrozen table state.members
  pub marks : AreMarks (node_at state.tree) state.members (marks_of table) issued
  pub top : IsTop state.members (marks_of table) root_id
  pub ids_issued : (m : Member FileBlocks) → Contains state.members m → m.snapshot.0 ≤ issued

-- the row's current state, with a stamp and other entries
pub record Edits (tick : ℕ) (old new : RowHistory) : Type 0 where
  pub node : (id : InodeId) → node_in id 0 new ≡ record (node_in id 0 old) { stamp = tick }
  pub spot : spot_in 0 new ≡ spot_in 0 old

-- the calls of a rename: an entry out, an entry in, the new spot, and the marks. Needs and covers are found before
pub record TableRenames (state : State FileBlocks) (issued : ℕ) (t0 t1 t2 t3 t4 : Table) (from to : Names) (old_name new_name : List ℕ) (a b x : Node FileBlocks) : Type 0 where
  pub chain_a : List InodeId
  pub chain_b : List InodeId
  pub chain_x : List InodeId
  pub is_chain_a : IsChain (node_at state.tree) from chain_a
  pub is_chain_b : IsChain (node_at state.tree) to chain_b
  pub is_chain_x : IsChain (node_at state.tree) (child from old_name) chain_x
  pub oa : RowHistory
  pub na : RowHistory
  pub ob0 : RowHistory
  pub ob : RowHistory
  pub nb : RowHistory
  pub ox : RowHistory
  pub nx : RowHistory
  pub was_b : rows_at t0 b.id ≡ Some ob0
  pub step_a : Changed t0 t1 a.id (need state.members (last_in oa) (cover (last_of state.members) (marks_of t0) chain_a)) oa na
  pub step_b : Changed t1 t2 b.id (need state.members (last_in ob0) (cover (last_of state.members) (marks_of t0) chain_b)) ob nb
  pub step_x : Changed t2 t3 x.id (need state.members (last_in ox) (cover (last_of state.members) (marks_of t0) chain_x)) ox nx
  pub edit_a : Edits (state.tick + 1) oa na
  pub left : entries_in 0 na ≡ without_name old_name (entries_in 0 oa)
  pub edit_b : Edits (state.tick + 1) ob nb
  pub put : entries_in 0 nb ≡ with_entry new_name x.id (entries_in 0 ob)
  pub node_x : (id : InodeId) → node_in id 0 nx ≡ node_in id 0 ox
  pub entries_x : entries_in 0 nx ≡ entries_in 0 ox
  pub placed : spot_in 0 nx ≡ record { parent = b.id; name = new_name }
  pub rows_last : (id : InodeId) → rows_at t4 id ≡ rows_at t3 id
  pub mark_x : marks_of t4 x.id ≡ record { since = issued; carry = cover (last_of state.members) (marks_of t0) chain_x }
  pub marks_other : (id : InodeId) → id ≢ x.id → marks_of t4 id ≡ marks_of t3 id

abbrev pub RenameLaw : Type 0
RenameLaw = (state : State FileBlocks) (issued : ℕ) (t0 t1 t2 t3 t4 : Table) (from to : Names) (old_name new_name : List ℕ) (a b x : Node FileBlocks)
    → TableRenames state issued t0 t1 t2 t3 t4 from to old_name new_name a b x → MayMove state.tree from to old_name new_name a b x → IsNodes (node_at state.tree)
    → Stands t0 state issued → Stands t4 (renamed state (child from old_name, child to new_name)) issued
