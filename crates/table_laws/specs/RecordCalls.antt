-- Live rows changed at their needs, as a call of a namenode does it.
use Rattle.std.specs.Prelude.{◌≡◌, ℕ, ◌+◌, ◌≤◌, List, map, length, Option, Some, None}
use Rattle.std.specs.List.{Contains}
use Rattle.hs_types.specs.Names.{Names}
use Rattle.hs_types.specs.declared.ids.InodeId.{InodeId}
use Rattle.hs_plain.specs.declared.state.State.{State}
use Rattle.hs_plain.specs.declared.state.FileBlocks.{FileBlocks}
use Rattle.hs_plain.specs.Tree.{node_at}
use Rattle.hs_plain.specs.Valid.{IsValid}
use Rattle.inode_table.specs.declared.change.Change.{Change}
use Rattle.inode_table.specs.Marks.{IsChain, last_of, cover}
use Rattle.inode_table.specs.Reads.{id_of}
use Rattle.inode_table.specs.RowHistory.{RowHistory, Table, rows_at, marks_of, last_in, need}
use Rattle.inode_table.specs.Stands.{Stands}
use Rattle.inode_table.specs.Tabled.{Tabled}
use Rattle.inode_table.specs.Whole.{IsFilled}
use Rattle.table_laws.specs.Recording.{IsRecorded}
use Rattle.table_laws.specs.RecordTurns.{RowChange, all_changed, CanAll}

-- a change of a live row: its path, and the ids from the root down to it
pub record LiveChange : Type 0 where
  pub path : Names
  pub chain : List InodeId
  pub id : InodeId
  pub what : Change

-- its row is the live one at that path
pub record IsLiveChange (state : State FileBlocks) (change : LiveChange) : Type 0 where
  pub at : id_of (node_at state.tree change.path) ≡ Some change.id
  pub leads : IsChain (node_at state.tree) change.path change.chain

-- the last number of a row that may be there
abbrev pub last_or_none : Option RowHistory → ℕ
last_or_none None = 0
last_or_none (Some rows) = last_in rows

-- at the row's need, by what the table is before the call
abbrev pub at_need : State FileBlocks → Table → LiveChange → RowChange
at_need state before c = record { id = c.id; number = need state.members (last_or_none (rows_at before c.id)) (cover (last_of state.members) (marks_of before) c.chain); what = c.what }

-- all of them in turn, at the next tick
abbrev pub live_changed : State FileBlocks → Table → List LiveChange → Tabled → Tabled
live_changed state before cs t = all_changed (state.tick + 1) (map (at_need state before) cs) t

-- what is known as they begin: the table before the call stands for a state; since then these rows are as they were
pub record MayCall (state : State FileBlocks) (issued : ℕ) (before : Table) (cs : List LiveChange) (t : Tabled) : Type 0 where
  pub valid : IsValid state
  pub stands : Stands before state issued
  pub live : (c : LiveChange) → Contains cs c → IsLiveChange state c
  pub same : (c : LiveChange) → Contains cs c → rows_at t.rows c.id ≡ rows_at before c.id
  pub can : CanAll (state.tick + 1) (map (at_need state before) cs) t

-- the call keeps records and index
abbrev pub CallRecordsLaw : Type 0
CallRecordsLaw = (state : State FileBlocks) (issued : ℕ) (before : Table) (cs : List LiveChange) (t : Tabled) → MayCall state issued before cs t
    → IsRecorded t state.members issued → IsRecorded (live_changed state before cs t) state.members issued

-- the index gets at most one entry for each row
abbrev pub CallFilledLaw : Type 0
CallFilledLaw = (state : State FileBlocks) (issued used : ℕ) (before : Table) (cs : List LiveChange) (ids : List InodeId) (t : Tabled) → MayCall state issued before cs t
    → ((c : LiveChange) → Contains cs c → Contains ids c.id) → used + length ids ≤ 3
    → IsFilled t.index (state.tick + 1) used → IsFilled (live_changed state before cs t).index (state.tick + 1) (used + length ids)
