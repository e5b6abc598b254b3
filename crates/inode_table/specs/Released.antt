-- Rows that no list names go, one after the other, and hand out their blocks.
use Rattle.std.specs.Prelude.{◌≡◌, ◌≢◌, ◌==◌, ◌≤◌, ◌+◌, ℕ, zero, suc, not, List, [], ◌∷◌, ◌++◌, length, Some}
use Rattle.std.specs.List.{Contains}
use Rattle.std.specs.FinMap.Entries.{where_key}
use Rattle.hs_types.specs.declared.ids.BlockId.{BlockId}
use Rattle.hs_types.specs.declared.ids.InodeId.{InodeId}
use Rattle.hs_plain.specs.declared.state.Member.{Member}
use Rattle.hs_plain.specs.declared.state.State.{State}
use Rattle.hs_plain.specs.declared.state.FileBlocks.{FileBlocks}
use Rattle.hs_plain.specs.Tree.{node_at, same_inode}
use Rattle.file_changes.specs.History as files
use Rattle.file_changes.specs.History.{FileHistory, blocks_at, only_at}
use Rattle.dir_changes.specs.Counts.{one_where}
use Rattle.inode_table.specs.declared.freed.Freed.{Freed}
use Rattle.inode_table.specs.Reads.{IsNodes, Has}
use Rattle.inode_table.specs.RowHistory.{RowHistory, RowState, File, Dir, Table, row_at, id_order}
use Rattle.inode_table.specs.Stands.{Stands, root_id}
use Rattle.inode_table.specs.Names.{named_in, times_named, Releases}
use Rattle.inode_table.specs.Tabled.{Tabled, named_less}
use Rattle.inode_table.specs.Whole.{AllNamed}

-- each of these ids is named once less
abbrev pub all_named_less : List InodeId → Table → Table
all_named_less [] table = table
all_named_less (id ∷ ids) table = all_named_less ids (named_less id table)

abbrev pub without_row : InodeId → Table → Table
without_row id table = where_key id_order (λ other. not (same_inode other id)) table

-- the blocks that go with the first n records of a file and its current state: record after record, from the last one down
abbrev pub blocks_below : ℕ → FileHistory → List BlockId
blocks_below zero file = file.current.blocks
blocks_below (suc n) file = only_at n file ++ blocks_below n (files.without_record n file)

-- the blocks of all states
abbrev pub blocks_in : RowHistory → List BlockId
blocks_in (File file) = blocks_below (length file.records) file
blocks_in (Dir dir) = []

-- a row goes: what its lists name is named once less, and its blocks wait
abbrev pub let_go : InodeId → RowHistory → Tabled → Tabled
let_go id rows t = record t { rows = all_named_less (named_in rows) (without_row id t.rows); waiting = t.waiting ++ blocks_in rows }

-- a row that may go
pub record MayGo (table : Table) (id : InodeId) (row : RowState) : Type 0 where
  pub there : row_at table id ≡ Some row
  pub not_root : id ≢ root_id
  pub not_named : times_named id table ≡ 0

-- these rows go in turn
abbrev pub ReleasedBy : Tabled → List InodeId → Tabled → Type 0
ReleasedBy before [] after = after ≡ before
ReleasedBy before (id ∷ gone) after = (row : RowState) × MayGo before.rows id row × ReleasedBy (let_go id row.rows before) gone after

-- rows go in turn until each that is left is named, and all blocks that wait are handed out
pub record Releasing (before : Tabled) (freed : Freed) (after : Tabled) : Type 0 where
  pub gone : List InodeId
  pub steps : ReleasedBy before gone (record after { waiting = freed.blocks })
  pub all_named : AllNamed after.rows
  pub rows : freed.rows ≡ length gone
  pub waiting : after.waiting ≡ []

-- ---- the plain state

-- a row that goes isn't read
abbrev pub LetGoLaw : Type 0
LetGoLaw = (t : Tabled) (id : InodeId) (row : RowState) → MayGo t.rows id row → Releases t.rows (let_go id row.rows t).rows id

abbrev pub ReleasedStandsLaw : Type 0
ReleasedStandsLaw = (before after : Tabled) (gone : List InodeId) (state : State FileBlocks) (issued : ℕ) → ReleasedBy before gone after → IsNodes (node_at state.tree)
    → ((m : Member FileBlocks) → Contains state.members m → IsNodes (node_at m.tree)) → ((m : Member FileBlocks) → Contains state.members m → Has (node_at state.tree) m.directory)
    → Stands before.rows state issued → Stands after.rows state issued

-- ---- blocks

abbrev pub times_block : BlockId → List BlockId → ℕ
times_block block [] = 0
times_block block (other ∷ blocks) = one_where (other.0 == block.0) + times_block block blocks

-- no state names a block twice
pub record AreApart (file : FileHistory) : Type 0 where
  pub current : (block : BlockId) → times_block block file.current.blocks ≤ 1
  pub saved : (i : ℕ) (block : BlockId) → times_block block (blocks_at file.records i) ≤ 1

-- a file that goes hands out each block that a state names, once, and no other
abbrev pub BlocksOnceLaw : Type 0
BlocksOnceLaw = (file : FileHistory) (block : BlockId) → AreApart file → times_block block (blocks_in (File file)) ≡ one_where (files.names file block)
