-- How often rows are named, and what no list names any more.
use Rattle.std.specs.Prelude.{◌≡◌, ◌≢◌, ℕ, ◌+◌, ◌<◌, if◌then◌else◌, List, [], length, Some, None, true}
use Rattle.std.specs.List.{Contains}
use Rattle.std.specs.FinMap.Entries.{put, is_sorted}
use Rattle.hs_types.specs.declared.ids.InodeId.{InodeId}
use Rattle.hs_plain.specs.declared.state.Member.{Member}
use Rattle.hs_plain.specs.declared.state.State.{State}
use Rattle.hs_plain.specs.declared.state.FileBlocks.{FileBlocks}
use Rattle.hs_plain.specs.Tree.{node_at}
use Rattle.dir_changes.specs.Entries.{id_at}
use Rattle.dir_changes.specs.Sound.{IsSound}
use Rattle.dir_changes.specs.History.{DirHistory, ids_of, added, removed, without_record, dropped_at}
use Rattle.dir_changes.specs.Counts as counts
use Rattle.dir_changes.specs.Counts.{times, one_where, same_id, goes_to_deleted}
use Rattle.inode_table.specs.Reads.{Nodes, ReadsAs, IsNodes, Has}
use Rattle.inode_table.specs.RowHistory.{RowHistory, RowState, File, Dir, Table, row_at, rows_at, marks_of, shown, id_order}
use Rattle.inode_table.specs.Stands.{Stands, root_id}
use Rattle.inode_table.specs.Totals.{total}

-- the ids that a row's lists name: the current list, and the deleted lists of its records
abbrev pub named_in : RowHistory → List InodeId
named_in (File file) = []
named_in (Dir dir) = counts.named_in dir

-- how often the rows of a table name an id
abbrev pub times_named : InodeId → Table → ℕ
times_named id table = total (λ row. times id (named_in row.rows)) table

-- one row less; how often the others are named may change
pub record Releases (before after : Table) (x : InodeId) : Type 0 where
  pub there : (id : InodeId) → id ≢ x → rows_at after id ≡ rows_at before id
  pub marks : (id : InodeId) → id ≢ x → marks_of after id ≡ marks_of before id
  pub not_root : x ≢ root_id
  pub not_named : (id : InodeId) (rows : RowHistory) → rows_at before id ≡ Some rows → times x (named_in rows) ≡ 0

-- what is read at a snapshot is named now
abbrev pub ReadNamedLaw : Type 0
ReadNamedLaw = (table : Table) (s : ℕ) (top : InodeId) (f : Nodes FileBlocks) (x : InodeId) → ReadsAs (shown table s) top f → IsNodes f → Has f x → x ≢ top
    → (id : InodeId) × (rows : RowHistory) × (rows_at table id ≡ Some rows) × (0 < times x (named_in rows))

abbrev pub ReleaseLaw : Type 0
ReleaseLaw = (before after : Table) (state : State FileBlocks) (issued : ℕ) (x : InodeId) → Releases before after x → IsNodes (node_at state.tree)
    → ((m : Member FileBlocks) → Contains state.members m → IsNodes (node_at m.tree)) → ((m : Member FileBlocks) → Contains state.members m → Has (node_at state.tree) m.directory)
    → Stands before state issued → Stands after state issued

-- a count over the table when one row's lists change
abbrev pub PutNamedLaw : Type 0
PutNamedLaw = (table : Table) (id x : InodeId) (old new : RowState) → is_sorted id_order table ≡ true → row_at table id ≡ Some old
    → times_named x (put id_order id new table) + times x (named_in old.rows) ≡ times_named x table + times x (named_in new.rows)

-- ---- counts of one directory

-- one entry more names its id once more
abbrev pub AddNamedLaw : Type 0
AddNamedLaw = (dir : DirHistory) (name : List ℕ) (id x : InodeId) → IsSound dir → id_at name dir.children ≡ None
    → times x (named_in (Dir (added name id dir))) ≡ one_where (same_id id x) + times x (named_in (Dir dir))

-- an entry less: its id is named as often where the entry goes to a deleted list, and else once less
abbrev pub RemoveNamedLaw : Type 0
RemoveNamedLaw = (dir : DirHistory) (name : List ℕ) (id x : InodeId) → IsSound dir → id_at name dir.children ≡ Some id
    → times x (named_in (Dir (removed name dir))) + (if goes_to_deleted name id dir.records then 0 else one_where (same_id id x)) ≡ times x (named_in (Dir dir))

-- a record merged away: the dropped ids are named once less each
abbrev pub MergeNamedLaw : Type 0
MergeNamedLaw = (dir : DirHistory) (i : ℕ) (x : InodeId) → IsSound dir → i < length dir.records
    → times x (named_in (Dir (without_record i dir))) + times x (ids_of (dropped_at i dir.records)) ≡ times x (named_in (Dir dir))
