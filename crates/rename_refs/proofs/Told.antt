-- What a table and snapshots in memory tell of a state that they stand for.
use Rattle.std.proofs.Common.{◌≡◌, ℕ, List, Option, Some, None, refl, sym, ap, ◌∙◌}
use Rattle.std.specs.Option.{option_map}
use Rattle.hs_types.specs.declared.ids.InodeId.{InodeId}
use Rattle.hs_plain.specs.declared.state.State.{State}
use Rattle.hs_plain.specs.declared.state.FileBlocks.{FileBlocks}
use Rattle.snapshot_manager.specs.Snapshots.{Snapshots}
use Rattle.inode_table.specs.declared.row.Row.{Row}
use Rattle.inode_table.specs.Kept.{TableValue, told}
use Rattle.inode_table.specs.Marks.{RowMarks, cover, last_of}
use Rattle.inode_table.specs.Numbered.{row_of, state_of, history_of, marks_in, last_live}
use Rattle.inode_table.specs.RowHistory.{RowState, rows_at, marks_of}
use Rattle.inode_table.specs.Whole.{StandsFor}
use Rattle.inode_table.proofs.Telling.{row-told, marks-told, last-told}

-- the rows of a table in memory
pub rows-told : (table : TableValue) (id : InodeId) (o : Option Row) → row_of table.rows id ≡ o → rows_at (told table).rows id ≡ option_map (λ row. history_of row.rows) o
rows-told table id o e = ap (option_map (λ (row : RowState). row.rows)) (row-told table.rows id ∙ ap (option_map state_of) e) ∙ by o
  where
    by : (o : Option Row) → option_map (λ (row : RowState). row.rows) (option_map state_of o) ≡ option_map (λ row. history_of row.rows) o
    by None = refl
    by (Some row) = refl

-- the walk over them
pub cover-told : (table : TableValue) (snaps : Snapshots) (state : State FileBlocks) (chain : List InodeId) → StandsFor (told table) snaps state
    → cover (last_live snaps) (marks_in table.rows) chain ≡ cover (last_of state.members) (marks_of (told table).rows) chain
cover-told table snaps state chain all =
    ap (λ (last : InodeId → ℕ). cover last (marks_in table.rows) chain) (λ i dir. last-told state.members snaps dir all.told i)
    ∙ ap (λ (marks : RowMarks). cover (last_of state.members) marks chain) (λ i id. sym (marks-told table.rows id) i)
