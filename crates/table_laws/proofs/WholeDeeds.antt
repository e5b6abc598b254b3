-- A touch, a new node.
use Rattle.std.proofs.Common.{◌≡◌, ℕ, ◌+◌, true, List, Option, Some, None, refl, sym, ap, subst, ◌∙◌}
use Rattle.std.specs.Prelude.{◌≢◌}
use Rattle.std.specs.Option.{option_map}
use Rattle.hs_types.specs.Names.{Names}
use Rattle.hs_types.specs.declared.ids.InodeId.{InodeId}
use Rattle.hs_plain.specs.declared.state.Node.{Node}
use Rattle.hs_plain.specs.declared.state.Body.TheVariants as bodies
use Rattle.hs_plain.specs.declared.state.State.{State}
use Rattle.hs_plain.specs.declared.state.FileBlocks.{FileBlocks}
use Rattle.hs_plain.specs.Tree.{node_at, is_dir}
use Rattle.hs_plain.specs.Change.{with_mode, with_file, with_node, moded, refilled}
use Rattle.hs_plain.proofs.ValidShapes.{same_some}
use Rattle.hs_plain.proofs.ValidChanges.{put_here, put_there}
use Rattle.dir_changes.specs.Entries.{id_at}
use Rattle.inode_table.specs.declared.change.Change.{Change}
use Rattle.inode_table.specs.declared.change.Change.TheVariants as changes
use Rattle.inode_table.specs.Reads.{Has, child, id_of}
use Rattle.inode_table.specs.RowHistory.{Table, RowHistory, RowState, row_at, rows_at, marks_of, node_in, entries_in, entries_of}
use Rattle.inode_table.specs.Stands.{Stands, root_id}
use Rattle.inode_table.specs.Deeds.{ChangesAt}
use Rattle.inode_table.specs.Kept.{AreSound, FitsRows}
use Rattle.inode_table.specs.Tabled.{Tabled, changed_rows, inserted, fresh_row}
use Rattle.inode_table.proofs.Kept.{row_there}
use Rattle.inode_table.proofs.Doing.{touch-stands, make-stands}
use Rattle.table_laws.specs.Steps.{node_after, ShowsChange, ChangesRow}
use Rattle.table_laws.specs.WholeCalls as tables
use Rattle.table_laws.specs.WholeCalls.{way_to, cover_at, need_at, with_change}
use Rattle.table_laws.specs.WholeStands.{Before, Reaches, IsNew}
use Rattle.table_laws.proofs.StepRows.{changes-row}
use Rattle.table_laws.proofs.StepTables.{row-there, inserted-step, put-there}
use Rattle.table_laws.proofs.WholeTrees.{node_at-moded, node_at-moded_other}
use Rattle.table_laws.proofs.WholeSteps.{changes-at, cover-same, sound-row, fits-mode, fits-body, fits-add}

-- a live row
pub record LiveRow (t : Table) (state : State FileBlocks) (path : Names) (node : Node FileBlocks) : Type 0 where
  pub row : RowState
  pub there : row_at t node.id ≡ Some row
  pub rows : rows_at t node.id ≡ Some row.rows
  pub sound : AreSound row.rows
  pub shows : node_in node.id 0 row.rows ≡ node
  pub entries : (name : List ℕ) → id_at name (entries_in 0 row.rows) ≡ id_of (node_at state.tree (child path name))

pub live-row : (t : Tabled) (state : State FileBlocks) (issued : ℕ) (path : Names) (node : Node FileBlocks) → Before t state issued → node_at state.tree path ≡ Some node → LiveRow t.rows state path node
live-row t state issued path node before at = record {
  row = row.0;
  there = row.1;
  rows = rows;
  sound = sound-row t.rows node.id row.0.rows before.sound rows;
  shows = same_some (sym (ap (option_map (node_in node.id 0)) rows) ∙ before.stands.live.node path node at);
  entries = λ name. sym (ap (λ (o : Option RowHistory). id_at name (entries_of 0 o)) rows) ∙ before.stands.live.entries path node name at;
}
  where
    some : (r : RowHistory) × (rows_at t.rows node.id ≡ Some r)
    some = row_there t.rows 0 root_id (node_at state.tree) node.id before.stands.live (record { at = path; node = node; is = at; named = refl })

    row : (r : RowState) × (row_at t.rows node.id ≡ Some r)
    row = row-there t.rows node.id some.0 some.1

    rows : rows_at t.rows node.id ≡ Some row.0.rows
    rows = ap (option_map (λ (r : RowState). r.rows)) row.1

-- ---- a touch

module _ (t : Tabled) (state : State FileBlocks) (issued : ℕ) (path : Names) (chain : List InodeId) (node : Node FileBlocks) (before : Before t state issued) (reach : Reaches state path chain node) where
  row : LiveRow t.rows state path node
  row = live-row t state issued path node before reach.at

  touch-at : (what : Change) → FitsRows what row.row.rows
      → ChangesAt state t.rows (tables.touched state (way_to node chain) what t).rows path node row.row.rows (changed_rows (need_at state t.rows (way_to node chain)) (state.tick + 1) what row.row.rows)
  touch-at what fits = changes-at state t.rows t path chain node what row.row reach.leads reach.at row.there row.rows refl fits row.sound

  touch-row : (what : Change) → FitsRows what row.row.rows
      → ChangesRow (need_at state t.rows (way_to node chain)) (state.tick + 1) what row.row.rows (changed_rows (need_at state t.rows (way_to node chain)) (state.tick + 1) what row.row.rows)
  touch-row what fits = changes-row (need_at state t.rows (way_to node chain)) (state.tick + 1) what row.row.rows row.sound fits

  pub mode-stands : (mode : ℕ) → Stands (tables.touched state (way_to node chain) (changes.Mode mode) t).rows (with_mode state mode path) issued
  mode-stands mode = touch-stands state (moded state.tree path mode (state.tick + 1)) issued t.rows (tables.touched state (way_to node chain) (changes.Mode mode) t).rows path node (record node { mode = mode; stamp = state.tick + 1 }) row.row.rows
      (changed_rows (need_at state t.rows (way_to node chain)) (state.tick + 1) (changes.Mode mode) row.row.rows) (touch-at (changes.Mode mode) fits) refl
      (shows.node node.id ∙ ap (node_after (state.tick + 1) (changes.Mode mode)) row.shows) shows.entries shows.spot
      (node_at-moded state.tree path node mode (state.tick + 1) reach.at) (node_at-moded_other state.tree path mode (state.tick + 1)) before.nodes before.stands
    where
      fits : FitsRows (changes.Mode mode) row.row.rows
      fits = fits-mode mode row.row.rows

      shows : ShowsChange (state.tick + 1) (changes.Mode mode) row.row.rows (changed_rows (need_at state t.rows (way_to node chain)) (state.tick + 1) (changes.Mode mode) row.row.rows)
      shows = (touch-row (changes.Mode mode) fits).shows

  pub body-stands : (old file : FileBlocks) → node.body ≡ bodies.File old → Stands (tables.touched state (way_to node chain) (changes.Body file.size file.blocks) t).rows (with_file state path node file) issued
  body-stands old file is = touch-stands state (with_file state path node file).tree issued t.rows (tables.touched state (way_to node chain) what t).rows path node (refilled node file (state.tick + 1)) row.row.rows
      (changed_rows (need_at state t.rows (way_to node chain)) (state.tick + 1) what row.row.rows) (touch-at what fits) refl
      (shows.node node.id ∙ ap (node_after (state.tick + 1) what) row.shows) shows.entries shows.spot
      (put_here path (refilled node file (state.tick + 1)) state.tree) (put_there path (refilled node file (state.tick + 1)) state.tree) before.nodes before.stands
    where
      what : Change
      what = changes.Body file.size file.blocks

      fits : FitsRows what row.row.rows
      fits = fits-body node.id file old row.row.rows (ap (λ (n : Node FileBlocks). n.body) row.shows ∙ is)

      shows : ShowsChange (state.tick + 1) what row.row.rows (changed_rows (need_at state t.rows (way_to node chain)) (state.tick + 1) what row.row.rows)
      shows = (touch-row what fits).shows

-- ---- a new node

module _ (t : Tabled) (state : State FileBlocks) (issued : ℕ) (above : Names) (chain : List InodeId) (parent node : Node FileBlocks) (name : List ℕ) (rows : RowHistory)
    (before : Before t state issued) (reach : Reaches state above chain parent) (dir : is_dir parent ≡ true) (free : node_at state.tree (child above name) ≡ None) (new : IsNew state parent node name rows) where
  dir_row : LiveRow t.rows state above parent
  dir_row = live-row t state issued above parent before reach.at

  abbrev mid : Tabled
  mid = inserted node.id rows issued t

  abbrev what : Change
  what = changes.Add name node.id

  not_new : (id : InodeId) → Has (node_at state.tree) id → id ≢ node.id
  not_new id h e = new.not_live (subst (Has (node_at state.tree)) e h)

  mid_there : row_at mid.rows parent.id ≡ Some dir_row.row
  mid_there = put-there node.id parent.id (fresh_row rows issued) t.rows (not_new parent.id (record { at = above; node = parent; is = reach.at; named = refl })) ∙ dir_row.there

  covers : cover_at state t.rows chain ≡ cover_at state mid.rows chain
  covers = cover-same (node_at state.tree) _ (marks_of t.rows) (marks_of mid.rows) (λ id h. sym ((inserted-step t node.id rows issued).marks id (not_new id h))) above chain reach.leads

  fits : FitsRows what dir_row.row.rows
  fits = fits-add parent.id node.id name dir_row.row.rows (ap is_dir dir_row.shows ∙ dir) (dir_row.entries name ∙ ap id_of free)

  abbrev row_after : RowHistory
  row_after = changed_rows (need_at state t.rows (way_to parent chain)) (state.tick + 1) what dir_row.row.rows

  step : ChangesRow (need_at state t.rows (way_to parent chain)) (state.tick + 1) what dir_row.row.rows row_after
  step = changes-row (need_at state t.rows (way_to parent chain)) (state.tick + 1) what dir_row.row.rows dir_row.sound fits

  pub node-stands : Stands (tables.made state issued (way_to parent chain) name node.id rows t).rows (with_node state (child above name) node) issued
  node-stands = make-stands state issued t.rows mid.rows (tables.made state issued (way_to parent chain) name node.id rows t).rows above name parent node rows dir_row.row.rows row_after
      (inserted-step t node.id rows issued) new.shows new.entries new.spot
      (changes-at state t.rows mid above chain parent what dir_row.row reach.leads reach.at mid_there dir_row.rows covers fits dir_row.sound)
      (record { node = step.shows.node; spot = step.shows.spot }) step.shows.entries free new.not_live new.not_copied before.nodes before.stands
