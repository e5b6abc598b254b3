-- A deletion, a rename, a snapshot.
use Rattle.std.proofs.Common.{◌≡◌, ℕ, ◌+◌, true, false, cond, List, [], ◌∷◌, ◌++◌, Option, Some, None, refl, sym, ap, subst, ◌∙◌, append-nil}
use Rattle.std.specs.Prelude.{◌≢◌}
use Rattle.std.specs.Option.{option_map}
use Rattle.std.proofs.lemmas.List.{append_cancel_left}
use Rattle.hs_types.specs.Names.{Names}
use Rattle.hs_types.specs.declared.ids.InodeId.{InodeId}
use Rattle.hs_plain.specs.declared.state.Node.{Node}
use Rattle.hs_plain.specs.declared.state.State.{State}
use Rattle.hs_plain.specs.declared.state.FileBlocks.{FileBlocks}
use Rattle.hs_plain.specs.Tree.{node_at, is_dir}
use Rattle.hs_plain.specs.Change.{removed, renamed, snapped, new_member}
use Rattle.hs_plain.proofs.ValidShapes.{not_last, same_some}
use Rattle.hs_plain.proofs.ValidSubtrees.{node_at-subtree}
use Rattle.dir_changes.specs.Entries.{Entries, id_at, without_name}
use Rattle.dir_changes.proofs.EditLaws.{same_name, id_at-without_name}
use Rattle.inode_table.specs.declared.change.Change.{Change}
use Rattle.inode_table.specs.declared.change.Change.TheVariants as changes
use Rattle.inode_table.specs.declared.freed.Freed.{Freed}
use Rattle.inode_table.specs.Reads.{child, id_of}
use Rattle.inode_table.specs.RowHistory.{RowHistory, RowState, row_at, rows_at, node_in, entries_in, last_in, need, Changed}
use Rattle.inode_table.specs.Stands.{Stands, TableRenames}
use Rattle.inode_table.specs.Snaps.{NumbersWithin}
use Rattle.inode_table.specs.FromValid.{GivesNodes}
use Rattle.inode_table.specs.Released.{Releasing}
use Rattle.inode_table.specs.Kept.{AreSound, FitsRows}
use Rattle.inode_table.specs.Tabled.{Tabled, changed_rows}
use Rattle.inode_table.proofs.Reading.{by_id}
use Rattle.inode_table.proofs.Doing.{delete-stands}
use Rattle.inode_table.proofs.Renaming.{rename-stands}
use Rattle.inode_table.proofs.Snapping.{snap-stands}
use Rattle.inode_table.proofs.Going.{released-stands}
use Rattle.table_laws.specs.Steps.{ChangesRow, Remarks}
use Rattle.table_laws.specs.WholeCalls as tables
use Rattle.table_laws.specs.WholeCalls.{Way, way_to, cover_at, need_at, with_change}
use Rattle.table_laws.specs.WholeStands.{Before, Reaches, MayRename}
use Rattle.table_laws.proofs.StepRows.{changes-row}
use Rattle.table_laws.proofs.StepTables.{row-there, changed-row, marked-step}
use Rattle.table_laws.proofs.WholeSteps.{changes-at, fits-add, fits-remove, fits-move}
use Rattle.table_laws.proofs.WholeDeeds.{LiveRow, live-row}

-- ---- a deletion

module _ (t : Tabled) (state : State FileBlocks) (issued : ℕ) (above : Names) (chain : List InodeId) (parent node : Node FileBlocks) (name : List ℕ)
    (before : Before t state issued) (reach : Reaches state above chain parent) (there : node_at state.tree (child above name) ≡ Some node) where
  row : LiveRow t.rows state above parent
  row = live-row t state issued above parent before reach.at

  abbrev number : ℕ
  number = need_at state t.rows (way_to parent chain)

  fits : FitsRows (changes.Remove name) row.row.rows
  fits = fits-remove node.id name row.row.rows (row.entries name ∙ ap id_of there)

  step : ChangesRow number (state.tick + 1) (changes.Remove name) row.row.rows (changed_rows number (state.tick + 1) (changes.Remove name) row.row.rows)
  step = changes-row number (state.tick + 1) (changes.Remove name) row.row.rows row.sound fits

  pub unlink-stands : Stands (tables.unlinked state (way_to parent chain) name t).rows (removed state (child above name)) issued
  unlink-stands = delete-stands state issued t.rows (tables.unlinked state (way_to parent chain) name t).rows above name parent row.row.rows (changed_rows number (state.tick + 1) (changes.Remove name) row.row.rows)
      (changes-at state t.rows t above chain parent (changes.Remove name) row.row reach.leads reach.at row.there row.rows refl fits row.sound)
      (record { node = step.shows.node; spot = step.shows.spot }) step.shows.entries before.nodes before.stands

  pub deleted-stands : (after : Tabled) (freed : Freed) → GivesNodes (removed state (child above name)) → Releasing (tables.unlinked state (way_to parent chain) name t) freed after → Stands after.rows (removed state (child above name)) issued
  deleted-stands after freed gives gone = released-stands (tables.unlinked state (way_to parent chain) name t) (record after { waiting = freed.blocks }) gone.gone (removed state (child above name)) issued gone.steps gives.live gives.copies gives.dirs unlink-stands

-- ---- a rename

without_free : (name other : List ℕ) (entries : Entries) → id_at name entries ≡ None → id_at name (without_name other entries) ≡ None
without_free name other entries free = id_at-without_name name other entries ∙ elim (same_name name other) as (λ b. cond b None (id_at name entries) ≡ None) [ true ↦ refl | false ↦ free ]

module _ (t : Tabled) (state : State FileBlocks) (issued : ℕ) (from to : Names) (old_name new_name : List ℕ) (chain_a chain_b chain_x : List InodeId) (a b x : Node FileBlocks)
    (before : Before t state issued) (may : MayRename state from to old_name new_name chain_a chain_b chain_x a b x) where
  abbrev pub out : Change
  out = changes.Remove old_name

  abbrev pub in_ : Change
  in_ = changes.Add new_name x.id

  abbrev pub move : Change
  move = changes.Move (record { parent = b.id; name = new_name })

  abbrev tick : ℕ
  tick = state.tick + 1

  abbrev pub t1 : Tabled
  t1 = tables.unlinked state (way_to a chain_a) old_name t

  abbrev pub t2 : Tabled
  t2 = with_change state t.rows (way_to b chain_b) in_ t1

  abbrev pub t3 : Tabled
  t3 = with_change state t.rows (way_to x chain_x) move t2

  abbrev pub t4 : Tabled
  t4 = tables.renamed state issued (way_to a chain_a) (way_to b chain_b) (way_to x chain_x) old_name new_name t

  pub row_a : LiveRow t.rows state from a
  row_a = live-row t state issued from a before may.moves.was_from

  pub row_b : LiveRow t.rows state to b
  row_b = live-row t state issued to b before may.moves.was_to

  pub row_x : LiveRow t.rows state (child from old_name) x
  row_x = live-row t state issued (child from old_name) x before may.moves.was

  pub x_not_a : x.id ≢ a.id
  x_not_a e = not_last [] old_name (append_cancel_left from (old_name ∷ []) [] (before.nodes.once (child from old_name) from x a may.moves.was may.moves.was_from e ∙ sym (append-nil from)))

  pub x_not_b : x.id ≢ b.id
  x_not_b e = may.moves.outside (new_name ∷ []) (ap (λ (r : Names). child r new_name) (sym (before.nodes.once (child from old_name) to x b may.moves.was may.moves.was_to e)))

  -- the entry out

  abbrev pub number_a : ℕ
  number_a = need_at state t.rows (way_to a chain_a)

  abbrev pub na : RowHistory
  na = changed_rows number_a tick out row_a.row.rows

  pub fits_a : FitsRows out row_a.row.rows
  fits_a = fits-remove x.id old_name row_a.row.rows (row_a.entries old_name ∙ ap id_of may.moves.was)

  pub changes_a : ChangesRow number_a tick out row_a.row.rows na
  changes_a = changes-row number_a tick out row_a.row.rows row_a.sound fits_a

  pub step_a : Changed t.rows t1.rows a.id number_a row_a.row.rows na
  step_a = changed-row t a.id number_a tick out row_a.row row_a.there fits_a row_a.sound

  -- the other directory's row then

  pub record OtherRow : Type 0 where
    pub row : RowState
    pub there : row_at t1.rows b.id ≡ Some row
    pub sound : AreSound row.rows
    pub fits : FitsRows in_ row.rows

  found_b : (r : RowHistory) → rows_at t1.rows b.id ≡ Some r → AreSound r → is_dir (node_in b.id 0 r) ≡ true → id_at new_name (entries_in 0 r) ≡ None → OtherRow
  found_b r is sound dir free = let got = row-there t1.rows b.id r is in
      let same : r ≡ got.0.rows = same_some (sym is ∙ ap (option_map (λ (s : RowState). s.rows)) got.1) in
      record { row = got.0; there = got.1; sound = subst AreSound same sound; fits = subst (FitsRows in_) same (fits-add b.id x.id new_name r dir free) }

  free_in : (n : Node FileBlocks) (p : Names) (row : LiveRow t.rows state p n) → p ≡ to → id_at new_name (entries_in 0 row.row.rows) ≡ None
  free_in n p row e = row.entries new_name ∙ ap (λ (q : Names). id_of (node_at state.tree (child q new_name))) e ∙ ap id_of may.moves.free

  pub other_b : OtherRow
  other_b = by_id b.id a.id
      (λ e. let one : from ≡ to = sym (before.nodes.once to from b a may.moves.was_to may.moves.was_from e) in
      let same : a ≡ b = same_some (sym may.moves.was_from ∙ ap (node_at state.tree) one ∙ may.moves.was_to) in
      found_b na (ap (rows_at t1.rows) e ∙ step_a.here) changes_a.sound
      (ap is_dir (changes_a.shows.node b.id) ∙ ap (λ (i : InodeId). is_dir (node_in i 0 row_a.row.rows)) e ∙ ap is_dir row_a.shows ∙ ap is_dir same ∙ may.dir)
      (ap (id_at new_name) changes_a.shows.entries ∙ without_free new_name old_name (entries_in 0 row_a.row.rows) (free_in a from row_a one)))
      (λ ne. found_b row_b.row.rows (step_a.there b.id ne ∙ row_b.rows) row_b.sound (ap is_dir row_b.shows ∙ may.dir) (free_in b to row_b refl))

  -- the entry in

  abbrev pub number_b : ℕ
  number_b = need_at state t.rows (way_to b chain_b)

  abbrev pub nb : RowHistory
  nb = changed_rows number_b tick in_ other_b.row.rows

  changes_b : ChangesRow number_b tick in_ other_b.row.rows nb
  changes_b = changes-row number_b tick in_ other_b.row.rows other_b.sound other_b.fits

  pub step_b : Changed t1.rows t2.rows b.id number_b other_b.row.rows nb
  step_b = changed-row t1 b.id number_b tick in_ other_b.row other_b.there other_b.fits other_b.sound

  -- the new spot

  x_then : rows_at t2.rows x.id ≡ Some row_x.row.rows
  x_then = step_b.there x.id x_not_b ∙ step_a.there x.id x_not_a ∙ row_x.rows

  pub found_x : (r : RowState) × (row_at t2.rows x.id ≡ Some r)
  found_x = row-there t2.rows x.id row_x.row.rows x_then

  pub same_x : found_x.0.rows ≡ row_x.row.rows
  same_x = same_some (sym (ap (option_map (λ (s : RowState). s.rows)) found_x.1) ∙ x_then)

  abbrev pub number_x : ℕ
  number_x = need_at state t.rows (way_to x chain_x)

  abbrev pub ox : RowHistory
  ox = found_x.0.rows

  abbrev pub nx : RowHistory
  nx = changed_rows number_x tick move ox

  sound_x : AreSound ox
  sound_x = subst AreSound (sym same_x) row_x.sound

  pub changes_x : ChangesRow number_x tick move ox nx
  changes_x = changes-row number_x tick move ox sound_x (fits-move (record { parent = b.id; name = new_name }) ox)

  pub step_x : Changed t2.rows t3.rows x.id number_x ox nx
  step_x = changed-row t2 x.id number_x tick move found_x.0 found_x.1 (fits-move (record { parent = b.id; name = new_name }) ox) sound_x

  -- the marks

  pub marks : Remarks t3.rows t4.rows x.id issued (cover_at state t.rows chain_x)
  marks = marked-step t3 x.id issued (cover_at state t.rows chain_x) nx step_x.here

  numbered : (n : Node FileBlocks) (chain : List InodeId) (r : RowHistory) → rows_at t.rows n.id ≡ Some r → need_at state t.rows (way_to n chain) ≡ need state.members (last_in r) (cover_at state t.rows chain)
  numbered n chain r is = ap (λ (o : Option RowHistory). need state.members (tables.last_number_of o) (cover_at state t.rows chain)) is

  renames : TableRenames state issued t.rows t1.rows t2.rows t3.rows t4.rows from to old_name new_name a b x
  renames = record {
    chain_a = chain_a;
    chain_b = chain_b;
    chain_x = chain_x;
    is_chain_a = may.leads_a;
    is_chain_b = may.leads_b;
    is_chain_x = may.leads_x;
    oa = row_a.row.rows;
    na = na;
    ob0 = row_b.row.rows;
    ob = other_b.row.rows;
    nb = nb;
    ox = ox;
    nx = nx;
    was_b = row_b.rows;
    step_a = subst (λ n. Changed t.rows t1.rows a.id n row_a.row.rows na) (numbered a chain_a row_a.row.rows row_a.rows) step_a;
    step_b = subst (λ n. Changed t1.rows t2.rows b.id n other_b.row.rows nb) (numbered b chain_b row_b.row.rows row_b.rows) step_b;
    step_x = subst (λ n. Changed t2.rows t3.rows x.id n ox nx) (numbered x chain_x row_x.row.rows row_x.rows ∙ ap (λ (r : RowHistory). need state.members (last_in r) (cover_at state t.rows chain_x)) (sym same_x)) step_x;
    edit_a = record { node = changes_a.shows.node; spot = changes_a.shows.spot };
    left = changes_a.shows.entries;
    edit_b = record { node = changes_b.shows.node; spot = changes_b.shows.spot };
    put = changes_b.shows.entries;
    node_x = changes_x.shows.node;
    entries_x = changes_x.shows.entries;
    placed = changes_x.shows.spot;
    rows_last = marks.rows;
    mark_x = marks.here;
    marks_other = marks.there;
  }

  pub renamed-stands : Stands t4.rows (renamed state (child from old_name, child to new_name)) issued
  renamed-stands = rename-stands state issued t.rows t1.rows t2.rows t3.rows t4.rows from to old_name new_name a b x renames may.moves before.nodes before.stands

-- ---- a snapshot

pub snapped-stands : (t : Tabled) (state : State FileBlocks) (issued : ℕ) (path : Names) (node : Node FileBlocks) (name : List ℕ)
    → Before t state issued → NumbersWithin t.rows issued → node_at state.tree path ≡ Some node → state.next_snapshot ≡ issued + 1 → Stands t.rows (snapped state name (path, node)) (issued + 1)
snapped-stands t state issued path node name before within at next = record { live = stands.live; frozen = stands.frozen; marks = stands.marks; top = stands.top; ids_issued = stands.ids_issued }
  where
    stands : Stands t.rows (record state { members = state.members ++ new_member state name (path, node) ∷ [] }) (issued + 1)
    stands = snap-stands t.rows state issued path (new_member state name (path, node)) (record { own = ap id_of at; copy = node_at-subtree state.tree path }) next before.nodes within before.stands
