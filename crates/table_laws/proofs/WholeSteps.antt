-- A change of a live row at its need.
use Rattle.std.proofs.Common.{◌≡◌, ℕ, ◌+◌, true, List, [], ◌∷◌, Some, None, refl, sym, ap, subst, ◌∙◌}
use Rattle.std.specs.Prelude.{max}
use Rattle.hs_types.specs.Names.{Names}
use Rattle.hs_types.specs.declared.ids.InodeId.{InodeId}
use Rattle.hs_plain.specs.declared.state.Node.{Node}
use Rattle.hs_plain.specs.declared.state.Body.TheVariants as bodies
use Rattle.hs_plain.specs.declared.state.State.{State}
use Rattle.hs_plain.specs.declared.state.FileBlocks.{FileBlocks}
use Rattle.hs_plain.specs.Tree.{node_at, is_dir, is_dir_body}
use Rattle.hs_plain.proofs.ValidShapes.{none_some, true_false}
use Rattle.dir_changes.specs.Entries.{id_at}
use Rattle.inode_table.specs.declared.change.Change.{Change}
use Rattle.inode_table.specs.declared.change.Change.TheVariants as changes
use Rattle.inode_table.specs.Reads.{Nodes, Has, child}
use Rattle.inode_table.specs.Marks.{RowMarks, Mark, IsChain, Leads, cover_from, cover, marked, last_of}
use Rattle.inode_table.specs.RowHistory.{Table, RowHistory, RowState, File, Dir, row_at, rows_at, marks_of, node_in, entries_in, last_in, need, Changed}
use Rattle.inode_table.specs.Deeds.{ChangesAt}
use Rattle.inode_table.specs.Kept.{AreSound, FitsRows}
use Rattle.inode_table.specs.Tabled.{Tabled, changed_rows}
use Rattle.inode_table.proofs.Covers.{some_id}
use Rattle.table_laws.specs.Naming.{AllSound}
use Rattle.table_laws.specs.WholeCalls.{way_to, last_number_of, cover_at, need_at, with_change}
use Rattle.table_laws.proofs.StepTables.{changed-row}

-- ---- a cover where the marks of live rows are the same

module _ (nodes : Nodes FileBlocks) (last : InodeId → ℕ) (m n : RowMarks) (same : (x : InodeId) → Has nodes x → m x ≡ n x) where
  leads-same : (at below : Names) (c : ℕ) (ids : List InodeId) → Leads nodes at below ids → cover_from last m c ids ≡ cover_from last n c ids
  leads-same at [] c [] leads = refl
  leads-same at [] c (x ∷ xs) leads = absurd leads
  leads-same at (name ∷ below) c [] leads = absurd leads
  leads-same at (name ∷ below) c (x ∷ xs) leads =
      let found = some_id (nodes (child at name)) x leads.0 in
      ap (λ (k : Mark). cover_from last m (marked k (max c (last x))) xs) (same x (record { at = child at name; node = found.0; is = found.1; named = found.2 }))
      ∙ leads-same (child at name) below (marked (n x) (max c (last x))) xs leads.1

  pub cover-same : (path : Names) (chain : List InodeId) → IsChain nodes path chain → cover last m chain ≡ cover last n chain
  cover-same path [] leads = refl
  cover-same path (x ∷ xs) leads =
      let found = some_id (nodes []) x leads.0 in
      ap (λ (k : Mark). cover_from last m (marked k (max 0 (last x))) xs) (same x (record { at = []; node = found.0; is = found.1; named = found.2 }))
      ∙ leads-same [] path (marked (n x) (max 0 (last x))) xs leads.1

-- ---- what a change asks of a row

pub sound-row : (t : Table) (id : InodeId) (rows : RowHistory) → AllSound t → rows_at t id ≡ Some rows → AreSound rows
sound-row t id (File file) sound is = tt
sound-row t id (Dir dir) sound is = sound id dir is

pub fits-mode : (mode : ℕ) (rows : RowHistory) → FitsRows (changes.Mode mode) rows
fits-mode mode (File file) = tt
fits-mode mode (Dir dir) = tt

pub fits-move : (spot : _) (rows : RowHistory) → FitsRows (changes.Move spot) rows
fits-move spot (File file) = tt
fits-move spot (Dir dir) = tt

pub fits-body : (id : InodeId) (file old : FileBlocks) (rows : RowHistory) → (node_in id 0 rows).body ≡ bodies.File old → FitsRows (changes.Body file.size file.blocks) rows
fits-body id file old (File h) is = tt
fits-body id file old (Dir dir) is = absurd (true_false (sym (ap is_dir_body is)) refl)

pub fits-add : (id x : InodeId) (name : List ℕ) (rows : RowHistory) → is_dir (node_in id 0 rows) ≡ true → id_at name (entries_in 0 rows) ≡ None → FitsRows (changes.Add name x) rows
fits-add id x name (File file) dir free = absurd (true_false dir refl)
fits-add id x name (Dir dir) is free = free

pub fits-remove : (x : InodeId) (name : List ℕ) (rows : RowHistory) → id_at name (entries_in 0 rows) ≡ Some x → FitsRows (changes.Remove name) rows
fits-remove x name (File file) there = absurd (none_some there)
fits-remove x name (Dir dir) there = (x, there)

-- ---- the change

pub changes-at : (state : State FileBlocks) (before : Table) (t : Tabled) (path : Names) (chain : List InodeId) (node : Node FileBlocks) (what : Change) (row : RowState)
    → IsChain (node_at state.tree) path chain → node_at state.tree path ≡ Some node → row_at t.rows node.id ≡ Some row → rows_at before node.id ≡ Some row.rows → cover_at state before chain ≡ cover_at state t.rows chain
    → FitsRows what row.rows → AreSound row.rows
    → ChangesAt state t.rows (with_change state before (way_to node chain) what t).rows path node row.rows (changed_rows (need_at state before (way_to node chain)) (state.tick + 1) what row.rows)
changes-at state before t path chain node what row is_chain at there was covers fits sound = record {
  chain = chain;
  is_chain = is_chain;
  at = at;
  step = subst (λ n. Changed t.rows (with_change state before (way_to node chain) what t).rows node.id n row.rows (changed_rows (need_at state before (way_to node chain)) (state.tick + 1) what row.rows)) number
      (changed-row t node.id (need_at state before (way_to node chain)) (state.tick + 1) what row there fits sound);
}
  where
    number : need_at state before (way_to node chain) ≡ need state.members (last_in row.rows) (cover (last_of state.members) (marks_of t.rows) chain)
    number = λ i. need state.members (ap last_number_of was i) (covers i)
