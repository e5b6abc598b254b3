-- Whole calls that change one node, or make one.
use Rattle.std.proofs.Common.{◌≡◌, ℕ, ◌+◌, List, [], Ok, refl, sym, ap, subst, ◌∙◌, arith}
use Rattle.hs_types.specs.Names.{Names}
use Rattle.hs_types.specs.declared.ids.InodeId.{InodeId}
use Rattle.hs_types.specs.declared.ids.BlockId.{BlockId}
use Rattle.hs_types.specs.declared.call.Call.TheVariants as calls
use Rattle.hs_plain.specs.declared.state.Node.{Node}
use Rattle.hs_plain.specs.declared.state.Body.TheVariants as bodies
use Rattle.hs_plain.specs.declared.state.State.{State}
use Rattle.hs_plain.specs.declared.state.FileBlocks.{FileBlocks}
use Rattle.hs_plain.specs.Files.{Files}
use Rattle.hs_plain.specs.Modifying.{set_mode_at, append_at}
use Rattle.hs_plain.specs.Change.{change, ticked, if_asked, with_mode, appended}
use Rattle.hs_plain.specs.Valid.{IsValid}
use Rattle.hs_plain.proofs.ValidAsked.{append_there}
use Rattle.hs_plain.proofs.Validity.{valid-ticked, valid-change}
use Rattle.snapshot_manager.specs.Snapshots.{Snapshots}
use Rattle.inode_table.specs.declared.change.Change.TheVariants as changes
use Rattle.inode_table.specs.Stands.{Stands}
use Rattle.inode_table.specs.Kept.{CanChange}
use Rattle.inode_table.specs.Tabled.{Tabled}
use Rattle.inode_table.specs.Whole.{StandsFor}
use Rattle.table_laws.specs.WholeCalls as tables
use Rattle.table_laws.specs.WholeCalls.{way_to, need_at}
use Rattle.table_laws.specs.WholeStands.{Reaches}
use Rattle.table_laws.proofs.RecordIndex.{filled-next}
use Rattle.table_laws.proofs.WholeSteps.{fits-mode, fits-body}
use Rattle.table_laws.proofs.WholeDeeds.{LiveRow, live-row, mode-stands, body-stands}
use Rattle.table_laws.proofs.WholeMidway.{begun, may-can, mid-quiet, ended-same}
use Rattle.table_laws.proofs.WholeParts.{before-of, stands-ticked}

pub whole-ticked : (t : Tabled) (snaps : Snapshots) (state : State FileBlocks) → StandsFor t snaps state → StandsFor t snaps (ticked state)
whole-ticked t snaps state stands = record {
  valid = valid-ticked state stands.valid;
  stands = stands-ticked t.rows state snaps.issued.0 stands.stands;
  marks = stands.marks;
  records = stands.records;
  filled = let next = filled-next t.index state.tick 3 stands.filled in record { first = next.first; upto = next.upto; few = next.few; now = next.few (state.tick + 1) };
  naming = stands.naming;
  named = stands.named;
  told = stands.told;
  snapshottable = stands.snapshottable;
  next_inode = stands.next_inode;
  next_snapshot = stands.next_snapshot;
  ids = stands.ids;
  handed_out = stands.handed_out;
}

-- ---- a touch

module _ (t : Tabled) (snaps : Snapshots) (state : State FileBlocks) (path : Names) (chain : List InodeId) (node : Node FileBlocks) (before : StandsFor t snaps state) (reach : Reaches state path chain node) where
  row : LiveRow t.rows state path node
  row = live-row t state snaps.issued.0 path node (before-of t snaps state before) reach.at

  abbrev number : ℕ
  number = need_at state t.rows (way_to node chain)

  pub can-mode : (mode : ℕ) → CanChange t.rows node.id (changes.Mode mode)
  can-mode mode = record { row = row.row; there = row.there; fits = fits-mode mode row.row.rows; entry = tt }

  pub can-body : (old : FileBlocks) → node.body ≡ bodies.File old → (size : ℕ) (blocks : List BlockId) → CanChange t.rows node.id (changes.Body size blocks)
  can-body old is size blocks = record { row = row.row; there = row.there; fits = fits-body node.id (record { size = size; blocks = blocks }) old row.row.rows (ap (λ (n : Node FileBlocks). n.body) row.shows ∙ is); entry = tt }

  pub whole-mode : (files : Files FileBlocks) (text : List ℕ) (mode : ℕ) → set_mode_at state text ≡ Ok path → StandsFor (tables.touched state (way_to node chain) (changes.Mode mode) t) snaps (ticked (change files state (calls.SetMode text mode)))
  whole-mode files text mode asked = subst (λ (s : State FileBlocks). StandsFor (tables.touched state (way_to node chain) (changes.Mode mode) t) snaps (ticked s)) (sym is)
      (ended-same t (tables.touched state (way_to node chain) (changes.Mode mode) t) snaps state (with_mode state mode path) 1 before
      (subst (λ (s : State FileBlocks). IsValid (ticked s)) is (valid-change state before.valid files (calls.SetMode text mode)))
      (record { members = refl; snapshottable = refl; next = refl }) refl
      (mode-stands t state snaps.issued.0 path chain node (before-of t snaps state before) reach mode)
      (mid-quiet state.members snaps.issued.0 (state.tick + 1) 0 [] t (begun t snaps state before) node.id number (changes.Mode mode) tt (can-mode mode) (may-can t snaps state path chain node (changes.Mode mode) before reach (can-mode mode)) (omega arith))
      (omega arith) before.next_inode)
    where
      is : change files state (calls.SetMode text mode) ≡ with_mode state mode path
      is = ap (if_asked (with_mode state mode) state) asked

  pub whole-append : (files : Files FileBlocks) (text bytes : List ℕ) (old new : FileBlocks) → append_at state text ≡ Ok (path, node, old) → new ≡ files.append old bytes
      → StandsFor (tables.touched state (way_to node chain) (changes.Body new.size new.blocks) t) snaps (ticked (change files state (calls.Append text bytes)))
  whole-append files text bytes old new asked same = subst (λ (s : State FileBlocks). StandsFor (tables.touched state (way_to node chain) (changes.Body new.size new.blocks) t) snaps (ticked s)) (sym is)
      (ended-same t (tables.touched state (way_to node chain) (changes.Body new.size new.blocks) t) snaps state (appended files state bytes (path, node, old)) 1 before
      (subst (λ (s : State FileBlocks). IsValid (ticked s)) is (valid-change state before.valid files (calls.Append text bytes)))
      (record { members = refl; snapshottable = refl; next = refl }) refl
      (subst (λ (f : FileBlocks). Stands (tables.touched state (way_to node chain) (changes.Body f.size f.blocks) t).rows (appended files state bytes (path, node, old)) snaps.issued.0) (sym same)
      (body-stands t state snaps.issued.0 path chain node (before-of t snaps state before) reach old (files.append old bytes) body))
      (mid-quiet state.members snaps.issued.0 (state.tick + 1) 0 [] t (begun t snaps state before) node.id number (changes.Body new.size new.blocks) tt (can-body old body new.size new.blocks) (may-can t snaps state path chain node (changes.Body new.size new.blocks) before reach (can-body old body new.size new.blocks)) (omega arith))
      (omega arith) before.next_inode)
    where
      is : change files state (calls.Append text bytes) ≡ appended files state bytes (path, node, old)
      is = ap (if_asked (appended files state bytes) state) asked

      body : node.body ≡ bodies.File old
      body = (append_there state text (path, node, old) asked).body
