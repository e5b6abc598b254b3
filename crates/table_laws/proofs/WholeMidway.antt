-- A table between the steps of a call: records, index, names, marks and ids.
use Rattle.std.proofs.Common.{◌≡◌, ℕ, ◌+◌, ◌<◌, ◌≤◌, List, [], ◌∷◌, Option, Some, None, sym, ap, subst, ◌∙◌, arith}
use Rattle.std.specs.Prelude.{◌≢◌, is_some}
use Rattle.std.specs.Option.{option_map}
use Rattle.std.specs.List.{list_any}
use Rattle.hs_types.specs.Names.{Names}
use Rattle.hs_types.specs.declared.ids.InodeId.{InodeId}
use Rattle.hs_plain.specs.declared.state.Node.{Node}
use Rattle.hs_plain.specs.declared.state.State.{State}
use Rattle.hs_plain.specs.declared.state.Member.{Member}
use Rattle.hs_plain.specs.declared.state.FileBlocks.{FileBlocks}
use Rattle.hs_plain.specs.Change.{ticked}
use Rattle.hs_plain.specs.Tree.{same_inode}
use Rattle.hs_plain.specs.State.{is_snapshottable}
use Rattle.hs_plain.specs.Valid.{IsValid}
use Rattle.snapshot_manager.specs.Snapshots.{Snapshots, snaps_of}
use Rattle.inode_table.specs.declared.change.Change.{Change}
use Rattle.inode_table.specs.declared.change.Change.TheVariants as changes
use Rattle.inode_table.specs.declared.freed.Freed.{Freed}
use Rattle.inode_table.specs.Reads.{id_of}
use Rattle.inode_table.specs.RowHistory.{RowHistory, RowState, row_at, rows_at, need}
use Rattle.inode_table.specs.Stands.{Stands, root_id}
use Rattle.inode_table.specs.Joined.{AreTold}
use Rattle.inode_table.specs.Kept.{CanChange, IsBare, IsLoose}
use Rattle.inode_table.specs.Once.{IsIn}
use Rattle.inode_table.specs.Released.{Releasing}
use Rattle.inode_table.specs.Tabled.{Tabled, changed, inserted, stamp_of, marked_row}
use Rattle.inode_table.specs.Whole.{AreRecords, AreNamed, IsFilled, StandsFor}
use Rattle.table_laws.specs.Naming.{NamedBut, IsLive, IsQuiet, lists_of}
use Rattle.table_laws.specs.Recording.{MayRecord}
use Rattle.table_laws.specs.WholeCalls.{way_to, last_number_of, cover_at, need_at}
use Rattle.table_laws.specs.WholeStands.{Reaches}
use Rattle.table_laws.proofs.NamedEntries.{add-names, remove-names}
use Rattle.table_laws.proofs.NamedRows.{all-names, insert-names, mark-names, release-names}
use Rattle.table_laws.proofs.NamedSteps.{quiet-names}
use Rattle.table_laws.proofs.RecordIndex.{filled-next}
use Rattle.table_laws.proofs.Recording.{live-may, records-changed, filled-changed, records-inserted, filled-inserted, records-marked, records-released}
use Rattle.table_laws.proofs.WholeParts.{Within, within-of, marks-within, ids-within, within-changed, within-inserted, within-marked, within-released, greatest-released, stands-ticked, SameSnaps}

pub record Midway (members : List (Member FileBlocks)) (issued tick used : ℕ) (unnamed : List InodeId) (t : Tabled) : Type 0 where
  pub records : AreRecords t.rows t.index members issued
  pub some : 0 < tick
  pub filled : IsFilled t.index tick used
  pub named : AreNamed t.rows
  pub but : NamedBut unnamed t.rows
  pub within : Within t.rows issued t.greatest
  pub waiting : t.waiting ≡ []

pub begun : (t : Tabled) (snaps : Snapshots) (state : State FileBlocks) → StandsFor t snaps state → Midway state.members snaps.issued.0 (state.tick + 1) 0 [] t
begun t snaps state stands = record {
  records = stands.records;
  some = omega arith;
  filled = filled-next t.index state.tick 3 stands.filled;
  named = stands.naming;
  but = (all-names t.rows).1 stands.named;
  within = within-of t snaps state stands;
  waiting = stands.handed_out;
}

-- the need of a live row before the call is a number at which it may be changed
pub may-at : (t : Tabled) (snaps : Snapshots) (state : State FileBlocks) (path : Names) (chain : List InodeId) (node : Node FileBlocks) (rows : RowHistory) → StandsFor t snaps state → Reaches state path chain node → rows_at t.rows node.id ≡ Some rows
    → MayRecord state.members snaps.issued.0 node.id rows (need_at state t.rows (way_to node chain)) (state.tick + 1)
may-at t snaps state path chain node rows stands reach there =
    subst (λ n. MayRecord state.members snaps.issued.0 node.id rows n (state.tick + 1)) (sym (ap (λ (o : Option RowHistory). need state.members (last_number_of o) (cover_at state t.rows chain)) there))
    (live-may t.rows state snaps.issued.0 path chain node.id rows stands.stands reach.leads (ap id_of reach.at) stands.valid)

-- and so for a change that a live row can take
pub may-can : (t : Tabled) (snaps : Snapshots) (state : State FileBlocks) (path : Names) (chain : List InodeId) (node : Node FileBlocks) (what : Change) → StandsFor t snaps state → Reaches state path chain node → (can : CanChange t.rows node.id what)
    → MayRecord state.members snaps.issued.0 node.id can.row.rows (need_at state t.rows (way_to node chain)) (state.tick + 1)
may-can t snaps state path chain node what stands reach can = may-at t snaps state path chain node can.row.rows stands reach (ap (option_map (λ (r : RowState). r.rows)) can.there)

module _ (members : List (Member FileBlocks)) (issued tick used : ℕ) (unnamed : List InodeId) (t : Tabled) (are : Midway members issued tick used unnamed t) where
  pub mid-quiet : (id : InodeId) (number : ℕ) (what : Change) → IsQuiet what → (can : CanChange t.rows id what) → MayRecord members issued id can.row.rows number tick → used < 3
      → Midway members issued tick (used + 1) unnamed (changed id number tick what t)
  mid-quiet id number what calm can may few = let names = quiet-names t id number tick what calm can are.records.undoable are.named in record {
    records = records-changed t members issued number tick id what can may are.records;
    some = are.some;
    filled = filled-changed t number tick used id what are.some few are.filled;
    named = names.named;
    but = names.but unnamed are.but;
    within = within-changed t id number tick what issued t.greatest are.within;
    waiting = are.waiting;
  }

  -- an entry out; what it named is loose
  pub mid-out : (id x : InodeId) (number : ℕ) (name : List ℕ) → (can : CanChange t.rows id (changes.Remove name)) → IsIn (lists_of t.rows) id name x → MayRecord members issued id can.row.rows number tick → used < 3
      → Midway members issued tick (used + 1) (x ∷ unnamed) (changed id number tick (changes.Remove name) t) × IsLoose (changed id number tick (changes.Remove name) t).rows x
  mid-out id x number name can there may few = let names = remove-names t id x number tick name there are.records.undoable are.named in (
    record {
      records = records-changed t members issued number tick id (changes.Remove name) can may are.records;
      some = are.some;
      filled = filled-changed t number tick used id (changes.Remove name) are.some few are.filled;
      named = names.named;
      but = names.but unnamed are.but;
      within = within-changed t id number tick (changes.Remove name) issued t.greatest are.within;
      waiting = are.waiting;
    },
    names.loose,
  )

  pub mid-insert : (id : InodeId) (rows : RowHistory) → row_at t.rows id ≡ None → IsBare rows → stamp_of rows ≡ tick → t.greatest ≤ id.0 → root_id ≢ id → used < 3
      → Midway members issued tick (used + 1) (id ∷ unnamed) (inserted id rows issued t) × IsLoose (inserted id rows issued t).rows id
  mid-insert id rows new bare stamp above other few = let names = insert-names t id rows issued new bare are.named in (
    record {
      records = records-inserted t members issued issued id rows bare are.records;
      some = are.some;
      filled = filled-inserted t issued tick used id rows stamp are.some few are.filled;
      named = names.named;
      but = names.but unnamed are.but;
      within = within-inserted t id rows issued t.greatest above other are.within;
      waiting = are.waiting;
    },
    names.loose,
  )

  pub mid-mark : (id : InodeId) (carry : ℕ) → carry ≤ issued → root_id ≢ id → Midway members issued tick used unnamed (marked_row id issued carry t)
  mid-mark id carry upto other = let names = mark-names t id issued carry are.named in record {
    records = records-marked t members issued issued carry id are.records;
    some = are.some;
    filled = are.filled;
    named = names.named;
    but = names.but unnamed are.but;
    within = within-marked t id carry issued t.greatest upto other are.within;
    waiting = are.waiting;
  }

  pub mid-release : (after : Tabled) (freed : Freed) → Releasing t freed after → Midway members issued tick used [] after
  mid-release after freed gone = let names = release-names t after freed gone are.named in let left = records-released t after freed members issued gone are.records in record {
    records = left.0;
    some = are.some;
    filled = subst (λ index. IsFilled index tick used) (sym left.1) are.filled;
    named = names.named;
    but = (all-names after.rows).1 names.all;
    within = subst (Within after.rows issued) (sym (greatest-released t (record after { waiting = freed.blocks }) gone.gone gone.steps)) (within-released t (record after { waiting = freed.blocks }) gone.gone issued t.greatest gone.steps are.within);
    waiting = gone.waiting;
  }

-- an entry in
pub mid-in : (members : List (Member FileBlocks)) (issued tick used : ℕ) (unnamed : List InodeId) (t : Tabled) (id x : InodeId) (number : ℕ) (name : List ℕ) → Midway members issued tick used (x ∷ unnamed) t
    → (can : CanChange t.rows id (changes.Add name x)) → x ≢ root_id → IsLive (lists_of (changed id number tick (changes.Add name x) t).rows) id → MayRecord members issued id can.row.rows number tick → used < 3
    → Midway members issued tick (used + 1) unnamed (changed id number tick (changes.Add name x) t)
mid-in members issued tick used unnamed t id x number name are can other live may few = let names = add-names t id x number tick name can other live are.records.undoable are.named in record {
  records = records-changed t members issued number tick id (changes.Add name x) can may are.records;
  some = are.some;
  filled = filled-changed t number tick used id (changes.Add name x) are.some few are.filled;
  named = names.named;
  but = names.but unnamed are.but;
  within = within-changed t id number tick (changes.Add name x) issued t.greatest are.within;
  waiting = are.waiting;
}

-- the whole after a call
pub ended : (after : Tabled) (snaps : Snapshots) (next : State FileBlocks) (used : ℕ) → IsValid (ticked next) → Stands after.rows next snaps.issued.0 → Midway next.members snaps.issued.0 (next.tick + 1) used [] after → used ≤ 3
    → AreTold next.members snaps → ((id : InodeId) → is_snapshottable next id ≡ is_some (snaps_of snaps id)) → after.greatest + 1 ≡ next.next_inode → snaps.issued.0 + 1 ≡ next.next_snapshot → StandsFor after snaps (ticked next)
ended after snaps next used valid stands are few told snapshottable next_inode next_snapshot = record {
  valid = valid;
  stands = stands-ticked after.rows next snaps.issued.0 stands;
  marks = marks-within after.rows snaps.issued.0 after.greatest are.within;
  records = are.records;
  filled = record { first = are.filled.first; upto = are.filled.upto; few = are.filled.few; now = let now = are.filled.now in omega (arith, now, few) };
  naming = are.named;
  named = (all-names after.rows).0 are.but;
  told = told;
  snapshottable = snapshottable;
  next_inode = next_inode;
  next_snapshot = next_snapshot;
  ids = ids-within after.rows snaps.issued.0 after.greatest are.within;
  handed_out = are.waiting;
}

-- after a call that changes neither snapshots nor snapshottable directories
pub ended-same : (t after : Tabled) (snaps : Snapshots) (state next : State FileBlocks) (used : ℕ) → StandsFor t snaps state → IsValid (ticked next) → SameSnaps state next → next.tick ≡ state.tick
    → Stands after.rows next snaps.issued.0 → Midway state.members snaps.issued.0 (state.tick + 1) used [] after → used ≤ 3 → after.greatest + 1 ≡ next.next_inode → StandsFor after snaps (ticked next)
ended-same t after snaps state next used before valid same tick stands are few next_inode = ended after snaps next used valid stands
    (subst (λ n. Midway next.members snaps.issued.0 (n + 1) used [] after) (sym tick) (subst (λ (ms : List (Member FileBlocks)). Midway ms snaps.issued.0 (state.tick + 1) used [] after) (sym same.members) are)) few
    (subst (λ (ms : List (Member FileBlocks)). AreTold ms snaps) (sym same.members) before.told)
    (λ id. ap (λ (ids : List InodeId). list_any (same_inode id) ids) same.snapshottable ∙ before.snapshottable id)
    next_inode (before.next_snapshot ∙ sym same.next)
