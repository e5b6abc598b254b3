-- The other parts of what a table stands for: marks, ids, numbers.
use Rattle.std.proofs.Common.{◌≡◌, ℕ, ◌≤◌, cond, List, [], ◌∷◌, Option, Some, None, refl, sym, ap, subst, ◌∙◌, arith}
use Rattle.std.specs.Prelude.{◌≢◌, not}
use Rattle.std.specs.Option.{option_map}
use Rattle.std.specs.FinMap.{nat_cmp-IsAntisymmetric}
use Rattle.std.specs.FinMap.Entries.{put, find-where_key}
use Rattle.std.proofs.lemmas.Bool.Decides.{Decides-eqb}
use Rattle.hs_types.specs.declared.ids.InodeId.{InodeId}
use Rattle.hs_plain.specs.declared.state.State.{State}
use Rattle.hs_plain.specs.declared.state.FileBlocks.{FileBlocks}
use Rattle.hs_plain.specs.Tree.{same_inode}
use Rattle.hs_plain.specs.Change.{ticked}
use Rattle.hs_plain.proofs.ValidShapes.{none_some, same_some}
use Rattle.snapshot_manager.specs.Snapshots.{Snapshots}
use Rattle.inode_table.specs.declared.change.Change.{Change}
use Rattle.inode_table.specs.Marks.{Mark}
use Rattle.inode_table.specs.RowHistory.{RowHistory, RowState, Table, row_at, marks_of, mark_of, id_order}
use Rattle.inode_table.specs.Stands.{Stands, root_id}
use Rattle.inode_table.specs.Tabled.{Tabled, put_changed, changed_row, with_changed, changed, recount_in, fresh_row, inserted, put_marks, marked_row}
use Rattle.inode_table.specs.Released.{without_row, let_go, MayGo, ReleasedBy}
use Rattle.inode_table.specs.Names.{named_in}
use Rattle.inode_table.specs.Whole.{AreMarksIssued, StandsFor}
use Rattle.inode_table.proofs.Reading.{by_id}
use Rattle.inode_table.proofs.Going.{kept-all-less, row_at-without, let-go}
use Rattle.inode_table.proofs.Giving.{from-valid}
use Rattle.table_laws.specs.WholeStands.{Before}
use Rattle.table_laws.proofs.StepTables.{put-here, put-there, same-recounted}

-- ---- marks and ids of the rows that are there

abbrev pub mark_in : Option RowState → Option Mark
mark_in row = option_map (λ r. record { since = r.since; carry = r.carry }) row

abbrev mark_or : Option Mark → Mark
mark_or None = record { since = 0; carry = 0 }
mark_or (Some mark) = mark

by_mark : (o : Option RowState) → mark_of o ≡ mark_or (mark_in o)
by_mark None = refl
by_mark (Some row) = refl

-- each mark is issued, and each id is at most the greatest
pub record Within (t : Table) (issued greatest : ℕ) : Type 0 where
  pub each : (id : InodeId) (mark : Mark) → mark_in (row_at t id) ≡ Some mark → (mark.since ≤ issued) × (mark.carry ≤ issued) × (id.0 ≤ greatest)
  pub root : marks_of t root_id ≡ record { since = 0; carry = 0 }

row_of_mark : (o : Option RowState) (mark : Mark) → mark_in o ≡ Some mark → (row : RowState) × (o ≡ Some row) × (mark ≡ record { since = row.since; carry = row.carry })
row_of_mark None mark h = absurd (none_some h)
row_of_mark (Some row) mark h = (row, refl, sym (same_some h))

pub within-of : (t : Tabled) (snaps : Snapshots) (state : State FileBlocks) → StandsFor t snaps state → Within t.rows snaps.issued.0 t.greatest
within-of t snaps state stands = record {
  each = λ id mark h. let row = row_of_mark (row_at t.rows id) mark h in
      (subst (λ (k : Mark). k.since ≤ snaps.issued.0) (sym row.2) (stands.marks.since id row.0 row.1), subst (λ (k : Mark). k.carry ≤ snaps.issued.0) (sym row.2) (stands.marks.carry id row.0 row.1), stands.ids id row.0 row.1);
  root = stands.marks.root;
}

pub marks-within : (t : Table) (issued greatest : ℕ) → Within t issued greatest → AreMarksIssued t issued
marks-within t issued greatest within = record {
  since = λ id row h. (within.each id (record { since = row.since; carry = row.carry }) (ap mark_in h)).0;
  carry = λ id row h. (within.each id (record { since = row.since; carry = row.carry }) (ap mark_in h)).1;
  root = within.root;
}

pub ids-within : (t : Table) (issued greatest : ℕ) → Within t issued greatest → (id : InodeId) (row : RowState) → row_at t id ≡ Some row → id.0 ≤ greatest
ids-within t issued greatest within id row h = (within.each id (record { since = row.since; carry = row.carry }) (ap mark_in h)).2

-- ---- under each call of a table

pub within-same : (before after : Table) (issued greatest : ℕ) → ((id : InodeId) → mark_in (row_at after id) ≡ mark_in (row_at before id)) → Within before issued greatest → Within after issued greatest
within-same before after issued greatest same within = record {
  each = λ id mark h. within.each id mark (sym (same id) ∙ h);
  root = by_mark (row_at after root_id) ∙ ap mark_or (same root_id) ∙ sym (by_mark (row_at before root_id)) ∙ within.root;
}

put_same : (id x : InodeId) (number tick : ℕ) (what : Change) (o : Option RowState) (t : Table) → row_at t id ≡ o → mark_in (row_at (put_changed id number tick what o t) x) ≡ mark_in (row_at t x)
put_same id x number tick what None t is = refl
put_same id x number tick what (Some row) t is = by_id x id
    (λ e. ap (λ (j : InodeId). mark_in (row_at (put id_order id (changed_row number tick what row) t) j)) e ∙ ap mark_in (put-here id (changed_row number tick what row) t) ∙ sym (ap mark_in is) ∙ sym (ap (λ (j : InodeId). mark_in (row_at t j)) e))
    (λ ne. ap mark_in (put-there id x (changed_row number tick what row) t ne))

pub within-changed : (t : Tabled) (id : InodeId) (number tick : ℕ) (what : Change) (issued greatest : ℕ) → Within t.rows issued greatest → Within (changed id number tick what t).rows issued greatest
within-changed t id number tick what issued greatest = within-same t.rows (changed id number tick what t).rows issued greatest
    (λ x. same-recounted mark_in (λ r n. refl) (recount_in number what (row_at t.rows id)) x (with_changed id number tick what t.rows) ∙ put_same id x number tick what (row_at t.rows id) t.rows refl)

pub within-inserted : (t : Tabled) (id : InodeId) (rows : RowHistory) (issued greatest : ℕ) → greatest ≤ id.0 → root_id ≢ id → Within t.rows issued greatest → Within (inserted id rows issued t).rows issued id.0
within-inserted t id rows issued greatest above other within = record {
  each = λ x mark h. by_id x id
      (λ e. let same : record { since = issued; carry = 0 } ≡ mark = same_some (sym (ap (λ (j : InodeId). mark_in (row_at (put id_order id (fresh_row rows issued) t.rows) j)) e ∙ ap mark_in (put-here id (fresh_row rows issued) t.rows)) ∙ h) in
      let most : x.0 ≡ id.0 = ap (λ (j : InodeId). j.0) e in
      (subst (λ (k : Mark). k.since ≤ issued) same (omega arith), subst (λ (k : Mark). k.carry ≤ issued) same (omega arith), omega arith))
      (λ ne. let was = within.each x mark (sym (ap mark_in (put-there id x (fresh_row rows issued) t.rows ne)) ∙ h) in let upto = was.2 in (was.0, was.1, omega arith));
  root = ap mark_of (put-there id root_id (fresh_row rows issued) t.rows other) ∙ within.root;
}

pub within-marked : (t : Tabled) (id : InodeId) (carry issued greatest : ℕ) → carry ≤ issued → root_id ≢ id → Within t.rows issued greatest → Within (marked_row id issued carry t).rows issued greatest
within-marked t id carry issued greatest upto other within = by (row_at t.rows id) refl
  where
    by : (o : Option RowState) → row_at t.rows id ≡ o → Within (put_marks id issued carry o t.rows) issued greatest
    by None is = within
    by (Some row) is = record {
      each = λ x mark h. by_id x id
          (λ e. let same : record { since = issued; carry = carry } ≡ mark = same_some (sym (ap (λ (j : InodeId). mark_in (row_at (put id_order id (record row { since = issued; carry = carry }) t.rows) j)) e ∙ ap mark_in (put-here id (record row { since = issued; carry = carry }) t.rows)) ∙ h) in
          let was = within.each id (record { since = row.since; carry = row.carry }) (ap mark_in is) in let most : x.0 ≡ id.0 = ap (λ (j : InodeId). j.0) e in let least = was.2 in
          (subst (λ (k : Mark). k.since ≤ issued) same (omega arith), subst (λ (k : Mark). k.carry ≤ issued) same upto, omega arith))
          (λ ne. within.each x mark (sym (ap mark_in (put-there id x (record row { since = issued; carry = carry }) t.rows ne)) ∙ h));
      root = ap mark_of (put-there id root_id (record row { since = issued; carry = carry }) t.rows other) ∙ within.root;
    }

gone_row : (id : InodeId) (t : Table) → row_at (without_row id t) id ≡ None
gone_row id t =
    find-where_key id_order (λ other. not (same_inode other id)) id (λ y tie. ap (λ (n : ℕ). not (same_inode (record { 0 = n }) id)) (sym (nat_cmp-IsAntisymmetric id.0 y.0 tie))) t
    ∙ ap (λ b. cond (not b) (row_at t id) None) ((Decides-eqb id.0 id.0).1 refl)

within-let_go : (t : Tabled) (id : InodeId) (row : RowState) (issued greatest : ℕ) → MayGo t.rows id row → Within t.rows issued greatest → Within (let_go id row.rows t).rows issued greatest
within-let_go t id row issued greatest may within = record {
  each = λ x mark h. let left : mark_in (row_at (without_row id t.rows) x) ≡ Some mark = sym (kept-all-less mark_in (λ r n. refl) (named_in row.rows) x (without_row id t.rows)) ∙ h in by_id x id
      (λ e. absurd (none_some (sym (ap (λ (j : InodeId). mark_in (row_at (without_row id t.rows) j)) e ∙ ap mark_in (gone_row id t.rows)) ∙ left)))
      (λ ne. within.each x mark (sym (ap mark_in (row_at-without id x t.rows ne)) ∙ left));
  root = (let-go t id row may).marks root_id (λ e. may.not_root (sym e)) ∙ within.root;
}

pub within-released : (before after : Tabled) (gone : List InodeId) (issued greatest : ℕ) → ReleasedBy before gone after → Within before.rows issued greatest → Within after.rows issued greatest
within-released before after [] issued greatest same within = subst (λ (t : Tabled). Within t.rows issued greatest) (sym same) within
within-released before after (id ∷ gone) issued greatest step within =
    within-released (let_go id step.0.rows before) after gone issued greatest step.2 (within-let_go before id step.0 issued greatest step.1 within)

pub greatest-released : (before after : Tabled) (gone : List InodeId) → ReleasedBy before gone after → after.greatest ≡ before.greatest
greatest-released before after [] same = ap (λ (t : Tabled). t.greatest) same
greatest-released before after (id ∷ gone) step = greatest-released (let_go id step.0.rows before) after gone step.2

-- ---- what a call begins and ends with

pub before-of : (t : Tabled) (snaps : Snapshots) (state : State FileBlocks) → StandsFor t snaps state → Before t state snaps.issued.0
before-of t snaps state stands = record { nodes = (from-valid state stands.valid).live; sound = stands.records.undoable; stands = stands.stands }

pub stands-ticked : (table : Table) (state : State FileBlocks) (issued : ℕ) → Stands table state issued → Stands table (ticked state) issued
stands-ticked table state issued stands = record { live = stands.live; frozen = stands.frozen; marks = stands.marks; top = stands.top; ids_issued = stands.ids_issued }

-- a call that changes no snapshot and no snapshottable directory
pub record SameSnaps (before after : State FileBlocks) : Type 0 where
  pub members : after.members ≡ before.members
  pub snapshottable : after.snapshottable ≡ before.snapshottable
  pub next : after.next_snapshot ≡ before.next_snapshot
