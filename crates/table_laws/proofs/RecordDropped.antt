-- A snapshot is deleted.
use Rattle.std.proofs.Common.{◌≡◌, ℕ, List, [], ◌∷◌, Some, refl, sym, ap, subst, ◌∙◌, ⊎_elim, arith}
use Rattle.std.specs.Prelude.{◌⊎◌}
use Rattle.std.specs.List.{Contains}
use Rattle.std.specs.Option.{option_map}
use Rattle.hs_types.specs.declared.ids.InodeId.{InodeId}
use Rattle.hs_plain.specs.declared.state.Member.{Member}
use Rattle.hs_plain.specs.declared.state.State.{State}
use Rattle.hs_plain.specs.declared.state.FileBlocks.{FileBlocks}
use Rattle.hs_plain.specs.Change.{unsnapped}
use Rattle.hs_plain.proofs.ValidShapes.{same_some}
use Rattle.inode_table.specs.Indexed.{made_between}
use Rattle.inode_table.specs.Kept.{AreSound}
use Rattle.inode_table.specs.Merged.{merged, merged_rows, MergesOne}
use Rattle.inode_table.specs.Records.{Loses}
use Rattle.inode_table.specs.RowHistory.{RowHistory, RowState, File, Dir, Table, rows_at, ReadsAlike}
use Rattle.inode_table.specs.Snaps.{Drops}
use Rattle.inode_table.specs.Stands.{Stands}
use Rattle.inode_table.specs.Tabled.{Tabled}
use Rattle.inode_table.specs.Whole.{numbers_in}
use Rattle.inode_table.proofs.Combining.{merged-one}
use Rattle.inode_table.proofs.Kept.{alike-itself}
use Rattle.inode_table.proofs.Reading.{by_id}
use Rattle.inode_table.proofs.Recording.{merge-reads}
use Rattle.inode_table.proofs.Snapping.{drop-stands}
use Rattle.table_laws.specs.Recording.{IsRecorded}
use Rattle.table_laws.specs.RecordDropping.{AreLeft}
use Rattle.table_laws.specs.RecordDropped.{MergesLost, StaysAlike, LooksAt, DropsSnapshot}
use Rattle.table_laws.proofs.RecordElements.{from_filter}
use Rattle.table_laws.proofs.RecordDropping.{records-gone, is-gone, records-merged, records-kept, records-left, merge-index}

-- ---- records

-- what is left of the rules, row after row
pub looked : (fewer : List (Member FileBlocks)) (issued : ℕ) (ids : List InodeId) (before after : Tabled) → LooksAt fewer ids before after → AreLeft before fewer issued ids → AreLeft after fewer issued [] × (after.index ≡ before.index)
looked fewer issued [] before after same are = (subst (λ (t : Tabled). AreLeft t fewer issued []) (sym same) are, ap (λ (t : Tabled). t.index) same)
looked fewer issued (id ∷ ids) before after looks are = let rest = looked fewer issued ids looks.0 after looks.2 (next looks.1).0 in (rest.0, rest.1 ∙ (next looks.1).1)
  where
    next : MergesLost fewer id before looks.0 ⊎ StaysAlike fewer id before looks.0 → AreLeft looks.0 fewer issued ids × (looks.0.index ≡ before.index)
    next = ⊎_elim
        (λ m. (subst (λ (t : Tabled). AreLeft t fewer issued ids) (sym m.is) (records-merged before fewer issued id ids m.row m.there m.lost are), ap (λ (t : Tabled). t.index) m.is ∙ merge-index before id m.lost.i))
        (λ s. (subst (λ (t : Tabled). AreLeft t fewer issued ids) (sym s.is) (records-kept before fewer issued id ids s.keeps are), ap (λ (t : Tabled). t.index) s.is))

at_first : (state : State FileBlocks) (issued used : ℕ) (gone : Member FileBlocks) (before after : Tabled) → DropsSnapshot state issued used gone before after
    → AreLeft before (unsnapped state gone.snapshot).members issued (made_between gone.tick state.tick before.rows before.index)
at_first state issued used gone before after drops =
    records-gone before state.members (unsnapped state gone.snapshot).members issued state.tick used gone (is-gone state gone drops.was) drops.filled drops.records

pub dropped-records : (state : State FileBlocks) (issued used : ℕ) (gone : Member FileBlocks) (before after : Tabled) → DropsSnapshot state issued used gone before after
    → IsRecorded after (unsnapped state gone.snapshot).members issued × (after.index ≡ before.index)
dropped-records state issued used gone before after drops =
    let left = looked (unsnapped state gone.snapshot).members issued (made_between gone.tick state.tick before.rows before.index) before after drops.looks (at_first state issued used gone before after drops) in
    (records-left after (unsnapped state gone.snapshot).members issued left.0, left.1)

-- ---- readings

alike_after : (s : ℕ) (a b c : RowHistory) → ReadsAlike s a b → ReadsAlike s b c → ReadsAlike s a c
alike_after s a b c ab bc = record { node = λ id. bc.node id ∙ ab.node id; entries = bc.entries ∙ ab.entries; spot = bc.spot ∙ ab.spot }

drops_itself : (table : Table) (fewer : List (Member FileBlocks)) → Drops table table fewer
drops_itself table fewer = record { row = λ id old h. (old, h, alike-itself 0 old, λ m _. alike-itself m.snapshot.0 old); marks = λ id. refl }

drops_after : (a b c : Table) (fewer : List (Member FileBlocks)) → Drops a b fewer → Drops b c fewer → Drops a c fewer
drops_after a b c fewer ab bc = record {
  row = λ id old h. let first = ab.row id old h in let second = bc.row id first.0 first.1 in
      (second.0, second.1, alike_after 0 old first.0 second.0 first.2 second.2, λ m is_live. alike_after m.snapshot.0 old first.0 second.0 (first.3 m is_live) (second.3 m is_live));
  marks = λ id. bc.marks id ∙ ab.marks id;
}

module _ (t : Tabled) (fewer : List (Member FileBlocks)) (id : InodeId) (row : RowState) (lost : Loses fewer 0 (numbers_in row.rows)) (one : MergesOne t.rows (merged id lost.i t).rows id lost.i row.rows (merged_rows lost.i row.rows))
    (was : rows_at t.rows id ≡ Some row.rows) where
  drops_merged : Drops t.rows (merged id lost.i t).rows fewer
  drops_merged = record {
    row = λ x old h. by_id x id
        (λ e. let same : row.rows ≡ old = same_some (sym was ∙ ap (rows_at t.rows) (sym e) ∙ h) in
        subst (λ (r : RowHistory). (new : RowHistory) × (rows_at (merged id lost.i t).rows x ≡ Some new) × ReadsAlike 0 r new × ((m : Member FileBlocks) → Contains fewer m → ReadsAlike m.snapshot.0 r new)) same
        (merged_rows lost.i row.rows, ap (rows_at (merged id lost.i t).rows) e ∙ one.here, one.reads.below 0 (omega arith), λ m is_live. merge-reads fewer m (numbers_in row.rows) lost row.rows (merged_rows lost.i row.rows) one.reads is_live))
        (λ apart. (old, one.there x apart ∙ h, alike-itself 0 old, λ m _. alike-itself m.snapshot.0 old));
    marks = one.marks;
  }

pub looked_drops : (fewer : List (Member FileBlocks)) (issued : ℕ) (ids : List InodeId) (before after : Tabled) → LooksAt fewer ids before after → AreLeft before fewer issued ids → Drops before.rows after.rows fewer
looked_drops fewer issued [] before after same are = subst (λ (t : Tabled). Drops before.rows t.rows fewer) (sym same) (drops_itself before.rows fewer)
looked_drops fewer issued (id ∷ ids) before after looks are = drops_after before.rows looks.0.rows after.rows fewer (next looks.1).0 (looked_drops fewer issued ids looks.0 after looks.2 (next looks.1).1)
  where
    sound : (rows : RowHistory) → rows_at before.rows id ≡ Some rows → AreSound rows
    sound (File file) h = tt
    sound (Dir dir) h = are.undoable id dir h

    merges : (m : MergesLost fewer id before looks.0) → Drops before.rows looks.0.rows fewer × AreLeft looks.0 fewer issued ids
    merges m = let was : rows_at before.rows id ≡ Some m.row.rows = ap (option_map (λ (r : RowState). r.rows)) m.there in
        subst (λ (t : Tabled). Drops before.rows t.rows fewer × AreLeft t fewer issued ids) (sym m.is)
        (drops_merged before fewer id m.row m.lost (merged-one before id m.lost.i m.row m.there (sound m.row.rows was) m.lost.within) was, records-merged before fewer issued id ids m.row m.there m.lost are)

    next : MergesLost fewer id before looks.0 ⊎ StaysAlike fewer id before looks.0 → Drops before.rows looks.0.rows fewer × AreLeft looks.0 fewer issued ids
    next = ⊎_elim
        merges
        (λ s. subst (λ (t : Tabled). Drops before.rows t.rows fewer × AreLeft t fewer issued ids) (sym s.is) (drops_itself before.rows fewer, records-kept before fewer issued id ids s.keeps are))

pub dropped-stands : (state : State FileBlocks) (issued used : ℕ) (gone : Member FileBlocks) (before after : Tabled) → DropsSnapshot state issued used gone before after
    → Stands before.rows state issued → Stands after.rows (unsnapped state gone.snapshot) issued
dropped-stands state issued used gone before after drops stands =
    drop-stands before.rows after.rows state issued (unsnapped state gone.snapshot).members
    (looked_drops (unsnapped state gone.snapshot).members issued (made_between gone.tick state.tick before.rows before.index) before after drops.looks (at_first state issued used gone before after drops))
    (λ m c. from_filter _ state.members m c) stands
