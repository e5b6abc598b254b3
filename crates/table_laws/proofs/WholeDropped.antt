-- A whole deletion of a snapshot.
use Rattle.std.proofs.Common.{◌≡◌, ℕ, ◌+◌, Bool, true, false, cond, inl, inr, List, [], ◌∷◌, map, filter, Option, Some, None, Ok, refl, sym, ap, subst, ◌∙◌, arith}
use Rattle.std.specs.Prelude.{not}
use Rattle.std.specs.List.{Contains}
use Rattle.std.specs.FinMap.Entries.{put}
use Rattle.hs_types.specs.Names.{Names}
use Rattle.hs_types.specs.declared.ids.InodeId.{InodeId}
use Rattle.hs_types.specs.declared.ids.SnapId.{SnapId}
use Rattle.hs_types.specs.declared.call.Call.TheVariants as calls
use Rattle.hs_plain.specs.declared.state.Node.{Node}
use Rattle.hs_plain.specs.declared.state.State.{State}
use Rattle.hs_plain.specs.declared.state.Member.{Member}
use Rattle.hs_plain.specs.declared.state.FileBlocks.{FileBlocks}
use Rattle.hs_plain.specs.Asked.{refuse_if}
use Rattle.hs_plain.specs.Files.{Files}
use Rattle.hs_plain.specs.State.{is_snapshottable, snapshot_named}
use Rattle.hs_plain.specs.Snapshotting.{directory_at, snap_del_at}
use Rattle.hs_plain.specs.Change.{change, ticked, if_asked, is_snapshot, unsnapped}
use Rattle.hs_plain.specs.Valid.{IsValid}
use Rattle.hs_plain.proofs.ValidAsked.{ok_then, same_ok}
use Rattle.hs_plain.proofs.ValidLists.{In}
use Rattle.hs_plain.proofs.Validity.{valid-change}
use Rattle.snapshot_manager.specs.Snapshots as snapshots
use Rattle.snapshot_manager.specs.Snapshots.{Snapshots}
use Rattle.snapshot_manager.specs.Members as members
use Rattle.snapshot_manager.specs.Members.{AreMembers}
use Rattle.snapshot_manager.proofs.MemberLemmas.{removed_out}
use Rattle.inode_table.specs.declared.freed.Freed.{Freed}
use Rattle.inode_table.specs.FromValid.{GivesNodes}
use Rattle.inode_table.specs.Indexed.{made_between}
use Rattle.inode_table.specs.Joined.{told, AreTold}
use Rattle.inode_table.specs.Merged.{merged, merged_from, merged_rows, ids_dropped}
use Rattle.inode_table.specs.Released.{Releasing}
use Rattle.inode_table.specs.RowHistory.{RowState, row_at, id_order}
use Rattle.inode_table.specs.Tabled.{Tabled}
use Rattle.inode_table.specs.Whole.{AreRecords, IsFilled, StandsFor}
use Rattle.inode_table.proofs.Reading.{by_id}
use Rattle.inode_table.proofs.Giving.{from-valid}
use Rattle.inode_table.proofs.Going.{kept-all-less, released-stands}
use Rattle.table_laws.specs.NameCalls.{MergedBy, HasAllNames}
use Rattle.table_laws.specs.RecordDropped.{LooksAt, DropsSnapshot}
use Rattle.table_laws.proofs.NamedCalls.{drop-names}
use Rattle.table_laws.proofs.NamedRows.{all-names}
use Rattle.table_laws.proofs.RecordDropped.{dropped-records, dropped-stands}
use Rattle.table_laws.proofs.RecordIndex.{filled-next}
use Rattle.table_laws.proofs.Recording.{records-released}
use Rattle.table_laws.proofs.StepTables.{put-here, put-there}
use Rattle.table_laws.proofs.WholeMidway.{Midway, ended}
use Rattle.table_laws.proofs.WholeNaming.{same-test}
use Rattle.table_laws.proofs.WholeParts.{Within, mark_in, within-of, within-same, within-released, greatest-released}
use Rattle.table_laws.proofs.WholeSnaps.{some-changed}

-- ---- records taken away in turn

-- what was merged, row after row
pub merged-by : (fewer : List (Member FileBlocks)) (ids : List InodeId) (before after : Tabled) → LooksAt fewer ids before after → (records : List (InodeId × ℕ)) × MergedBy before records after
merged-by fewer [] before after is = ([], is)
merged-by fewer (id ∷ ids) before after (middle, inl step, rest) = let more = merged-by fewer ids middle after rest in
    ((id, step.lost.i) ∷ more.0, (step.row, step.there, step.lost.within, subst (λ (t : Tabled). MergedBy t more.0 after) step.is more.1))
merged-by fewer (id ∷ ids) before after (middle, inr step, rest) = let more = merged-by fewer ids middle after rest in (more.0, subst (λ (t : Tabled). MergedBy t more.0 after) step.is more.1)

merged_same : (id x : InodeId) (i : ℕ) (t : Tabled) (o : Option RowState) → row_at t.rows id ≡ o → mark_in (row_at (merged_from id i o t).rows x) ≡ mark_in (row_at t.rows x)
merged_same id x i t None is = refl
merged_same id x i t (Some row) is = kept-all-less mark_in (λ r n. refl) (ids_dropped i row.rows) x (put id_order id (record row { rows = merged_rows i row.rows }) t.rows) ∙ by_id x id
    (λ e. ap (λ (j : InodeId). mark_in (row_at (put id_order id (record row { rows = merged_rows i row.rows }) t.rows) j)) e ∙ ap mark_in (put-here id (record row { rows = merged_rows i row.rows }) t.rows) ∙ sym (ap mark_in is) ∙ sym (ap (λ (j : InodeId). mark_in (row_at t.rows j)) e))
    (λ ne. ap mark_in (put-there id x (record row { rows = merged_rows i row.rows }) t.rows ne))

merged_greatest : (id : InodeId) (i : ℕ) (t : Tabled) (o : Option RowState) → (merged_from id i o t).greatest ≡ t.greatest
merged_greatest id i t None = refl
merged_greatest id i t (Some row) = refl

pub within-merged : (before : Tabled) (records : List (InodeId × ℕ)) (after : Tabled) (issued greatest : ℕ) → MergedBy before records after → Within before.rows issued greatest → Within after.rows issued greatest
within-merged before [] after issued greatest is within = subst (λ (t : Tabled). Within t.rows issued greatest) (sym is) within
within-merged before (one ∷ more) after issued greatest step within = within-merged (merged one.0 one.1 before) more after issued greatest step.3
    (within-same before.rows (merged one.0 one.1 before).rows issued greatest (λ x. merged_same one.0 x one.1 before (row_at before.rows one.0) refl) within)

pub greatest-merged : (before : Tabled) (records : List (InodeId × ℕ)) (after : Tabled) → MergedBy before records after → after.greatest ≡ before.greatest
greatest-merged before [] after is = ap (λ (t : Tabled). t.greatest) is
greatest-merged before (one ∷ more) after step = greatest-merged (merged one.0 one.1 before) more after step.3 ∙ merged_greatest one.0 one.1 before (row_at before.rows one.0)

-- ---- the snapshots that are left

pub filter_told : (p : Member FileBlocks → Bool) (q : members.Member → Bool) (ms : List (Member FileBlocks)) → ((m : Member FileBlocks) → In ms m → p m ≡ q (told m)) → map told (filter p ms) ≡ filter q (map told ms)
filter_told p q [] same = refl
filter_told p q (m ∷ ms) same = ap (λ b. map told (cond b (m ∷ filter p ms) (filter p ms))) (same m (inl refl)) ∙ by (q (told m)) (filter_told p q ms (λ o at. same o (inr at)))
  where
    by : (b : Bool) → map told (filter p ms) ≡ filter q (map told ms) → map told (cond b (m ∷ filter p ms) (filter p ms)) ≡ cond b (told m ∷ filter q (map told ms)) (filter q (map told ms))
    by true rest = ap (λ l. told m ∷ l) rest
    by false rest = rest

named_there : (state : State FileBlocks) (text name : List ℕ) (path : Names) (node : Node FileBlocks) (id : SnapId) → directory_at state text ≡ Ok (path, node) → snap_del_at state text name ≡ Ok id → snapshot_named state.members node.id name ≡ Ok id
named_there state text name path node id at h =
    let a = ok_then (directory_at state text) _ id h in
    let b = ok_then (refuse_if (not (is_snapshottable state a.0.1.id)) _) _ id a.2 in
    let same : a.0 ≡ (path, node) = same_ok (sym a.1 ∙ at) in
    ap (λ (x : Names × Node FileBlocks). snapshot_named state.members x.1.id name) (sym same) ∙ b.2

-- ---- the whole

pub whole-snap_del : (files : Files FileBlocks) (t middle after : Tabled) (freed : Freed) (snaps : Snapshots) (state : State FileBlocks) (text name : List ℕ) (path : Names) (node : Node FileBlocks) (gone : Member FileBlocks)
    → StandsFor t snaps state → directory_at state text ≡ Ok (path, node) → snap_del_at state text name ≡ Ok gone.snapshot → Contains state.members gone
    → LooksAt (unsnapped state gone.snapshot).members (made_between gone.tick state.tick t.rows t.index) t middle → Releasing middle freed after
    → StandsFor after (snapshots.changed node.id (snapshots.without name) snaps) (ticked (change files state (calls.SnapDel text name)))
whole-snap_del files t middle after freed snaps state text name path node gone before at asked was looks going = subst (λ (s : State FileBlocks). StandsFor after later (ticked s)) (sym is)
    (ended after later next 0 valid (released-stands middle (record after { waiting = freed.blocks }) going.gone next snaps.issued.0 going.steps gives.live gives.copies gives.dirs (dropped-stands state snaps.issued.0 3 gone t middle drops before.stands))
    midway (omega arith) told_after (λ q. before.snapshottable q ∙ sym (some-changed node.id q (snapshots.without name) snaps))
    (ap (λ n. n + 1) (greatest-released middle (record after { waiting = freed.blocks }) going.gone going.steps ∙ greatest-merged t merges.0 middle merges.1) ∙ before.next_inode) before.next_snapshot)
  where
    later : Snapshots
    later = snapshots.changed node.id (snapshots.without name) snaps

    next : State FileBlocks
    next = unsnapped state gone.snapshot

    is : change files state (calls.SnapDel text name) ≡ unsnapped state gone.snapshot
    is = ap (if_asked (unsnapped state) state) asked

    valid : IsValid (ticked (unsnapped state gone.snapshot))
    valid = subst (λ (s : State FileBlocks). IsValid (ticked s)) is (valid-change state before.valid files (calls.SnapDel text name))

    gives : GivesNodes (unsnapped state gone.snapshot)
    gives = let g = from-valid (ticked (unsnapped state gone.snapshot)) valid in record { live = g.live; copies = g.copies; dirs = g.dirs }

    drops : DropsSnapshot state snaps.issued.0 3 gone t middle
    drops = record { was = was; records = before.records; filled = before.filled; looks = looks }

    merges : (records : List (InodeId × ℕ)) × MergedBy t records middle
    merges = merged-by (unsnapped state gone.snapshot).members (made_between gone.tick state.tick t.rows t.index) t middle looks

    left : AreRecords middle.rows middle.index (unsnapped state gone.snapshot).members snaps.issued.0 × (middle.index ≡ t.index)
    left = dropped-records state snaps.issued.0 3 gone t middle drops

    released : AreRecords after.rows after.index (unsnapped state gone.snapshot).members snaps.issued.0 × (after.index ≡ middle.index)
    released = records-released middle after freed (unsnapped state gone.snapshot).members snaps.issued.0 going left.0

    names : HasAllNames after
    names = drop-names t middle after merges.0 freed merges.1 going (record { sound = before.records.undoable; named = before.naming })

    midway : Midway (unsnapped state gone.snapshot).members snaps.issued.0 (state.tick + 1) 0 [] after
    midway = record {
      records = released.0;
      some = omega arith;
      filled = subst (λ index. IsFilled index (state.tick + 1) 0) (sym (released.1 ∙ left.1)) (filled-next t.index state.tick 3 before.filled);
      named = names.named;
      but = (all-names after.rows).1 names.all;
      within = subst (Within after.rows snaps.issued.0) (sym (greatest-released middle (record after { waiting = freed.blocks }) going.gone going.steps ∙ greatest-merged t merges.0 middle merges.1))
          (within-released middle (record after { waiting = freed.blocks }) going.gone snaps.issued.0 t.greatest going.steps (within-merged t merges.0 middle snaps.issued.0 t.greatest merges.1 (within-of t snaps state before)));
      waiting = going.waiting;
    }

    told_after : AreTold (unsnapped state gone.snapshot).members (snapshots.changed node.id (snapshots.without name) snaps)
    told_after = subst (λ ms. AreMembers ms (snapshots.changed node.id (snapshots.without name) snaps))
        (sym (filter_told (λ m. not (is_snapshot gone.snapshot m)) (λ m. not (members.is_member node.id name m)) state.members
        (λ m c. ap not (same-test state before.valid node.id name gone.snapshot (named_there state text name path node gone.snapshot at asked) m c))))
        (removed_out (map told state.members) snaps node.id name before.told)
