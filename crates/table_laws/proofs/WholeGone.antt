-- A whole deletion.
use Rattle.std.proofs.Common.{◌≡◌, ℕ, ◌+◌, Bool, true, false, List, [], ◌∷◌, Option, Some, None, Ok, refl, sym, ap, subst, ◌∙◌, arith}
use Rattle.std.specs.Prelude.{not, ◌&&◌}
use Rattle.std.specs.List.{list_any}
use Rattle.hs_types.specs.Names.{Names}
use Rattle.hs_types.specs.declared.ids.InodeId.{InodeId}
use Rattle.hs_types.specs.declared.ids.SnapId.{SnapId}
use Rattle.hs_types.specs.declared.call.Call.TheVariants as calls
use Rattle.hs_types.specs.declared.refusal.Refusal.TheVariants.{NotEmpty, HasSnapshots}
use Rattle.hs_plain.specs.declared.state.Node.{Node}
use Rattle.hs_plain.specs.declared.state.State.{State}
use Rattle.hs_plain.specs.declared.state.FileBlocks.{FileBlocks}
use Rattle.hs_plain.specs.Files.{Files}
use Rattle.hs_plain.specs.Asked.{Asked, refuse_if}
use Rattle.hs_plain.specs.Tree.{Tree, node_at, is_root_path, same_inode, walks_above, walk, found}
use Rattle.hs_plain.specs.State.{is_snapshottable, holds_snapshots}
use Rattle.hs_plain.specs.Modifying.{live_path, delete_at, spares_children}
use Rattle.hs_plain.specs.Change.{change, ticked, if_asked, removed}
use Rattle.hs_plain.specs.Valid.{IsValid}
use Rattle.hs_plain.proofs.ValidAsked.{ok_then, same_ok}
use Rattle.hs_plain.proofs.ValidLists.{In}
use Rattle.hs_plain.proofs.ValidDirs.{listed_test}
use Rattle.hs_plain.proofs.Validity.{valid-change}
use Rattle.snapshot_manager.specs.Snapshots.{Snapshots}
use Rattle.inode_table.specs.declared.change.Change.TheVariants as changes
use Rattle.inode_table.specs.declared.freed.Freed.{Freed}
use Rattle.inode_table.specs.Reads.{child, id_of}
use Rattle.inode_table.specs.Stands.{Stands}
use Rattle.inode_table.specs.FromValid.{GivesNodes}
use Rattle.inode_table.specs.Kept.{CanChange, IsLoose}
use Rattle.inode_table.specs.Once.{IsIn}
use Rattle.inode_table.specs.Released.{Releasing}
use Rattle.inode_table.specs.Tabled.{Tabled}
use Rattle.inode_table.specs.Joined.{AreTold}
use Rattle.inode_table.specs.Whole.{StandsFor}
use Rattle.inode_table.proofs.Giving.{from-valid}
use Rattle.table_laws.specs.Naming.{lists_of}
use Rattle.table_laws.specs.WholeCalls as tables
use Rattle.table_laws.specs.WholeCalls.{way_to, need_at, all_disallowed}
use Rattle.table_laws.specs.WholeStands.{Reaches}
use Rattle.table_laws.specs.WholeLaws.{AreGone}
use Rattle.table_laws.proofs.WholeSteps.{fits-remove}
use Rattle.table_laws.proofs.WholeDeeds.{LiveRow, live-row}
use Rattle.table_laws.proofs.WholeMoves.{deleted-stands}
use Rattle.table_laws.proofs.WholeMidway.{Midway, begun, may-can, mid-out, mid-release, ended}
use Rattle.table_laws.proofs.WholeParts.{before-of, greatest-released}
use Rattle.table_laws.proofs.WholeSnaps.{some-disallowed, issued-disallowed, told-disallowed, none-of}

abbrev okay : {X : Type 0} → X → Asked X
okay x = Ok x

found_some : (o : Option (Node FileBlocks)) (n : Node FileBlocks) → found o ≡ Ok n → o ≡ Some n
found_some None n h = cc
found_some (Some m) n h = ap (λ x. Some x) (same_ok h)

pub walk-there : (tree : Tree FileBlocks) (path : Names) (n : Node FileBlocks) → walk tree path ≡ Ok n → node_at tree path ≡ Some n
walk-there tree path n h = let w = ok_then (walks_above tree path) _ n h in found_some (node_at tree path) n w.2

pub delete_there : (state : State FileBlocks) (text : List ℕ) (recursive : Bool) (path : Names) → delete_at state text recursive ≡ Ok path → (n : Node FileBlocks) × (node_at state.tree path ≡ Some n)
delete_there state text recursive path h =
    let a = ok_then (live_path text) _ path h in
    let b = ok_then (walk state.tree a.0) _ path a.2 in
    let c = ok_then (refuse_if (is_root_path a.0) _) _ path b.2 in
    let d = ok_then (refuse_if (spares_children state.tree a.0 recursive) NotEmpty) _ path c.2 in
    let f = ok_then (refuse_if (holds_snapshots state a.0) HasSnapshots) (λ _. okay a.0) path d.2 in
    (b.0, ap (node_at state.tree) (sym (same_ok f.2)) ∙ walk-there state.tree a.0 b.0 b.1)

module _ (t : Tabled) (snaps : Snapshots) (state : State FileBlocks) (above : Names) (name : List ℕ) (chain : List InodeId) (parent node : Node FileBlocks)
    (before : StandsFor t snaps state) (reach : Reaches state above chain parent) (there : node_at state.tree (child above name) ≡ Some node) where
  row : LiveRow t.rows state above parent
  row = live-row t state snaps.issued.0 above parent (before-of t snaps state before) reach.at

  pub can-unlink : CanChange t.rows parent.id (changes.Remove name)
  can-unlink = record { row = row.row; there = row.there; fits = fits-remove node.id name row.row.rows (row.entries name ∙ ap id_of there); entry = tt }

  entered : IsIn (lists_of t.rows) parent.id name node.id
  entered = before.stands.live.entries above parent name reach.at ∙ ap id_of there

  pub unlinked : Midway state.members snaps.issued.0 (state.tick + 1) 1 (node.id ∷ []) (tables.unlinked state (way_to parent chain) name t) × IsLoose (tables.unlinked state (way_to parent chain) name t).rows node.id
  unlinked = mid-out state.members snaps.issued.0 (state.tick + 1) 0 [] t (begun t snaps state before) parent.id node.id (need_at state t.rows (way_to parent chain)) name can-unlink entered
      (may-can t snaps state above chain parent (changes.Remove name) before reach can-unlink) (omega arith)

  whole-unlinked : (after : Tabled) (freed : Freed) (gone : List InodeId) → IsValid (ticked (removed state (child above name))) → AreGone state (child above name) gone
      → Releasing (tables.unlinked state (way_to parent chain) name t) freed after → StandsFor after (all_disallowed gone snaps) (ticked (removed state (child above name)))
  whole-unlinked after freed gone valid are_gone going = ended after (all_disallowed gone snaps) next 1 valid
      (subst (λ (i : SnapId). Stands after.rows next i.0) (sym issued) (deleted-stands t state snaps.issued.0 above chain parent node name (before-of t snaps state before) reach there after freed gives going))
      (subst (λ (i : SnapId). Midway state.members i.0 (state.tick + 1) 1 [] after) (sym issued)
      (mid-release state.members snaps.issued.0 (state.tick + 1) 1 (node.id ∷ []) (tables.unlinked state (way_to parent chain) name t) unlinked.0 after freed going))
      (omega arith) told (λ id. are_gone id ∙ ap (λ b. b && not (list_any (same_inode id) gone)) (before.snapshottable id) ∙ sym (some-disallowed gone id snaps))
      (ap (λ n. n + 1) (greatest-released (tables.unlinked state (way_to parent chain) name t) (record after { waiting = freed.blocks }) going.gone going.steps) ∙ before.next_inode)
      (ap (λ (i : SnapId). i.0 + 1) issued ∙ before.next_snapshot)
    where
      next : State FileBlocks
      next = removed state (child above name)

      issued : (all_disallowed gone snaps).issued ≡ snaps.issued
      issued = issued-disallowed gone snaps

      gives : GivesNodes (removed state (child above name))
      gives = let g = from-valid (ticked (removed state (child above name))) valid in record { live = g.live; copies = g.copies; dirs = g.dirs }

      no_more : (dir : InodeId) → In gone dir → is_snapshottable (removed state (child above name)) dir ≡ false
      no_more dir at = are_gone dir ∙ ap (λ b. is_snapshottable state dir && not b) (listed_test gone dir at) ∙ none (is_snapshottable state dir)
        where
          none : (b : Bool) → (b && not true) ≡ false
          none true = refl
          none false = refl

      told : AreTold state.members (all_disallowed gone snaps)
      told = told-disallowed gone _ snaps (λ dir at. none-of (is_snapshottable (removed state (child above name))) dir state.members (no_more dir at) valid.member_dirs) before.told

pub whole-delete : (files : Files FileBlocks) (t after : Tabled) (freed : Freed) (snaps : Snapshots) (gone : List InodeId) (state : State FileBlocks) (text : List ℕ) (recursive : Bool) (above : Names) (name : List ℕ) (chain : List InodeId) (parent : Node FileBlocks)
    → StandsFor t snaps state → delete_at state text recursive ≡ Ok (child above name) → Reaches state above chain parent → AreGone state (child above name) gone
    → Releasing (tables.unlinked state (way_to parent chain) name t) freed after
    → StandsFor after (all_disallowed gone snaps) (ticked (change files state (calls.Delete text recursive)))
whole-delete files t after freed snaps gone state text recursive above name chain parent before asked reach are_gone going = subst (λ (s : State FileBlocks). StandsFor after (all_disallowed gone snaps) (ticked s)) (sym is)
    (whole-unlinked t snaps state above name chain parent there.0 before reach there.1 after freed gone
    (subst (λ (s : State FileBlocks). IsValid (ticked s)) is (valid-change state before.valid files (calls.Delete text recursive))) are_gone going)
  where
    is : change files state (calls.Delete text recursive) ≡ removed state (child above name)
    is = ap (if_asked (removed state) state) asked

    there : (n : Node FileBlocks) × (node_at state.tree (child above name) ≡ Some n)
    there = delete_there state text recursive (child above name) asked
