-- Rows at an end of a report.
use Rattle.std.proofs.Common.{◌≡◌, ℕ, true, false, cond, List, [], ◌∷◌, ◌++◌, Option, Some, None, Ok, inl, inr, refl, sym, ap, subst, ◌∙◌}
use Rattle.std.specs.Prelude.{◌==◌}
use Rattle.std.proofs.lemmas.Bool.Decides.{Decides-eqb}
use Rattle.hs_types.specs.Names.{Names}
use Rattle.hs_types.specs.declared.ids.InodeId.{InodeId}
use Rattle.hs_types.specs.declared.ids.SnapId.{SnapId}
use Rattle.hs_plain.specs.declared.state.Node.{Node}
use Rattle.hs_plain.specs.declared.state.Member.{Member}
use Rattle.hs_plain.specs.declared.state.State.{State}
use Rattle.hs_plain.specs.declared.state.FileBlocks.{FileBlocks}
use Rattle.hs_plain.specs.Reading.{copied_tree, tree_below, end_tree, is_foreign}
use Rattle.hs_plain.specs.State.{is_snapshottable, member_with}
use Rattle.hs_plain.specs.Tree.{Tree, node_at, subtree, place_of, same_inode}
use Rattle.hs_plain.specs.Valid.{is_dir_place}
use Rattle.hs_plain.proofs.Facts.{okay, ok_of}
use Rattle.hs_plain.proofs.ReportEnds.{OwnEnd, own_end, copied-with}
use Rattle.hs_plain.proofs.Trees.{place_so}
use Rattle.hs_plain.proofs.ValidHeld.{found_place}
use Rattle.hs_plain.proofs.ValidLists.{In, any_so, all_so, contains-in}
use Rattle.hs_plain.proofs.ValidMembers.{inode_so}
use Rattle.hs_plain.proofs.ValidShapes.{true_false}
use Rattle.hs_plain.proofs.ValidSubtrees.{node_at-subtree}
use Rattle.snapshot_manager.specs.Snapshots.{Snapshots}
use Rattle.inode_table.specs.Reads.{Nodes, ReadsAs, IsNodes}
use Rattle.inode_table.specs.RowHistory.{shown}
use Rattle.inode_table.specs.Stands.{root_id}
use Rattle.inode_table.specs.Tabled.{Tabled}
use Rattle.inode_table.specs.Whole.{StandsFor}
use Rattle.inode_table.proofs.Giving.{from-valid}
use Rattle.inode_table.proofs.Reading.{same_id_so, reads-below}
use Rattle.inode_table.proofs.Walking.{nodes-below}
use Rattle.report_laws.specs.EndRows.{ReadsEnd}

module _ {B : Type 0} where
  -- a snapshot that is found is among them, and has the id
  record IsFound (ms : List (Member B)) (s : SnapId) (m : Member B) : Type 0 where
    among : In ms m
    same : m.snapshot.0 ≡ s.0

  found_so : (ms : List (Member B)) (s : SnapId) (m : Member B) → member_with ms s ≡ Ok m → IsFound ms s m
  found_so [] s m is = absurd (cc)
  found_so (n ∷ ms) s m is = elim (n.snapshot.0 == s.0) as (λ b. (n.snapshot.0 == s.0) ≡ b → cond b (okay n) (member_with ms s) ≡ okay m → IsFound (n ∷ ms) s m) [
    | true ↦ λ t h. let same : n ≡ m = ok_of n m h in record { among = inl same; same = ap (λ (x : Member B). x.snapshot.0) (sym same) ∙ (Decides-eqb n.snapshot.0 s.0).0 t }
    | false ↦ λ _ h. let rest = found_so ms s m h in record { among = inr rest.among; same = rest.same }
  ] refl is

module _ (table : Tabled) (snaps : Snapshots) (state : State FileBlocks) (all : StandsFor table snaps state) (root : InodeId) where
  -- rows at a number are read as a tree of this root
  record Reads (s : ℕ) (tree : Tree FileBlocks) : Type 0 where
    reads : ReadsAs (shown table.rows s) root (node_at tree)
    nodes : IsNodes (node_at tree)

  live_reads : (place : Names × Node FileBlocks) → place_of state.tree root ≡ Some place → Reads 0 (subtree state.tree place.0)
  live_reads place is =
      let so = place_so state.tree root place is in
      let at : node_at state.tree place.0 ≡ Some place.1 = found_place state.tree all.valid.sorted place so.0 in
      let part : (λ (rest : Names). node_at state.tree (place.0 ++ rest)) ≡ node_at (subtree state.tree place.0) = λ i rest. sym (node_at-subtree state.tree place.0 rest) i in
      record {
        reads = subst (λ (id : InodeId). ReadsAs (shown table.rows 0) id (node_at (subtree state.tree place.0))) (same_id_so place.1.id root so.1)
            (subst (λ (f : Nodes FileBlocks). ReadsAs (shown table.rows 0) place.1.id f) part (reads-below (shown table.rows 0) root_id (node_at state.tree) place.0 place.1 at all.stands.live));
        nodes = subst (λ (f : Nodes FileBlocks). IsNodes f) part (nodes-below (node_at state.tree) place.0 (from-valid state all.valid).live);
      }

  live_end : (o : Option (Names × Node FileBlocks)) → place_of state.tree root ≡ o → is_dir_place o ≡ true → Reads 0 (tree_below state.tree o)
  live_end None is dir = absurd (true_false dir refl)
  live_end (Some place) is dir = live_reads place is

  root_place : is_snapshottable state root ≡ true → is_dir_place (place_of state.tree root) ≡ true
  root_place is =
      let one : (id : InodeId) × (In state.snapshottable id) × (same_inode root id ≡ true) = any_so (same_inode root) state.snapshottable is in
      ap (λ (id : InodeId). is_dir_place (place_of state.tree id)) (inode_so root one.0 one.2) ∙ all_so (λ id. is_dir_place (place_of state.tree id)) state.snapshottable all.valid.snapshottable_dirs one.0 one.1

  copied_end : (end : SnapId) → OwnEnd state root end → Reads end.0 (copied_tree state.members end)
  copied_end end own =
      let so = found_so state.members end own.member own.found in
      let live = contains-in state.members own.member so.among in
      subst (λ (tree : Tree FileBlocks). Reads end.0 tree) (sym (copied-with state.members end own.member own.found)) (record {
        reads = subst (λ (s : ℕ). ReadsAs (shown table.rows s) root (node_at own.member.tree)) so.same
            (subst (λ (id : InodeId). ReadsAs (shown table.rows own.member.snapshot.0) id (node_at own.member.tree)) (inode_so own.member.directory root own.own) (all.stands.frozen own.member live));
        nodes = (from-valid state all.valid).copies own.member live;
      })

  end_reads : (end : SnapId) → is_snapshottable state root ≡ true → is_foreign state root end ≡ false → Reads end.0 (end_tree state root end)
  end_reads end is ours = elim (end.0 == 0) as (λ b. (end.0 == 0) ≡ b → Reads end.0 (cond b (tree_below state.tree (place_of state.tree root)) (copied_tree state.members end))) [
    | true ↦ λ t. subst (λ (s : ℕ). Reads s (tree_below state.tree (place_of state.tree root))) (sym ((Decides-eqb end.0 0).0 t)) (live_end (place_of state.tree root) refl (root_place is))
    | false ↦ λ f. copied_end end (own_end state root end all.valid f ours)
  ] refl

pub end-reads : (table : Tabled) (snaps : Snapshots) (state : State FileBlocks) (root : InodeId) (end : SnapId) → StandsFor table snaps state → is_snapshottable state root ≡ true → is_foreign state root end ≡ false → ReadsEnd table state root end
end-reads table snaps state root end all is ours = let r = end_reads table snaps state all root end is ours in record { reads = r.reads; nodes = r.nodes }
