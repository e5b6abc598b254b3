-- The lines of each report of the plain machine stand in order, since its ends are trees of one root.
use Rattle.std.proofs.Common.{◌≡◌, Bool, true, false, cond, ◌==◌, Option, Some, None, [], refl, ap, sym, ◌∙◌, subst, append-nil}
use Rattle.std.specs.Option.{option_map}
use Rattle.std.specs.FinMap.Entries.{is_sorted}
use Rattle.hs_types.specs.Names.{Names}
use Rattle.hs_types.specs.declared.ids.InodeId.{InodeId}
use Rattle.hs_types.specs.declared.ids.SnapId.{SnapId}
use Rattle.hs_plain.specs.declared.state.Node.{Node}
use Rattle.hs_plain.specs.declared.state.Member.{Member}
use Rattle.hs_plain.specs.declared.state.State.{State}
use Rattle.hs_plain.specs.Files.{plain_files}
use Rattle.hs_plain.specs.Tree.{Tree, path_cmp, node_at, is_dir, same_inode, place_of, subtree}
use Rattle.hs_plain.specs.State.{is_snapshottable}
use Rattle.hs_plain.specs.Reading.{copied_tree, tree_below, end_tree, lines_between, is_foreign}
use Rattle.hs_plain.specs.Report.{node_id, id_above, same_id}
use Rattle.hs_plain.specs.Replay.{plain_after}
use Rattle.hs_plain.specs.Valid.{is_dir_with, has_each_once, is_dir_place, IsValid}
use Rattle.hs_plain.specs.Ordered.{AreOrdered, ReportsAreOrdered}
use Rattle.hs_plain.proofs.ValidTrees.{first}
use Rattle.hs_plain.proofs.ValidLists.{In, any_so, all_so}
use Rattle.hs_plain.proofs.ValidMembers.{inode_so, inode_test}
use Rattle.hs_plain.proofs.ValidSubtrees.{node_at-subtree, sorted-subtree}
use Rattle.hs_plain.proofs.ValidHeld.{found_place}
use Rattle.hs_plain.proofs.Trees.{place_so}
use Rattle.hs_plain.proofs.Validity.{valid-replay}
use Rattle.hs_plain.proofs.SameTree.{once-subtree}
use Rattle.hs_plain.proofs.Paged.{with_all}
use Rattle.hs_plain.proofs.ReportEnds.{OwnEnd, own_end, copied-with}
use Rattle.hs_plain.proofs.Ordered.{report-ordered}

-- the tree at an end of a report, of this root
record IsEndTree {B : Type 0} (tree : Tree B) (root : InodeId) : Type 0 where
  sorted : is_sorted path_cmp tree ≡ true
  each_once : has_each_once tree ≡ true
  root_is : same_id (id_above tree []) (Some root) ≡ true

module _ {B : Type 0} (state : State B) (valid : IsValid state) (root : InodeId) where
  below_so : (place : Names × Node B) → place_of state.tree root ≡ Some place → IsEndTree (subtree state.tree place.0) root
  below_so place is =
      let so : (In state.tree place) × (place.1.id.0 ≡ root.0) = place_so state.tree root place is in
      record {
        sorted = sorted-subtree state.tree place.0 valid.sorted;
        each_once = once-subtree state.tree place.0 valid.sorted valid.each_once;
        root_is =
            ap (λ (node : Option (Node B)). same_id (option_map node_id node) (Some root)) (node_at-subtree state.tree place.0 [] ∙ ap (node_at state.tree) (append-nil place.0) ∙ found_place state.tree valid.sorted place so.0)
            ∙ inode_test place.1.id root so.1;
      }

  live_end : (o : Option (Names × Node B)) → place_of state.tree root ≡ o → is_dir_place o ≡ true → IsEndTree (tree_below state.tree o) root
  live_end None is dir = absurd (cc)
  live_end (Some place) is dir = below_so place is

  root_of : (node : Option (Node B)) (directory : InodeId) → is_dir_with directory node ≡ true → same_id (option_map node_id node) (Some directory) ≡ true
  root_of None directory is = absurd (cc)
  root_of (Some node) directory is = first (same_inode node.id directory) (is_dir node) is

  copied_end : (end : SnapId) → OwnEnd state root end → IsEndTree (copied_tree state.members end) root
  copied_end end own =
      subst (λ (tree : Tree B). IsEndTree tree root) (sym (copied-with state.members end own.member own.found)) (record {
        sorted = with_all (λ (member : Member B). is_sorted path_cmp member.tree) state.members end own.member valid.copies_sorted own.found;
        each_once = with_all (λ (member : Member B). has_each_once member.tree) state.members end own.member valid.copies_each_once own.found;
        root_is =
            ap (λ (id : InodeId). same_id (id_above own.member.tree []) (Some id)) (sym (inode_so own.member.directory root own.own))
            ∙ root_of (node_at own.member.tree []) own.member.directory (with_all (λ (member : Member B). is_dir_with member.directory (node_at member.tree [])) state.members end own.member valid.member_roots own.found);
      })

  -- a snapshottable directory stands in the live tree
  root_place : is_snapshottable state root ≡ true → is_dir_place (place_of state.tree root) ≡ true
  root_place is =
      let one : (id : InodeId) × (In state.snapshottable id) × (same_inode root id ≡ true) = any_so (same_inode root) state.snapshottable is in
      ap (λ (id : InodeId). is_dir_place (place_of state.tree id)) (inode_so root one.0 one.2) ∙ all_so (λ id. is_dir_place (place_of state.tree id)) state.snapshottable valid.snapshottable_dirs one.0 one.1

  end_is : (end : SnapId) → is_snapshottable state root ≡ true → is_foreign state root end ≡ false → IsEndTree (end_tree state root end) root
  end_is end is ours = by (end.0 == 0) refl
    where
      by : (b : Bool) → (end.0 == 0) ≡ b → IsEndTree (cond (end.0 == 0) (tree_below state.tree (place_of state.tree root)) (copied_tree state.members end)) root
      by true e = subst (λ b. IsEndTree (cond b (tree_below state.tree (place_of state.tree root)) (copied_tree state.members end)) root) (sym e) (live_end (place_of state.tree root) refl (root_place is))
      by false e = subst (λ b. IsEndTree (cond b (tree_below state.tree (place_of state.tree root)) (copied_tree state.members end)) root) (sym e) (copied_end end (own_end state root end valid e ours))

  one_root : (a b : Option InodeId) → same_id a (Some root) ≡ true → same_id b (Some root) ≡ true → same_id a b ≡ true
  one_root None b is other = absurd (cc)
  one_root (Some a) None is other = absurd (cc)
  one_root (Some a) (Some b) is other = inode_test a b (ap (λ (id : InodeId). id.0) (inode_so a root is ∙ sym (inode_so b root other)))

  pub lines-ordered : (from to : SnapId) → is_snapshottable state root ≡ true → is_foreign state root from ≡ false → is_foreign state root to ≡ false → AreOrdered (lines_between state root from to)
  lines-ordered from to is from_own to_own =
      let one : IsEndTree (end_tree state root from) root = end_is from is from_own in
      let two : IsEndTree (end_tree state root to) root = end_is to is to_own in
      report-ordered (end_tree state root from) (end_tree state root to) (record {
        from_sorted = one.sorted;
        to_sorted = two.sorted;
        to_each_once = two.each_once;
        one_root = one_root (id_above (end_tree state root from) []) (id_above (end_tree state root to) []) one.root_is two.root_is;
      })

pub reports_are_ordered : ReportsAreOrdered
reports_are_ordered journal root from to is from_own to_own = lines-ordered (plain_after journal) (valid-replay plain_files journal) root from to is from_own to_own
