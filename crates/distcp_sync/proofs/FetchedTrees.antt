-- What was told of copied trees is of those that a link had seen before: later none is changed, though it may be gone.
use Rattle.std.proofs.Common.{◌≡◌, ℕ, ◌≤◌, ◌==◌, Bool, true, false, cond, Option, Some, None, Ok, Err, List, [], ◌∷◌, ◌++◌, length, take, refl, ap, sym, ◌∙◌}
use Rattle.std.specs.FinMap.Entries.{is_sorted}
use mathlib.Core.List.{IsPrefix}
use Rattle.hs_types.specs.Names.{Names}
use Rattle.hs_types.specs.declared.ids.InodeId.{InodeId}
use Rattle.hs_types.specs.declared.ids.SnapId.{SnapId}
use Rattle.hs_types.specs.declared.journal.Entry.{Entry}
use Rattle.hs_types.specs.declared.refusal.Refusal.TheVariants.{NotDir}
use Rattle.hs_types.specs.declared.reply.Item.{Item}
use Rattle.hs_types.specs.declared.reply.Line.{Line}
use Rattle.hs_plain.specs.declared.state.Member.{Member}
use Rattle.hs_plain.specs.declared.state.Node.{Node}
use Rattle.hs_plain.specs.declared.state.State.{State}
use Rattle.hs_plain.specs.Asked.{Asked}
use Rattle.hs_plain.specs.Files.{plain_files}
use Rattle.hs_plain.specs.Tree.{Tree, path_cmp, node_at, is_dir, same_inode, place_of, listing}
use Rattle.hs_plain.specs.State.{member_with, items_of}
use Rattle.hs_plain.specs.Reading.{is_deleted, copied_tree, tree_below, end_tree}
use Rattle.hs_plain.specs.Report.{report}
use Rattle.hs_plain.specs.Replay.{plain_after}
use Rattle.hs_plain.specs.Valid.{is_dir_with, has_parents, has_each_once, IsValid}
use Rattle.hs_plain.proofs.Facts.{okay, ok_of}
use Rattle.hs_plain.proofs.Frozen.{ids-issued}
use Rattle.hs_plain.proofs.Paged.{IsGiven, given, with_all, not_zero, was_there}
use Rattle.hs_plain.proofs.ReportEnds.{StillOwn, still_own, copied-with}
use Rattle.hs_plain.proofs.ValidMembers.{inode_so, inode_test}
use Rattle.hs_plain.proofs.ValidShapes.{true_false}
use Rattle.hs_plain.proofs.ValidTrees.{first}
use Rattle.hs_plain.proofs.Validity.{valid-replay}
use Rattle.plan_laws.specs.Pair.{IsTree}
use Rattle.plan_laws.proofs.Places.{place_of-here}
use Rattle.distcp_sync.specs.declared.start.SyncStart.{SyncStart}
use Rattle.distcp_sync.specs.inside.Queue.{Lists}
use Rattle.distcp_sync.specs.inside.Fetching.{WasShown, WasReported, begin_report}

-- a snapshot's tree has its directory as its root
pub record IsRooted (member : Member (List ℕ)) : Type 0 where
  pub tree : IsTree member.tree
  pub root : Node (List ℕ)
  pub at : node_at member.tree [] ≡ Some root
  pub same : root.id ≡ member.directory

pub rooted : (seen : List Entry) (snapshot : SnapId) (member : Member (List ℕ)) → member_with (plain_after seen).members snapshot ≡ Ok member → IsRooted member
rooted seen snapshot member is = by (node_at member.tree []) refl (with_all (λ (m : Member (List ℕ)). is_dir_with m.directory (node_at m.tree [])) (plain_after seen).members snapshot member valid.member_roots is)
  where
    valid : IsValid (plain_after seen)
    valid = valid-replay plain_files seen

    tree : IsTree member.tree
    tree = record {
      sorted = with_all (λ (m : Member (List ℕ)). is_sorted path_cmp m.tree) (plain_after seen).members snapshot member valid.copies_sorted is;
      parents = with_all (λ (m : Member (List ℕ)). has_parents m.tree) (plain_after seen).members snapshot member valid.copies_parents is;
      each_once = with_all (λ (m : Member (List ℕ)). has_each_once m.tree) (plain_after seen).members snapshot member valid.copies_each_once is;
    }

    by : (o : Option (Node (List ℕ))) → node_at member.tree [] ≡ o → is_dir_with member.directory o ≡ true → IsRooted member
    by None at with = absurd (true_false with refl)
    by (Some root) at with = record { tree = tree; root = root; at = at; same = inode_so root.id member.directory (first (same_inode root.id member.directory) (is_dir root) with) }

take_front : (xs ys : List Entry) → take (length xs) (xs ++ ys) ≡ xs
take_front [] ys = refl
take_front (x ∷ xs) ys = ap (λ (l : List Entry). x ∷ l) (take_front xs ys)

module _ (seen later : List Entry) (grown : IsPrefix seen later) where
  -- what was seen first is the front
  seen_first : take (length seen) later ≡ seen
  seen_first = ap (take (length seen)) (sym grown.1) ∙ take_front seen grown.0

  found_first : (snapshot : SnapId) (member : Member (List ℕ)) → member_with (plain_after seen).members snapshot ≡ Ok member → member_with (plain_after (take (length seen) later)).members snapshot ≡ Ok member
  found_first snapshot member is = ap (λ (entries : List Entry). member_with (plain_after entries).members snapshot) seen_first ∙ is

  -- a snapshot that is there later has the tree that it had
  same_tree : (at : ℕ) → length seen ≤ at → (snapshot : SnapId) (member there : Member (List ℕ)) → member_with (plain_after seen).members snapshot ≡ Ok member → member_with (plain_after (take at later)).members snapshot ≡ Ok there → there.tree ≡ member.tree
  same_tree at behind snapshot member there was is = ap (λ (m : Member (List ℕ)). m.tree) (sym (was_there later (length seen) at snapshot member there behind (found_first snapshot member was) is))

  module _ (snapshot : SnapId) (member : Member (List ℕ)) (was : member_with (plain_after seen).members snapshot ≡ Ok member) where
    items_so : (id : InodeId) (items : List Item) (path : Names) (node : Node (List ℕ)) (dir : Bool) → cond {A = Asked (List Item)} dir (Ok (listing member.tree path)) (Err NotDir) ≡ okay items → items ≡ listing member.tree path
    items_so id items path node true e = sym (ok_of (listing member.tree path) items e)
    items_so id items path node false e = absurd (cc)

    -- the items that were shown of an inode are those that its directory has
    pub shown_lists : (id : InodeId) (items : List Item) → WasShown (length seen) later snapshot id items → Lists member.tree id items
    shown_lists id items shown path node at same =
        let there : IsGiven (member_with (plain_after (take shown.at later)).members snapshot) (λ m. items_of m.tree (place_of m.tree id)) items =
        given (member_with (plain_after (take shown.at later)).members snapshot) (λ m. items_of m.tree (place_of m.tree id)) items shown.listed in
        let tree : there.x.tree ≡ member.tree = same_tree shown.at shown.behind snapshot member there.x was there.gave in
        items_so id items path node (is_dir node)
        (sym (ap (items_of member.tree) (place_of-here member.tree (rooted seen snapshot member was).tree path node id at (ap (λ (i : InodeId). i.0) (sym same))))
        ∙ ap (λ (t : Tree (List ℕ)). items_of t (place_of t id)) (sym tree) ∙ there.then)

  -- an end of a report that wasn't deleted has its tree
  end_so : (root : InodeId) (end : SnapId) (member : Member (List ℕ)) (at : ℕ) → length seen ≤ at → member_with (plain_after seen).members end ≡ Ok member → member.directory ≡ root → is_deleted (plain_after (take at later)) end ≡ false →
      end_tree (plain_after (take at later)) root end ≡ member.tree
  end_so root end member at behind was own isnt =
      let state : State (List ℕ) = plain_after (take at later) in
      let nonzero : (end.0 == 0) ≡ false = not_zero end.0 (plain_after seen).next_snapshot (ids-issued plain_files seen end member was) in
      let still : StillOwn (plain_after (take (length seen) later)) state root end =
      still_own later (length seen) at root end behind nonzero (record { member = member; found = found_first end member was; own = inode_test member.directory root (ap (λ (i : InodeId). i.0) own) }) isnt in
      ap (λ b. cond b (tree_below state.tree (place_of state.tree root)) (copied_tree state.members end)) nonzero
      ∙ still.same ∙ copied-with (plain_after (take (length seen) later)).members end member (found_first end member was)

  -- the lines that were told are the report of both trees
  pub told_report : (start : SyncStart) (from to : Member (List ℕ)) (lines : List Line) → member_with (plain_after seen).members start.from ≡ Ok from → member_with (plain_after seen).members start.to ≡ Ok to →
      from.directory ≡ start.source → to.directory ≡ start.source → WasReported (length seen) later (begin_report start) lines → lines ≡ report from.tree to.tree
  told_report start from to lines from_is to_is from_own to_own was =
      was.lines_are
      ∙ (ap (λ (t : Tree (List ℕ)). report t (end_tree (plain_after (take was.at later)) start.source start.to)) (end_so start.source start.from from was.at was.behind from_is from_own was.from_there)
      ∙ ap (λ (t : Tree (List ℕ)). report from.tree t) (end_so start.source start.to to was.at was.behind to_is to_own was.to_there))
