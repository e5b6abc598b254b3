-- A snapshot of the premises throughout its span: it is there, in its directory at its path, and what its tree has is shown.
use Rattle.std.proofs.Common.{◌≡◌, ℕ, true, Option, Some, None, Ok, List, [], refl, ap, sym, ◌∙◌}
use Rattle.std.specs.Prelude.{bytes_eq}
use Rattle.std.specs.FinMap.Entries.{is_sorted}
use Rattle.std.proofs.lemmas.Bool.Decides.{Decides-eqb}
use Rattle.hs_types.specs.declared.ids.InodeId.{InodeId}
use Rattle.hs_plain.specs.declared.state.Node.{Node}
use Rattle.hs_plain.specs.declared.state.Member.{Member}
use Rattle.hs_plain.specs.declared.state.State.{State}
use Rattle.hs_plain.specs.Tree.{path_cmp, node_at, is_dir, same_inode, place_of}
use Rattle.hs_plain.specs.State.{is_named, member_named, member_with}
use Rattle.hs_plain.specs.Reading.{snapshottable_at}
use Rattle.hs_plain.specs.Span.{Stays}
use Rattle.hs_plain.specs.Valid.{is_dir_with, has_parents, has_each_once, IsValid}
use Rattle.hs_plain.specs.Premises.{SyncSide, member_at, state_before}
use Rattle.hs_plain.proofs.ValidTrees.{first, second}
use Rattle.hs_plain.proofs.ValidShapes.{true_false}
use Rattle.hs_plain.proofs.ValidLists.{In, all_so}
use Rattle.hs_plain.proofs.ValidMembers.{inode_so}
use Rattle.hs_plain.proofs.ValidAsked.{ok_then}
use Rattle.plan_laws.specs.Pair.{IsTree}
use Rattle.plan_laws.proofs.Places.{place_of-here}
use Rattle.sync_laws.specs.Lasting.{state_at, IsWithin}
use Rattle.sync_laws.specs.Shown.{IsSnapshotOf}
use Rattle.sync_laws.proofs.Snapshots.{valid-at, with-from, named-so, snapshots-last}
use Rattle.sync_laws.proofs.RootsStay.{roots-last}

-- the root of a copied tree
pub record IsTop (member : Member (List ℕ)) : Type 0 where
  pub tree : IsTree member.tree
  pub root : Node (List ℕ)
  pub place : place_of member.tree member.directory ≡ Some ([], root)
  pub directory : is_dir root ≡ true

-- a snapshot that was found when the span began, and stays
pub record IsPremised (side : SyncSide) (text : List ℕ) (member : Member (List ℕ)) : Type 0 where
  -- its directory is at the path
  pub leads : snapshottable_at (state_before side) text ≡ Ok member.directory
  pub begins : member_with (state_before side).members member.snapshot ≡ Ok member
  pub stays : Stays side.journal side.span member.snapshot
  pub top : IsTop member

root_of : (id : InodeId) (o : Option (Node (List ℕ))) → is_dir_with id o ≡ true → (root : Node (List ℕ)) × (o ≡ Some root) × (root.id.0 ≡ id.0) × (is_dir root ≡ true)
root_of id None h = absurd (true_false h refl)
root_of id (Some root) h = (root, refl, (Decides-eqb root.id.0 id.0).0 (first (same_inode root.id id) (is_dir root) h), second (same_inode root.id id) (is_dir root) h)

-- the tree of a snapshot has its directory as its root
top-of : (state : State (List ℕ)) → IsValid state → (member : Member (List ℕ)) → In state.members member → IsTop member
top-of state valid member at =
    let root : (root : Node (List ℕ)) × (node_at member.tree [] ≡ Some root) × (root.id.0 ≡ member.directory.0) × (is_dir root ≡ true) =
    root_of member.directory (node_at member.tree []) (all_so (λ (one : Member (List ℕ)). is_dir_with one.directory (node_at one.tree [])) state.members valid.member_roots member at) in
    let tree : IsTree member.tree = record {
      sorted = all_so (λ (one : Member (List ℕ)). is_sorted path_cmp one.tree) state.members valid.copies_sorted member at;
      parents = all_so (λ (one : Member (List ℕ)). has_parents one.tree) state.members valid.copies_parents member at;
      each_once = all_so (λ (one : Member (List ℕ)). has_each_once one.tree) state.members valid.copies_each_once member at;
    } in
    record { tree = tree; root = root.0; place = place_of-here member.tree tree [] root.0 member.directory root.1 (sym root.2); directory = root.3 }

pub premised : (side : SyncSide) (text name : List ℕ) (member : Member (List ℕ)) → member_at (state_before side) text name ≡ Ok member → Stays side.journal side.span member.snapshot → IsPremised side text member
premised side text name member was stays =
    let valid : IsValid (state_before side) = valid-at side.journal side.span.low in
    let at : (dir : InodeId) × (snapshottable_at (state_before side) text ≡ Ok dir) × (member_named (state_before side).members dir name ≡ Ok member) =
    ok_then (snapshottable_at (state_before side) text) (λ dir. member_named (state_before side).members dir name) member was in
    let so : In (state_before side).members member × (is_named at.0 name member ≡ true) = named-so (state_before side).members at.0 name member at.2 in
    let own : member.directory ≡ at.0 = inode_so member.directory at.0 (first (same_inode member.directory at.0) (bytes_eq member.name name) so.1) in
    record {
      leads = at.1 ∙ ap (λ (dir : InodeId). Ok dir) (sym own);
      begins = with-from (state_before side).members member valid.snapshots_rise so.0;
      stays = stays;
      top = top-of (state_before side) valid member so.0;
    }

module _ (side : SyncSide) (text : List ℕ) (member : Member (List ℕ)) (is : IsPremised side text member) (index : ℕ) (within : IsWithin side.span index) where
  -- it is there throughout
  pub lives : member_with (state_at side.journal index).members member.snapshot ≡ Ok member
  lives = snapshots-last side.journal side.span index member.snapshot member within is.stays is.begins

  -- and its directory is at the path
  pub leads-still : snapshottable_at (state_at side.journal index) text ≡ Ok member.directory
  leads-still = roots-last side.journal side.span index text member.directory member.snapshot member within is.stays is.begins refl is.leads

  pub snapshot-of : IsSnapshotOf (state_at side.journal index) member.directory member.snapshot
  snapshot-of = record { member = member; live = lives; own = refl }
