-- The snapshot that is deleted, among those of a plain state.
use Rattle.std.proofs.Common.{◌≡◌, Bool, true, false, cond, nat_eq, List, [], ◌∷◌, map, Some, refl, sym, ap, subst, ◌∙◌}
use Rattle.std.specs.Prelude.{not}
use Rattle.std.specs.List.{Contains, find}
use Rattle.std.proofs.lemmas.Bool.Decides.{Decides-eqb}
use Rattle.std.proofs.lemmas.Slice.Eq.{bytes_eq-Decides}
use Rattle.hs_types.specs.declared.ids.InodeId.{InodeId}
use Rattle.hs_types.specs.declared.ids.SnapId.{SnapId}
use Rattle.hs_types.specs.declared.name.SnapItem.{SnapItem}
use Rattle.hs_plain.specs.declared.state.State.{State}
use Rattle.hs_plain.specs.declared.state.Member.{Member}
use Rattle.hs_plain.specs.declared.state.FileBlocks.{FileBlocks}
use Rattle.hs_plain.specs.Change.{is_snapshot, unsnapped}
use Rattle.hs_plain.specs.Valid.{IsValid}
use Rattle.hs_plain.proofs.ValidTrees.{first, second, both}
use Rattle.hs_plain.proofs.ValidLists.{In, by_test, in-contains}
use Rattle.hs_plain.proofs.ValidMembers.{inode_so, inode_test, one_by, names_so, snapshot_of}
use Rattle.hs_plain.proofs.ValidShapes.{none_some, same_some, true_false}
use Rattle.snapshot_manager.specs.Snapshots.{Snapshots, IsProper, has_id, live_at, changed, without}
use Rattle.snapshot_manager.specs.Members as members
use Rattle.snapshot_manager.specs.Members.{AreMembers}
use Rattle.snapshot_manager.proofs.MemberLemmas.{removed_out, found_by_id}
use Rattle.inode_table.specs.Joined.{told, AreTold}
use Rattle.table_laws.proofs.RecordElements.{at_head, at_later}
use Rattle.table_laws.proofs.WholeDropped.{filter_told}

-- ---- it is a member

-- the member that stands for this one, with this id
pub record IsFound (ms : List (Member FileBlocks)) (id : SnapId) (p : InodeId × SnapItem) : Type 0 where
  pub member : Member FileBlocks
  pub was : Contains ms member
  pub is : told member ≡ p
  pub number : member.snapshot ≡ id

found_in : (ms : List (Member FileBlocks)) (id : SnapId) (p : InodeId × SnapItem) → find (λ (m : members.Member). has_id id m.1) (map told ms) ≡ Some p → IsFound ms id p
found_in [] id p h = absurd (none_some h)
found_in (m ∷ ms) id p h = by (found_in ms id p) (has_id id (told m).1) refl h
  where
    by : (find (λ (m : members.Member). has_id id m.1) (map told ms) ≡ Some p → IsFound ms id p) → (b : Bool) → has_id id (told m).1 ≡ b → cond b (Some (told m)) (find (λ (m : members.Member). has_id id m.1) (map told ms)) ≡ Some p → IsFound (m ∷ ms) id p
    by more true e here = record { member = m; was = at_head m ms; is = same_some here; number = ap (λ n. record { 0 = n }) (sym ((Decides-eqb id.0 m.snapshot.0).0 e)) }
    by more false e there = let f = more there in record { member = f.member; was = at_later m ms f.member f.was; is = f.is; number = f.number }

pub found-member : (ms : List (Member FileBlocks)) (snaps : Snapshots) (id : SnapId) (p : InodeId × SnapItem) → IsProper snaps → AreTold ms snaps → live_at snaps id ≡ Some p → IsFound ms id p
found-member ms snaps id p proper are found = found_in ms id p (sym (found_by_id (map told ms) snaps are id proper) ∙ found)

-- ---- the others are told as before

module _ (state : State FileBlocks) (valid : IsValid state) (gone : Member FileBlocks) (was : Contains state.members gone) where
  at_gone : In state.members gone
  at_gone = in-contains state.members gone was

  this : (m : Member FileBlocks) → In state.members m → m.snapshot.0 ≡ gone.snapshot.0 → members.is_member gone.directory gone.name (told m) ≡ true
  this m at same = let e : m ≡ gone = one_by snapshot_of state.members 0 valid.snapshots_rise m gone at at_gone same in
      both (inode_test gone.directory m.directory (ap (λ (k : Member FileBlocks). k.directory.0) (sym e))) ((bytes_eq-Decides gone.name m.name).1 (ap (λ (k : Member FileBlocks). k.name) (sym e)))

  that : (m : Member FileBlocks) → In state.members m → members.is_member gone.directory gone.name (told m) ≡ true → m.snapshot.0 ≡ gone.snapshot.0
  that m at h = names_so state.members valid.different_names m gone at at_gone (sym (inode_so gone.directory m.directory (first (nat_eq gone.directory.0 m.directory.0) _ h)))
      (sym ((bytes_eq-Decides gone.name m.name).0 (second (nat_eq gone.directory.0 m.directory.0) _ h)))

  same_test : (m : Member FileBlocks) → In state.members m → is_snapshot gone.snapshot m ≡ members.is_member gone.directory gone.name (told m)
  same_test m at = by_test (is_snapshot gone.snapshot m)
      (λ t. t ∙ sym (this m at ((Decides-eqb m.snapshot.0 gone.snapshot.0).0 t)))
      (λ f. f ∙ sym (by_test (members.is_member gone.directory gone.name (told m)) (λ t. absurd (true_false ((Decides-eqb m.snapshot.0 gone.snapshot.0).1 (that m at t)) f)) (λ g. g)))

  pub told-without : (snaps : Snapshots) → AreTold state.members snaps → AreTold (unsnapped state gone.snapshot).members (changed gone.directory (without gone.name) snaps)
  told-without snaps are = subst (λ ms. AreMembers ms (changed gone.directory (without gone.name) snaps))
      (sym (filter_told (λ m. not (is_snapshot gone.snapshot m)) (λ m. not (members.is_member gone.directory gone.name m)) state.members (λ m c. ap not (same_test m c))))
      (removed_out (map told state.members) snaps gone.directory gone.name are)
