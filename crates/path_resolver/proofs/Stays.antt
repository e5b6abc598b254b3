-- What rows say of the place of a cursor is what the plain state says.
use Rattle.std.proofs.Common.{◌≡◌, ◌⊎◌, inl, inr, ℕ, Bool, true, false, cond, not, ◌&&◌, List, [], ◌∷◌, map, Option, Some, None, Ok, Err, refl, sym, ap, ◌∙◌, nat_eq}
use Rattle.std.specs.Prelude.{is_some}
use Rattle.std.specs.List.{find}
use Rattle.std.specs.Cmp.{nat_eq_equiv}
use Rattle.std.specs.FinMap.Entries.{is_sorted}
use Rattle.std.proofs.lemmas.Bool.{cases_Bool}
use Rattle.std.proofs.lemmas.Bool.Decides.{Decides-eqb}
use Rattle.hs_types.specs.Names.{Names}
use Rattle.hs_types.specs.declared.ids.InodeId.{InodeId}
use Rattle.hs_types.specs.declared.ids.SnapId.{SnapId}
use Rattle.hs_types.specs.declared.name.SnapItem.{SnapItem}
use Rattle.hs_types.specs.declared.refusal.Refusal.TheVariants.{NotFound, Gone}
use Rattle.hs_types.specs.declared.call.Place.{Place}
use Rattle.hs_types.specs.declared.call.Place.TheVariants as places
use Rattle.hs_plain.specs.declared.state.Node.{Node}
use Rattle.hs_plain.specs.declared.state.Member.{Member}
use Rattle.hs_plain.specs.declared.state.State.{State}
use Rattle.hs_plain.specs.declared.state.FileBlocks.{FileBlocks}
use Rattle.hs_plain.specs.Asked.{Asked, ◌>>=◌, refuse_if}
use Rattle.hs_plain.specs.Reading.{is_live, is_deleted}
use Rattle.hs_plain.specs.State.{member_with}
use Rattle.hs_plain.specs.Tree.{Tree, path_cmp, node_at, place_of, path_at}
use Rattle.hs_plain.proofs.ValidLists.{In, contains-in, all_so}
use Rattle.snapshot_manager.specs.Snapshots.{Snapshots, IsProper, has_id, live_at}
use Rattle.snapshot_manager.proofs.MemberLemmas.{found_by_id}
use Rattle.inode_table.specs.Joined.{told}
use Rattle.inode_table.specs.Reads.{ReadsAs, IsNodes}
use Rattle.inode_table.specs.RowHistory.{shown}
use Rattle.inode_table.specs.Stands.{root_id}
use Rattle.inode_table.specs.Tabled.{Tabled}
use Rattle.inode_table.specs.Whole.{StandsFor}
use Rattle.inode_table.proofs.Giving.{from-valid}
use Rattle.path_resolver.specs.Rising.{way_down, is_below, copy_placed, placed}
use Rattle.path_resolver.specs.Standing.{stands, standing}
use Rattle.path_resolver.proofs.ByRows.{nodes}
use Rattle.path_resolver.proofs.Climbs.{way-path}

-- ---- snapshots by their ids

-- what a look-up by id finds is the member of that id
data Found (members : List (Member FileBlocks)) (id : SnapId) (found : Option (InodeId × SnapItem)) (asked : Asked (Member FileBlocks)) (live : Bool) : Type 0 where
  none : found ≡ None → asked ≡ Err NotFound → live ≡ false → Found members id found asked live
  some : (m : Member FileBlocks) → found ≡ Some (told m) → asked ≡ Ok m → live ≡ true → In members m → m.snapshot ≡ id → Found members id found asked live

find-id : (members : List (Member FileBlocks)) (id : SnapId) → Found members id (find (λ m. has_id id m.1) (map told members)) (member_with members id) (is_live members id)
find-id [] id = none refl refl refl
find-id (m ∷ ms) id = by (find-id ms id) (cases_Bool (nat_eq m.snapshot.0 id.0))
  where
    later : (found : Option (InodeId × SnapItem)) (asked : Asked (Member FileBlocks)) (live : Bool) → Found ms id found asked live → Found (m ∷ ms) id found asked live
    later found asked live (none f a l) = none f a l
    later found asked live (some k f a l within same) = some k f a l (inr within) same

    by : Found ms id (find (λ m. has_id id m.1) (map told ms)) (member_with ms id) (is_live ms id) → (nat_eq m.snapshot.0 id.0 ≡ true) ⊎ (nat_eq m.snapshot.0 id.0 ≡ false)
        → Found (m ∷ ms) id (find (λ m. has_id id m.1) (map told (m ∷ ms))) (member_with (m ∷ ms) id) (is_live (m ∷ ms) id)
    by rest (inl own) =
        let flip : nat_eq id.0 m.snapshot.0 ≡ true = nat_eq_equiv.symm id.0 m.snapshot.0 ∙ own in
        rw (own, flip) (some m refl refl refl (inl refl) (λ i. record { 0 = (Decides-eqb m.snapshot.0 id.0).0 own i }))
    by rest (inr other) =
        let flip : nat_eq id.0 m.snapshot.0 ≡ false = nat_eq_equiv.symm id.0 m.snapshot.0 ∙ other in
        rw (other, flip) (later _ _ _ rest)

-- ---- the whole

by-path : (o : Option (Names × Node FileBlocks)) → refuse_if (not (is_some (path_at o))) NotFound ≡ stands o
by-path None = refl
by-path (Some place) = refl

module _ (table : Tabled) (snaps : Snapshots) (state : State FileBlocks) (all : StandsFor table snaps state) where
  below-stands : (s : ℕ) (top : InodeId) (tree : Tree FileBlocks) → is_sorted path_cmp tree ≡ true → IsNodes (node_at tree) → ReadsAs (shown table.rows s) top (node_at tree)
      → (id : InodeId) → is_below table s top id ≡ stands (place_of tree id)
  below-stands s top tree sorted is reads id = ap (λ o. refuse_if (not (is_some o)) NotFound) (way-path table snaps state all s top tree sorted is reads id) ∙ by-path (place_of tree id)

  pub stands-told : IsProper snaps → (place : Place) → placed table snaps place ≡ standing state place
  stands-told proper (places.Live id) = below-stands 0 root_id state.tree all.valid.sorted (nodes table snaps state all) all.stands.live id
  stands-told proper (places.SnapshotsOf dir) = ap (λ b. refuse_if (not b) NotFound) (sym (all.snapshottable dir))
  stands-told proper (places.Frozen id snapshot) = ap (copy_placed table id snapshot) (found_by_id (map told state.members) snaps all.told snapshot proper) ∙ by (find-id state.members snapshot)
    where
      gone : (zero : Bool) → Err (cond zero NotFound Gone) ≡ (refuse_if (not zero && not false) Gone >>= λ _. (Err NotFound >>= λ (m : Member FileBlocks). stands (place_of m.tree id)))
      gone true = refl
      gone false = refl

      live : (zero : Bool) (asked : Asked (Unit {0})) → asked ≡ (refuse_if (not zero && not true) Gone >>= λ _. asked)
      live true asked = refl
      live false asked = refl

      by : Found state.members snapshot (find (λ m. has_id snapshot m.1) (map told state.members)) (member_with state.members snapshot) (is_live state.members snapshot)
          → copy_placed table id snapshot (find (λ m. has_id snapshot m.1) (map told state.members)) ≡ standing state (places.Frozen id snapshot)
      by (none f a l) = rw (f, a, l) (gone (nat_eq snapshot.0 0))
      by (some m f a l within same) =
          rw (f, a, l)
          (ap (λ (k : SnapId). is_below table k.0 m.directory id) (sym same)
          ∙ below-stands m.snapshot.0 m.directory m.tree (all_so (λ (o : Member FileBlocks). is_sorted path_cmp o.tree) state.members all.valid.copies_sorted m within) ((from-valid state all.valid).copies m (contains-in state.members m within)) (all.stands.frozen m (contains-in state.members m within)) id
          ∙ live (nat_eq snapshot.0 0) (stands (place_of m.tree id)))
