-- The file of a cursor by the rows is the plain machine's.
use Rattle.std.proofs.Common.{◌≡◌, inl, inr, ℕ, Bool, true, false, not, cond, ◌==◌, List, [], ◌∷◌, Option, Some, None, Ok, Err, refl, sym, ap, ◌∙◌}
use Rattle.std.proofs.lemmas.Bool.Decides.{Decides-eqb}
use Rattle.std.specs.FinMap.Entries.{is_sorted}
use Rattle.std.specs.List.{Contains}
use Rattle.hs_types.specs.Names.{Names}
use Rattle.hs_types.specs.declared.ids.InodeId.{InodeId}
use Rattle.hs_types.specs.declared.ids.SnapId.{SnapId}
use Rattle.hs_types.specs.declared.call.Place.{Place}
use Rattle.hs_types.specs.declared.call.Place.TheVariants as places
use Rattle.hs_types.specs.declared.refusal.Refusal.{Refusal}
use Rattle.hs_types.specs.declared.refusal.Refusal.TheVariants.{Gone, NotFound, NotFile}
use Rattle.hs_plain.specs.declared.state.Node.{Node}
use Rattle.hs_plain.specs.declared.state.Member.{Member}
use Rattle.hs_plain.specs.declared.state.State.{State}
use Rattle.hs_plain.specs.declared.state.FileBlocks.{FileBlocks}
use Rattle.hs_plain.specs.Asked.{Asked, ◌>>=◌, refuse_if}
use Rattle.hs_plain.specs.Tree.{Tree, path_cmp, node_at, place_of}
use Rattle.hs_plain.specs.State.{is_snapshottable, member_with}
use Rattle.hs_plain.specs.Reading.{is_gone, file_there, file_at, next_file}
use Rattle.hs_plain.specs.Valid.{has_each_once}
use Rattle.hs_plain.proofs.Trees.{place_node}
use Rattle.hs_plain.proofs.ValidLists.{In, contains-in, all_so}
use Rattle.snapshot_manager.specs.Snapshots.{Snapshots}
use Rattle.inode_table.specs.Reads.{ReadsAs, IsNodes}
use Rattle.inode_table.specs.RowHistory.{Table, rows_at, shown}
use Rattle.inode_table.specs.Stands.{root_id}
use Rattle.inode_table.specs.Tabled.{Tabled}
use Rattle.inode_table.specs.Whole.{StandsFor}
use Rattle.inode_table.proofs.Giving.{from-valid}
use Rattle.path_resolver.specs.Standing.{stands, there, standing}
use Rattle.namenode_write.specs.RowFiles.{file_in, file_placed, placed_file}
use Rattle.namenode_write.proofs.RowFiles.{there-read}

-- ---- tests

same_why : {X : Type 0} {a b : Refusal} → ◌≡◌ {A = Asked X} (Err a) (Err b) → a ≡ b
same_why e = cc

err_ok : {X : Type 0} {why : Refusal} {x : X} → ◌≡◌ {A = Asked X} (Err why) (Ok x) → ⊥
err_ok e = cc

ok_same : {X : Type 0} {x y : X} → ◌≡◌ {A = Asked X} (Ok x) (Ok y) → x ≡ y
ok_same e = cc

-- a refusal of another test
as_why : {X Y : Type 0} {a b : Refusal} → ◌≡◌ {A = Asked X} (Err a) (Err b) → ◌≡◌ {A = Asked Y} (Err a) (Err b)
as_why e = ap (λ (w : Refusal). Err w) (same_why e)

-- ---- one tree

stands_lacks : (o : Option (Names × Node FileBlocks)) (why : Refusal) → stands o ≡ Err why → file_there o ≡ Err why
stands_lacks None why e = as_why e
stands_lacks (Some place) why e = absurd (err_ok (sym e))

module _ (table : Table) (s : ℕ) (top : InodeId) (tree : Tree FileBlocks) (sorted : is_sorted path_cmp tree ≡ true) (each : has_each_once tree ≡ true) (is : IsNodes (node_at tree)) (reads : ReadsAs (shown table s) top (node_at tree)) (id : InodeId) where
  once : (p q : Names) (a b : Node FileBlocks) → node_at tree p ≡ Some a → node_at tree q ≡ Some b → a.id.0 ≡ b.id.0 → p ≡ q
  once p q a b h k same = is.once p q a b h k (ap (λ (n : ℕ). record { 0 = n }) same)

  stands_has : (o : Option (Names × Node FileBlocks)) (u : Unit {0}) → place_of tree id ≡ o → stands o ≡ Ok u → file_there o ≡ file_in s (rows_at table id)
  stands_has None u e here = absurd (err_ok here)
  stands_has (Some (p, n)) u e here =
      let at = place_node tree sorted once id p n e in
      let same : n.id ≡ id = ap (λ (k : ℕ). record { 0 = k }) at.1 in
      ap file_there (sym e ∙ ap (place_of tree) (sym same)) ∙ there-read table s top tree reads each p n at.0 ∙ ap (λ (i : InodeId). file_in s (rows_at table i)) same

-- ---- snapshots by their ids

number_so : (a b : SnapId) → (a.0 == b.0) ≡ true → a ≡ b
number_so a b t = ap (λ (n : ℕ). record { 0 = n }) ((Decides-eqb a.0 b.0).0 t)

record IsFound (members : List (Member FileBlocks)) (snapshot : SnapId) (m : Member FileBlocks) : Type 0 where
  within : In members m
  named : m.snapshot ≡ snapshot

with_in : (members : List (Member FileBlocks)) (snapshot : SnapId) (m : Member FileBlocks) → member_with members snapshot ≡ Ok m → IsFound members snapshot m
with_in [] snapshot m e = absurd (err_ok e)
with_in (o ∷ ms) snapshot m e = elim (o.snapshot.0 == snapshot.0) as (λ b. (o.snapshot.0 == snapshot.0) ≡ b → cond {A = Asked (Member FileBlocks)} b (Ok o) (member_with ms snapshot) ≡ Ok m → IsFound (o ∷ ms) snapshot m) [
  | true ↦ λ t h. let same : o ≡ m = ok_same h in record { within = inl same; named = ap (λ (x : Member FileBlocks). x.snapshot) (sym same) ∙ number_so o.snapshot snapshot t }
  | false ↦ λ _ h. let rest = with_in ms snapshot m h in record { within = inr rest.within; named = rest.named }
] refl e

-- ---- a place

module _ (t : Tabled) (snaps : Snapshots) (state : State FileBlocks) (all : StandsFor t snaps state) where
  abbrev copied : InodeId → Asked (Member FileBlocks) → Asked FileBlocks
  copied id a = a >>= λ member. file_there (place_of member.tree id)

  abbrev copy_there : InodeId → Asked (Member FileBlocks) → Asked (Unit {0})
  copy_there id a = a >>= λ member. stands (place_of member.tree id)

  copied_has : (id : InodeId) (snapshot : SnapId) (a : Asked (Member FileBlocks)) (u : Unit {0}) → member_with state.members snapshot ≡ a → copy_there id a ≡ Ok u → copied id a ≡ file_in snapshot.0 (rows_at t.rows id)
  copied_has id snapshot (Err why) u e here = absurd (err_ok here)
  copied_has id snapshot (Ok m) u e here =
      let found = with_in state.members snapshot m e in
      let within : Contains state.members m = contains-in state.members m found.within in
      stands_has t.rows m.snapshot.0 m.directory m.tree (all_so (λ (o : Member FileBlocks). is_sorted path_cmp o.tree) state.members all.valid.copies_sorted m found.within)
      (all_so (λ (o : Member FileBlocks). has_each_once o.tree) state.members all.valid.copies_each_once m found.within) ((from-valid state all.valid).copies m within) (all.stands.frozen m within) id (place_of m.tree id) u refl here
      ∙ ap (λ (k : SnapId). file_in k.0 (rows_at t.rows id)) found.named

  copied_lacks : (id : InodeId) (a : Asked (Member FileBlocks)) (why : Refusal) → copy_there id a ≡ Err why → copied id a ≡ Err why
  copied_lacks id (Err other) why e = as_why e
  copied_lacks id (Ok m) why e = stands_lacks (place_of m.tree id) why e

  list_has : (b : Bool) (u : Unit {0}) → refuse_if (not b) NotFound ≡ Ok u → cond {A = Asked FileBlocks} b (Err NotFile) (Err NotFound) ≡ Err NotFile
  list_has true u e = refl
  list_has false u e = absurd (err_ok e)

  list_lacks : (b : Bool) (why : Refusal) → refuse_if (not b) NotFound ≡ Err why → cond {A = Asked FileBlocks} b (Err NotFile) (Err NotFound) ≡ Err why
  list_lacks true why e = absurd (err_ok (sym e))
  list_lacks false why e = as_why e

  -- at a place that is there the rows have the plain state's file
  has_file : (place : Place) (u : Unit {0}) → there state place ≡ Ok u → file_at state place ≡ file_placed t.rows place
  has_file (places.Live id) u here = stands_has t.rows 0 root_id state.tree all.valid.sorted all.valid.each_once (from-valid state all.valid).live all.stands.live id (place_of state.tree id) u refl here
  has_file (places.Frozen id snapshot) u here = copied_has id snapshot (member_with state.members snapshot) u refl here
  has_file (places.SnapshotsOf dir) u here = list_has (is_snapshottable state dir) u here

  -- and at another there is none
  lacks_file : (place : Place) (why : Refusal) → there state place ≡ Err why → file_at state place ≡ Err why
  lacks_file (places.Live id) why e = stands_lacks (place_of state.tree id) why e
  lacks_file (places.Frozen id snapshot) why e = copied_lacks id (member_with state.members snapshot) why e
  lacks_file (places.SnapshotsOf dir) why e = list_lacks (is_snapshottable state dir) why e

  -- ---- the file of a cursor

  module _ (place : Place) where
    abbrev then_file : Bool → Asked (Place × FileBlocks)
    then_file gone = refuse_if gone Gone >>= λ live. (file_at state place >>= λ file. Ok (place, file))

    pub next-refused : (why : Refusal) → standing state place ≡ Err why → next_file state place ≡ Err why
    next-refused why e = by (is_gone state place) e
      where
        by : (gone : Bool) → (refuse_if gone Gone >>= λ live. there state place) ≡ Err why → then_file gone ≡ Err why
        by true h = as_why h
        by false h = ap (λ (a : Asked FileBlocks). a >>= λ file. Ok (place, file)) (lacks_file place why h)

    pub next-found : (u : Unit {0}) → standing state place ≡ Ok u → next_file state place ≡ placed_file t.rows place
    next-found u e = by (is_gone state place) e
      where
        by : (gone : Bool) → (refuse_if gone Gone >>= λ live. there state place) ≡ Ok u → then_file gone ≡ placed_file t.rows place
        by true h = absurd (err_ok h)
        by false h = ap (λ (a : Asked FileBlocks). a >>= λ file. Ok (place, file)) (has_file place u h)
