-- Snapshottable directories and their snapshots, by rows and in the plain state.
use Rattle.std.proofs.Common.{◌≡◌, ℕ, Bool, true, false, cond, not, List, [], ◌∷◌, map, Option, Some, None, Ok, Err, refl, sym, ap, ◌∙◌}
use Rattle.std.specs.Prelude.{◌==◌}
use Rattle.std.specs.List.{filter_map}
use Rattle.std.specs.Option.{option_map}
use Rattle.std.specs.Cmp.{nat_eq_equiv}
use Rattle.hs_types.specs.declared.ids.InodeId.{InodeId}
use Rattle.hs_types.specs.declared.name.SnapItem.{SnapItem}
use Rattle.hs_types.specs.declared.refusal.Refusal.TheVariants.{NotSnapshottable}
use Rattle.hs_types.specs.declared.call.Place.{Place}
use Rattle.hs_types.specs.declared.call.Place.TheVariants as places
use Rattle.hs_plain.specs.declared.state.Node.{Node}
use Rattle.hs_plain.specs.declared.state.Member.{Member}
use Rattle.hs_plain.specs.declared.state.State.{State}
use Rattle.hs_plain.specs.declared.state.FileBlocks.{FileBlocks}
use Rattle.hs_plain.specs.Asked.{Asked, ◌>>=◌, refuse_if}
use Rattle.hs_plain.specs.Tree.{Tree, path_cmp, node_at, place_of, same_inode}
use Rattle.hs_plain.specs.State.{is_snapshottable}
use Rattle.hs_plain.specs.Reading.{directory_there, live_directory, snap_item}
use Rattle.hs_plain.proofs.ValidShapes.{none_some, same_some}
use Rattle.std.specs.FinMap.Entries.{is_sorted}
use Rattle.snapshot_manager.specs.Snapshots.{Snapshots, snaps_in}
use Rattle.snapshot_manager.specs.Members.{of_dir}
use Rattle.inode_table.specs.Joined.{told}
use Rattle.inode_table.specs.Reads.{ReadsAs, IsNodes, Has}
use Rattle.inode_table.specs.RowHistory.{Table, RowHistory, File, Dir, rows_at, shown, node_in}
use Rattle.inode_table.specs.Stands.{root_id}
use Rattle.inode_table.specs.Tabled.{Tabled}
use Rattle.inode_table.specs.Whole.{StandsFor}
use Rattle.namenode_read.specs.ByRows.{directory_in, live_directory_found, may_have, snapshottable_found}
use Rattle.paged_listing.specs.Places.{IsThere}
use Rattle.paged_listing.proofs.Trees.{AreSound, place_has, row_shows, are_sound, live_is, copy_is, copy_sorted}

-- what is asked of a place for its snapshottable directory
abbrev pub asked_directory : State FileBlocks → Place → Asked InodeId
asked_directory state place = do
  dir ← live_directory state place
  there ← refuse_if (not (is_snapshottable state dir)) NotSnapshottable
  Ok dir

-- ---- what is shown of them

pub shown_snaps : (members : List (Member FileBlocks)) (dir : InodeId) → filter_map (snap_item dir) members ≡ of_dir dir (map told members)
shown_snaps [] dir = refl
shown_snaps (m ∷ ms) dir = by (shown_snaps ms dir) (same_inode m.directory dir) refl
  where
    by : filter_map (snap_item dir) ms ≡ of_dir dir (map told ms) → (b : Bool) → same_inode m.directory dir ≡ b → filter_map (snap_item dir) (m ∷ ms) ≡ of_dir dir (map told (m ∷ ms))
    by rest true e = let flip : (dir.0 == m.directory.0) ≡ true = nat_eq_equiv.symm dir.0 m.directory.0 ∙ e in rw (e, flip) (ap (λ (items : List SnapItem). (told m).1 ∷ items) rest)
    by rest false e = let flip : (dir.0 == m.directory.0) ≡ false = nat_eq_equiv.symm dir.0 m.directory.0 ∙ e in rw (e, flip) rest

-- ---- directories

directory_told : (table : Table) (s : ℕ) (sound : AreSound table) (top : InodeId) (tree : Tree FileBlocks) (sorted : is_sorted path_cmp tree ≡ true) (is : IsNodes (node_at tree)) (reads : ReadsAs (shown table s) top (node_at tree))
    → (id : InodeId) → Has (node_at tree) id → directory_there (place_of tree id) ≡ directory_in id (rows_at table id)
directory_told table s sound top tree sorted is reads id has =
    ap directory_there (place_has table s sound top tree sorted is reads id has) ∙ by (rows_at table id) refl (row_shows table s sound top tree sorted is reads id has)
  where
    by : (o : Option RowHistory) → rows_at table id ≡ o → option_map (node_in id s) o ≡ Some has.node → directory_there (Some (has.at, has.node)) ≡ directory_in id o
    by None e shows = absurd (none_some shows)
    by (Some (File file)) e shows = ap (λ (n : Node FileBlocks). directory_there (Some (has.at, n))) (sym (same_some shows))
    by (Some (Dir dir)) e shows = ap (λ (n : Node FileBlocks). directory_there (Some (has.at, n))) (sym (same_some shows))

module _ (table : Tabled) (snaps : Snapshots) (state : State FileBlocks) (all : StandsFor table snaps state) where
  live_told : (place : Place) → IsThere state place → live_directory_found table.rows place ≡ live_directory state place
  live_told (places.Live id) there = sym (directory_told table.rows 0 (are_sound table snaps state all) root_id state.tree all.valid.sorted (live_is table snaps state all) all.stands.live id there)
  live_told (places.Frozen id snapshot) there =
      let m = there.member in
      sym (ap (λ (a : Asked (Member FileBlocks)). a >>= λ member. (directory_there (place_of member.tree id) >>= λ _. Err NotSnapshottable)) there.found
      ∙ ap (λ (a : Asked InodeId). a >>= λ _. Err NotSnapshottable)
      (directory_told table.rows m.snapshot.0 (are_sound table snaps state all) m.directory m.tree (copy_sorted table snaps state all m there.within) (copy_is table snaps state all m there.within) (all.stands.frozen m there.within) id there.has))
  live_told (places.SnapshotsOf dir) there = refl

  may_told : (dir : InodeId) → may_have snaps dir ≡ (refuse_if (not (is_snapshottable state dir)) NotSnapshottable >>= λ _. Ok dir)
  may_told dir = ap (λ b. cond {A = Asked InodeId} b (Ok dir) (Err NotSnapshottable)) (sym (all.snapshottable dir)) ∙ by (is_snapshottable state dir)
    where
      by : (b : Bool) → cond {A = Asked InodeId} b (Ok dir) (Err NotSnapshottable) ≡ (refuse_if (not b) NotSnapshottable >>= λ _. Ok dir)
      by true = refl
      by false = refl

  -- the snapshottable directory of a place that is there
  pub directory_found : (place : Place) → IsThere state place → snapshottable_found table.rows snaps place ≡ asked_directory state place
  directory_found place there = ap (λ (a : Asked InodeId). a >>= may_have snaps) (live_told place there) ∙ then_may (live_directory state place)
    where
      then_may : (a : Asked InodeId) → (a >>= may_have snaps) ≡ (a >>= λ dir. (refuse_if (not (is_snapshottable state dir)) NotSnapshottable >>= λ _. Ok dir))
      then_may (Ok dir) = may_told dir
      then_may (Err why) = refl

  pub snaps_shown : (dir : InodeId) → filter_map (snap_item dir) state.members ≡ snaps_in snaps dir
  snaps_shown dir = shown_snaps state.members dir ∙ sym (all.told.tables dir)
