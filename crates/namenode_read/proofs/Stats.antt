-- What rows tell of a place that is there is what the plain state answers.
use Rattle.std.proofs.Common.{◌≡◌, ℕ, suc, Bool, true, false, List, [], ◌∷◌, map, length, Option, Some, None, Ok, refl, sym, ap, ◌∙◌}
use Rattle.std.specs.Prelude.{◌==◌}
use Rattle.std.specs.List.{filter}
use Rattle.std.specs.Option.{option_map}
use Rattle.std.specs.Cmp.{nat_eq_equiv}
use Rattle.std.specs.FinMap.Entries.{is_sorted}
use Rattle.std.proofs.lemmas.List.{length-map}
use Rattle.std.proofs.lemmas.List.Sums.{length-filter}
use Rattle.hs_types.specs.Names.{Names}
use Rattle.hs_types.specs.declared.ids.InodeId.{InodeId}
use Rattle.hs_types.specs.declared.ids.SnapId.{SnapId}
use Rattle.hs_types.specs.declared.reply.Reply.TheVariants as replies
use Rattle.hs_types.specs.declared.call.Place.{Place}
use Rattle.hs_types.specs.declared.call.Place.TheVariants as places
use Rattle.hs_plain.specs.declared.state.Node.{Node}
use Rattle.hs_plain.specs.declared.state.Member.{Member}
use Rattle.hs_plain.specs.declared.state.State.{State}
use Rattle.hs_plain.specs.declared.state.FileBlocks.{FileBlocks}
use Rattle.hs_plain.specs.Asked.{Asked, ◌>>=◌}
use Rattle.hs_plain.specs.Files.{block_files}
use Rattle.hs_plain.specs.Tree.{Tree, path_cmp, node_at, is_dir, listing, place_of, same_inode}
use Rattle.hs_plain.specs.State.{is_snapshottable, snapshots_of}
use Rattle.hs_plain.specs.Valid.{is_dir_place}
use Rattle.hs_plain.specs.Reading.{node_stat, list_stat, stat_at}
use Rattle.hs_plain.proofs.ValidShapes.{none_some, same_some, true_false}
use Rattle.hs_plain.proofs.ValidLists.{all_so}
use Rattle.hs_plain.proofs.ValidDirs.{listed_so}
use Rattle.hs_plain.proofs.Trees.{place_node}
use Rattle.dir_changes.specs.History.{DirHistory, children_at}
use Rattle.snapshot_manager.specs.Snapshots.{Snapshots, snaps_in}
use Rattle.snapshot_manager.specs.Members.{of_dir}
use Rattle.inode_table.specs.Joined.{told}
use Rattle.inode_table.specs.Listed.{entry_of}
use Rattle.inode_table.specs.Reads.{ReadsAs, IsNodes, Has}
use Rattle.inode_table.specs.RowHistory.{Table, RowHistory, File, Dir, rows_at, shown, node_in}
use Rattle.inode_table.specs.Stands.{root_id}
use Rattle.inode_table.specs.Tabled.{Tabled}
use Rattle.inode_table.specs.Whole.{StandsFor}
use Rattle.namenode_read.specs.ByRows.{stat_in, list_stat_in, stat_found}
use Rattle.paged_listing.specs.Places.{IsThere}
use Rattle.paged_listing.proofs.Trees.{AreSound, place_has, row_shows, entries_listed, are_sound, live_is, copy_is, copy_sorted}

-- ---- one tree

module _ (table : Table) (s : ℕ) (sound : AreSound table) (top : InodeId) (tree : Tree FileBlocks) (sorted : is_sorted path_cmp tree ≡ true) (is : IsNodes (node_at tree)) (reads : ReadsAs (shown table s) top (node_at tree)) where
  pub stat_told : (id : InodeId) → Has (node_at tree) id → node_stat block_files tree (place_of tree id) ≡ stat_in s id (rows_at table id)
  stat_told id has = ap (node_stat block_files tree) (place_has table s sound top tree sorted is reads id has) ∙ by (rows_at table id) refl (row_shows table s sound top tree sorted is reads id has)
    where
      by : (o : Option RowHistory) → rows_at table id ≡ o → option_map (node_in id s) o ≡ Some has.node → node_stat block_files tree (Some (has.at, has.node)) ≡ stat_in s id o
      by None e shows = absurd (none_some shows)
      by (Some (File file)) e shows =
          let same : node_in id s (File file) ≡ has.node = same_some shows in
          ap (λ (n : Node FileBlocks). node_stat block_files tree (Some (has.at, n))) (sym same)
      by (Some (Dir dir)) e shows =
          let same : node_in id s (Dir dir) ≡ has.node = same_some shows in
          let count : length (listing tree has.at) ≡ length (children_at s dir) = sym (length-map (listing tree has.at) entry_of) ∙ ap length (sym (entries_listed table s sound top tree sorted is reads id dir has e)) in
          ap (λ (n : Node FileBlocks). node_stat block_files tree (Some (has.at, n))) (sym same)
          ∙ ap (λ n. Ok (replies.Stat id true (node_in id s (Dir dir)).mode (node_in id s (Dir dir)).stamp n)) count

  pub list_told : (snapshots : ℕ) (id : InodeId) (has : Has (node_at tree) id) → is_dir has.node ≡ true → list_stat snapshots (place_of tree id) ≡ (list_stat snapshots (Some (has.at, has.node)))
  list_told snapshots id has dir = ap (list_stat snapshots) (place_has table s sound top tree sorted is reads id has)

-- ---- the whole

count_filtered : (dir : InodeId) (ms : List (Member FileBlocks)) → length (filter (λ m. dir.0 == m.0.0) (map told ms)) ≡ length (filter (λ m. same_inode m.directory dir) ms)
count_filtered dir [] = refl
count_filtered dir (m ∷ ms) = by (count_filtered dir ms) (same_inode m.directory dir) refl
  where
    by : length (filter (λ m. dir.0 == m.0.0) (map told ms)) ≡ length (filter (λ m. same_inode m.directory dir) ms) → (b : Bool) → same_inode m.directory dir ≡ b
        → length (filter (λ m. dir.0 == m.0.0) (map told (m ∷ ms))) ≡ length (filter (λ m. same_inode m.directory dir) (m ∷ ms))
    by rest true e = let flip : (dir.0 == m.directory.0) ≡ true = nat_eq_equiv.symm dir.0 m.directory.0 ∙ e in rw (e, flip) (ap (λ n. suc n) rest)
    by rest false e = let flip : (dir.0 == m.directory.0) ≡ false = nat_eq_equiv.symm dir.0 m.directory.0 ∙ e in rw (e, flip) rest

count_told : (members : List (Member FileBlocks)) (dir : InodeId) → length (of_dir dir (map told members)) ≡ snapshots_of members dir
count_told members dir = length-map (filter (λ m. dir.0 == m.0.0) (map told members)) (λ m. m.1) ∙ count_filtered dir members ∙ length-filter (λ m. same_inode m.directory dir) members

module _ (table : Tabled) (snaps : Snapshots) (state : State FileBlocks) (all : StandsFor table snaps state) where
  -- a snapshottable directory stands in the live tree
  pub dir_has : (dir : InodeId) → is_snapshottable state dir ≡ true → (has : Has (node_at state.tree) dir) × (is_dir has.node ≡ true)
  dir_has dir may = by (place_of state.tree dir) refl (all_so (λ id. is_dir_place (place_of state.tree id)) state.snapshottable all.valid.snapshottable_dirs dir (listed_so state.snapshottable dir may))
    where
      by : (o : Option (Names × Node FileBlocks)) → place_of state.tree dir ≡ o → is_dir_place o ≡ true → (has : Has (node_at state.tree) dir) × (is_dir has.node ≡ true)
      by None e is = absurd (true_false is refl)
      by (Some place) e is =
          let at = place_node state.tree all.valid.sorted (λ p q a b at bt same. (live_is table snaps state all).once p q a b at bt (λ i. record { 0 = same i })) dir place.0 place.1 e in
          (record { at = place.0; node = place.1; is = at.0; named = λ i. record { 0 = at.1 i } }, is)

  -- and its row is a directory's
  pub dir_row : (dir : InodeId) → is_snapshottable state dir ≡ true → (history : DirHistory) × (rows_at table.rows dir ≡ Some (Dir history))
  dir_row dir may = let d = dir_has dir may in by d.0 d.1 (rows_at table.rows dir) refl (row_shows table.rows 0 (are_sound table snaps state all) root_id state.tree all.valid.sorted (live_is table snaps state all) all.stands.live dir d.0)
    where
      by : (has : Has (node_at state.tree) dir) → is_dir has.node ≡ true → (o : Option RowHistory) → rows_at table.rows dir ≡ o → option_map (node_in dir 0) o ≡ Some has.node → (history : DirHistory) × (rows_at table.rows dir ≡ Some (Dir history))
      by has is None e shows = absurd (none_some shows)
      by has is (Some (File file)) e shows = absurd (true_false (ap is_dir (same_some shows) ∙ is) refl)
      by has is (Some (Dir history)) e shows = (history, e)

  pub count_snaps : (dir : InodeId) → snapshots_of state.members dir ≡ length (snaps_in snaps dir)
  count_snaps dir = sym (ap length (all.told.tables dir) ∙ count_told state.members dir)

  list_found : (dir : InodeId) → is_snapshottable state dir ≡ true → list_stat (snapshots_of state.members dir) (place_of state.tree dir) ≡ list_stat_in (length (snaps_in snaps dir)) dir (rows_at table.rows dir)
  list_found dir may =
      let d = dir_has dir may in
      let row = dir_row dir may in
      let shows : option_map (node_in dir 0) (rows_at table.rows dir) ≡ Some d.0.node = row_shows table.rows 0 (are_sound table snaps state all) root_id state.tree all.valid.sorted (live_is table snaps state all) all.stands.live dir d.0 in
      let same : node_in dir 0 (Dir row.0) ≡ d.0.node = same_some (rw row.1 at shows) in
      ap (list_stat (snapshots_of state.members dir)) (place_has table.rows 0 (are_sound table snaps state all) root_id state.tree all.valid.sorted (live_is table snaps state all) all.stands.live dir d.0)
      ∙ ap (λ (n : Node FileBlocks). list_stat (snapshots_of state.members dir) (Some (d.0.at, n))) (sym same)
      ∙ ap (λ n. list_stat_in n dir (Some (Dir row.0))) (count_snaps dir)
      ∙ ap (list_stat_in (length (snaps_in snaps dir)) dir) (sym row.1)

  -- what is found at a place that is there
  pub stat_there : (place : Place) → IsThere state place → stat_found table.rows snaps place ≡ stat_at block_files state place
  stat_there (places.Live id) there = sym (stat_told table.rows 0 (are_sound table snaps state all) root_id state.tree all.valid.sorted (live_is table snaps state all) all.stands.live id there)
  stat_there (places.Frozen id snapshot) there =
      let m = there.member in
      sym (ap (λ (a : Asked (Member FileBlocks)). a >>= λ member. node_stat block_files member.tree (place_of member.tree id)) there.found
      ∙ stat_told table.rows m.snapshot.0 (are_sound table snaps state all) m.directory m.tree (copy_sorted table snaps state all m there.within) (copy_is table snaps state all m there.within) (all.stands.frozen m there.within) id there.has
      ∙ ap (λ (k : SnapId). stat_in k.0 id (rows_at table.rows id)) there.named)
  stat_there (places.SnapshotsOf dir) there = sym (list_found dir there)
