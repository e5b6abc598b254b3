-- The items of a place that is there, by rows and in the plain state.
use Rattle.std.proofs.Common.{◌≡◌, inl, inr, ℕ, Bool, true, false, cond, List, [], ◌∷◌, map, Option, Some, None, Ok, Err, refl, sym, ap, ◌∙◌}
use Rattle.std.specs.Prelude.{◌==◌}
use Rattle.std.specs.List.{cons_option}
use Rattle.std.specs.Option.{option_map}
use Rattle.std.specs.Cmp.{nat_eq_equiv}
use Rattle.std.specs.FinMap.Entries.{is_sorted}
use Rattle.hs_types.specs.Names.{Names}
use Rattle.hs_types.specs.declared.ids.InodeId.{InodeId}
use Rattle.hs_types.specs.declared.ids.SnapId.{SnapId}
use Rattle.hs_types.specs.declared.refusal.Refusal.TheVariants.{NotFound}
use Rattle.hs_types.specs.declared.reply.Item.{Item}
use Rattle.hs_types.specs.declared.call.ListCursor.{ListCursor}
use Rattle.hs_types.specs.declared.call.Place.{Place}
use Rattle.hs_types.specs.declared.call.Place.TheVariants as places
use Rattle.hs_plain.specs.declared.state.Node.{Node}
use Rattle.hs_plain.specs.declared.state.Member.{Member}
use Rattle.hs_plain.specs.declared.state.State.{State}
use Rattle.hs_plain.specs.declared.state.FileBlocks.{FileBlocks}
use Rattle.hs_plain.specs.Asked.{Asked, ◌>>=◌}
use Rattle.hs_plain.specs.Tree.{Tree, path_cmp, node_at, is_dir, named_item, name_below, listing, place_of, same_inode}
use Rattle.hs_plain.specs.State.{with_item, snapshot_items, items_of, items_at}
use Rattle.hs_plain.proofs.ValidShapes.{none_some, same_some}
use Rattle.hs_plain.proofs.ValidLists.{In}
use Rattle.hs_plain.proofs.ValidHeld.{found_place}
use Rattle.snapshot_manager.specs.Snapshots.{Snapshots}
use Rattle.snapshot_manager.specs.Members.{of_dir}
use Rattle.inode_table.specs.Joined.{told}
use Rattle.inode_table.specs.Listed.{entry_of}
use Rattle.inode_table.specs.Reads.{ReadsAs, IsNodes, Has}
use Rattle.inode_table.specs.RowHistory.{Table, RowHistory, File, Dir, rows_at, shown, node_in}
use Rattle.inode_table.specs.Stands.{root_id}
use Rattle.inode_table.specs.Tabled.{Tabled}
use Rattle.inode_table.specs.Whole.{StandsFor}
use Rattle.paged_listing.specs.Items.{is_dir_row, item_in, items_in, snap_items, items_found, page_found, page_asked, paged}
use Rattle.paged_listing.specs.Places.{IsThere}
use Rattle.paged_listing.proofs.Trees.{AreSound, place_has, row_shows, entries_listed, are_sound, live_is, copy_is, copy_sorted}

-- ---- one tree

module _ (table : Table) (s : ℕ) where
  -- the row of a place's node shows it
  abbrev Shows : Names × Node FileBlocks → Type 0
  Shows place = option_map (node_in place.1.id s) (rows_at table place.1.id) ≡ Some place.1

  kind_shown : (n : Node FileBlocks) (o : Option RowHistory) → option_map (node_in n.id s) o ≡ Some n → is_dir_row o ≡ is_dir n
  kind_shown n None shows = absurd (none_some shows)
  kind_shown n (Some (File file)) shows = ap is_dir (same_some shows)
  kind_shown n (Some (Dir dir)) shows = ap is_dir (same_some shows)

  items_back : (p : Names) (places : Tree FileBlocks) → ((e : Names × Node FileBlocks) → In places e → Shows e) → map (item_in table) (map entry_of (listing places p)) ≡ listing places p
  items_back p [] all = refl
  items_back p (e ∷ es) all = by (name_below p e.0) (items_back p es (λ d at. all d (inr at)))
    where
      by : (o : Option (List ℕ)) → map (item_in table) (map entry_of (listing es p)) ≡ listing es p
          → map (item_in table) (map entry_of (cons_option (named_item e.1 o) (listing es p))) ≡ cons_option (named_item e.1 o) (listing es p)
      by None rest = rest
      by (Some name) rest =
          ap (λ (items : List Item). item_in table (name, e.1.id) ∷ items) rest
          ∙ ap (λ b. record { name = name; id = e.1.id; is_dir = b } ∷ listing es p) (kind_shown e.1 (rows_at table e.1.id) (all e (inl refl)))

  module _ (sound : AreSound table) (top : InodeId) (tree : Tree FileBlocks) (sorted : is_sorted path_cmp tree ≡ true) (is : IsNodes (node_at tree)) (reads : ReadsAs (shown table s) top (node_at tree)) where
    pub items_told : (id : InodeId) → Has (node_at tree) id → items_of tree (place_of tree id) ≡ items_in table s (rows_at table id)
    items_told id has = ap (items_of tree) (place_has table s sound top tree sorted is reads id has) ∙ by (rows_at table id) refl (row_shows table s sound top tree sorted is reads id has)
      where
        by : (o : Option RowHistory) → rows_at table id ≡ o → option_map (node_in id s) o ≡ Some has.node → items_of tree (Some (has.at, has.node)) ≡ items_in table s o
        by None e shows = absurd (none_some shows)
        by (Some (File file)) e shows = ap (λ (n : Node FileBlocks). items_of tree (Some (has.at, n))) (sym (same_some shows))
        by (Some (Dir dir)) e shows =
            ap (λ (n : Node FileBlocks). items_of tree (Some (has.at, n))) (sym (same_some shows))
            ∙ ap (λ (items : List Item). Ok items)
            (sym (ap (map (item_in table)) (entries_listed table s sound top tree sorted is reads id dir has e)
            ∙ items_back has.at tree (λ e at. reads.node e.0 e.1 (found_place tree sorted e at))))

-- ---- snapshots

snaps_told : (members : List (Member FileBlocks)) (dir : InodeId) → snapshot_items members dir ≡ snap_items dir (of_dir dir (map told members))
snaps_told [] dir = refl
snaps_told (m ∷ ms) dir = by (snaps_told ms dir) (same_inode m.directory dir) refl
  where
    by : snapshot_items ms dir ≡ snap_items dir (of_dir dir (map told ms)) → (b : Bool) → same_inode m.directory dir ≡ b → snapshot_items (m ∷ ms) dir ≡ snap_items dir (of_dir dir (map told (m ∷ ms)))
    by rest true e = let flip : (dir.0 == m.directory.0) ≡ true = nat_eq_equiv.symm dir.0 m.directory.0 ∙ e in rw (e, flip) (ap (with_item (record { name = m.name; id = dir; is_dir = true })) rest)
    by rest false e = let flip : (dir.0 == m.directory.0) ≡ false = nat_eq_equiv.symm dir.0 m.directory.0 ∙ e in rw (e, flip) rest

-- ---- the whole

module _ (table : Tabled) (snaps : Snapshots) (state : State FileBlocks) (all : StandsFor table snaps state) where
  pub items_there : (place : Place) → IsThere state place → items_found table.rows snaps place ≡ items_at state place
  items_there (places.Live id) there = sym (items_told table.rows 0 (are_sound table snaps state all) root_id state.tree all.valid.sorted (live_is table snaps state all) all.stands.live id there)
  items_there (places.Frozen id snapshot) there =
      let m = there.member in
      sym (ap (λ (a : Asked (Member FileBlocks)). a >>= λ member. items_of member.tree (place_of member.tree id)) there.found
      ∙ items_told table.rows m.snapshot.0 (are_sound table snaps state all) m.directory m.tree (copy_sorted table snaps state all m there.within) (copy_is table snaps state all m there.within) (all.stands.frozen m there.within) id there.has
      ∙ ap (λ (k : SnapId). items_in table.rows k.0 (rows_at table.rows id)) there.named)
  items_there (places.SnapshotsOf dir) there =
      sym (ap (λ b. cond {A = Asked (List Item)} b (Ok (snapshot_items state.members dir)) (Err NotFound)) there
      ∙ ap (λ (items : List Item). Ok items) (snaps_told state.members dir ∙ ap (snap_items dir) (sym (all.told.tables dir))))

  pub page_there : (cursor : ListCursor) (size : ℕ) → IsThere state cursor.place → page_found table.rows snaps cursor size ≡ page_asked state cursor size
  page_there cursor size there = ap (paged cursor size) (items_there cursor.place there)
